use Rattle.std.proofs.Common.{◌≡◌, length, vec_items, sym, rules}
use Rattle.std.specs.Iterator.Adapters.{enumerate_count}
use Rattle.structures.specs.Drainage.{node_at}
use Rattle.structures.proofs.Reading.{homes_left, marks_left, homes_none, homes_turn, homes_read}
use Rattle.structures.proofs.Holding.{held_none, held_over, held_more, held_all}
use Rattle.structures.proofs.tree.Tree.at_homes.Goals as goal

pub loop-i-init : goal.loop-i-init
loop-i-init c =
    let it = c.into_iter-i-iterator.result in
    let first : enumerate_count it ≡ 0 = search rules in
    let all_homes : homes_left it ≡ vec_items c.args.self.now.homes = search rules in
    let all_marks : marks_left it ≡ c.args.marks.now = search rules in
    record { reading = homes_none _ _ it first all_homes all_marks; kept = rw first (held_none _ _ _) }

pub loop-i-preserved-then-mark-ne0 : goal.loop-i-preserved-then-mark-ne0
loop-i-preserved-then-mark-ne0 c =
    let homes = vec_items c.args.self.now.homes in
    let t = homes_turn homes c.args.marks.now c.loop-i.i-iterator c.next.new.self c.in-Some.i c.in-Some.home c.in-Some.mark
    c.loop-i.invariant.reading c.in-Some.ensures.steps in
    record {
      reading = t.onward;
      kept = rw (sym t.after, t.stands) (held_more (node_at homes) (length homes) c.args.marks.now c.in-Some.i c.loop-i.held c.with.result
          t.below (t.marks c.if-mark-ne0.true) (rw t.stands at c.with.ensures) (rw (sym t.here) at c.loop-i.invariant.kept));
    }

pub loop-i-preserved : goal.loop-i-preserved
loop-i-preserved c =
    let homes = vec_items c.args.self.now.homes in
    let t = homes_turn homes c.args.marks.now c.loop-i.i-iterator c.next.new.self c.in-Some.i c.in-Some.home c.in-Some.mark
    c.loop-i.invariant.reading c.in-Some.ensures.steps in
    record {
      reading = t.onward;
      kept = rw (sym t.after) (held_over (node_at homes) (length homes) c.args.marks.now c.in-Some.i c.loop-i.held
          (t.leaves c.if-mark-ne0.false) (rw (sym t.here) at c.loop-i.invariant.kept));
    }

pub returns : goal.returns
returns c =
    let homes = vec_items c.args.self.now.homes in
    held_all (node_at homes) (length homes) c.args.marks.now (enumerate_count c.loop-i.i-iterator) c.loop-i.held c.loop-i.invariant.reading.within
    (homes_read homes c.args.marks.now c.loop-i.i-iterator c.next.new.self c.loop-i.invariant.reading c.in-None.ensures.steps)
    c.loop-i.invariant.kept
