use Rattle.std.proofs.Common.{◌≡◌, suc, ◌<◌, length, vec_items, sym, arith, rules}
use Rattle.std.specs.Iterator.Adapters.{enumerate_count, rev_source}
use Rattle.structures.specs.Marks.{marked}
use Rattle.structures.proofs.Walking.{parent_below}
use Rattle.structures.proofs.Marked.{marked_within}
use Rattle.structures.proofs.Reading.{ParentsTurn, parents_left, parents_none, parents_turn}
use Rattle.structures.proofs.Carrying.{Carried, carried_none, carried_over, carried_one, carried_two, carried_all}
use Rattle.structures.proofs.tree.TreeStructure.choice.Goals as goal
use Rattle.structures.proofs.tree.TreeStructure.choice.Goals.{In-Some, In-One}

pub loop-node-init : goal.loop-node-init
loop-node-init c =
    let t = c.args.self.now in
    let it = c.into_iter-node-iterator.result in
    let first : enumerate_count (rev_source it) ≡ 0 = search rules in
    let all : parents_left it ≡ vec_items t.parents = search rules in
    record {
      reading = parents_none (vec_items t.parents) it first all;
      carried = rw all (carried_none _ (vec_items t.parents) (vec_items t.homes) t.ok (marked_within _ c.args.marks.now) c.at_homes-held.result c.at_homes-held.ensures);
    }

-- the turn at a node, and the pass as it comes there
at : (c : In-Some) → ParentsTurn (vec_items c.args.self.now.parents) c.loop-node.node-iterator c.next.new.self c.in-Some.node c.in-Some.parent.now
at c = parents_turn (vec_items c.args.self.now.parents) c.loop-node.node-iterator c.next.new.self c.in-Some.node c.in-Some.parent
    c.loop-node.invariant.reading c.in-Some.ensures.steps

come : (c : In-Some) → Carried (marked (length (vec_items c.args.self.now.homes)) c.args.marks.now) (vec_items c.args.self.now.parents)
    (vec_items c.args.self.now.homes) (suc c.in-Some.node) c.loop-node.held
come c = rw (at c).before at c.loop-node.invariant.carried

pub loop-node-preserved-in-Nothing : goal.loop-node-preserved-in-Nothing
loop-node-preserved-in-Nothing c =
    let t = c.args.self.now in
    let here = (goal.at.loop-node-preserved-in-Nothing c).In-Some in
    record {
      reading = (at here).onward;
      carried = rw (sym (at here).here) (carried_over _ (vec_items t.parents) (vec_items t.homes) t.ok (marked_within _ c.args.marks.now) c.in-Some.node
          c.loop-node.held (come here) c.in-Nothing.is);
    }

-- the parent is a node
parent : (c : In-One) → c.in-Some.parent.now.0 < 1024
parent c =
    let t = c.args.self.now in
    let here = (goal.at.In-One c).In-Some in
    rw (at here).drains (parent_below (vec_items t.parents) (vec_items t.homes) t.ok c.in-Some.node 1024 (omega (arith, t.ok.0, (come here).left)))

pub bounds-held-parent : goal.bounds-held-parent
bounds-held-parent c = parent c

pub bounds-held-parent-in-One : goal.bounds-held-parent-in-One
bounds-held-parent-in-One c = parent (goal.at.bounds-held-parent-in-One c).In-One

pub loop-node-preserved : goal.loop-node-preserved
loop-node-preserved c =
    let t = c.args.self.now in
    let here = (goal.at.loop-node-preserved c).In-Some in
    let drains = (at here).drains in
    record {
      reading = (at here).onward;
      carried = rw (sym (at here).here, drains) (carried_one _ (vec_items t.parents) (vec_items t.homes) t.ok (marked_within _ c.args.marks.now) c.in-Some.node
          c.loop-node.held (come here) c.in-One.unit c.with.result c.in-One.is (rw drains at c.with.ensures));
    }

pub returns-in-Two : goal.returns-in-Two
returns-in-Two c =
    let t = c.args.self.now in
    let here = (goal.at.returns-in-Two c).In-Some in
    sym (carried_two _ (vec_items t.parents) (vec_items t.homes) t.ok (marked_within _ c.args.marks.now) c.in-Some.node c.loop-node.held (come here)
    c.in-Two.first c.in-Two.second c.in-Two.is)

pub returns : goal.returns
returns c =
    let t = c.args.self.now in
    let done : length (parents_left c.loop-node.node-iterator) ≡ 0 = search rules in
    sym (carried_all _ (vec_items t.parents) (vec_items t.homes) t.ok (marked_within _ c.args.marks.now) c.loop-node.held
    (rw done at c.loop-node.invariant.carried))
