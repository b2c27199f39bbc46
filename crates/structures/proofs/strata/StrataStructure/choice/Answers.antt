use Rattle.std.proofs.Common.{◌≡◌, false, sym, arith, rules}
use Rattle.std.proofs.lemmas.Bool.{and_left}
use Rattle.std.specs.Iterator.Adapters.{take_count}
use Rattle.structures.specs.Marks.{marked, named}
use Rattle.structures.specs.Sets.{both}
use Rattle.structures.specs.Strata.{stratum_at, of_stratum}
use Rattle.structures.proofs.Masks.{masked_none, masked_past, masked_more, kept, left_out, chosen}
use Rattle.structures.proofs.Reading.{position, left, Turn, read_none, turn, read_all}
use Rattle.structures.proofs.strata.StrataStructure.choice.Given.{Over}
use Rattle.structures.proofs.strata.StrataStructure.choice.Goals as goal
use Rattle.structures.proofs.strata.StrataStructure.choice.Goals.{In-Some-2, else-mark-ne0-via-then-mark-ne0+else-eq, else-mark-ne0-via-else-mark-ne0}

pub loop-unit-init : goal.loop-unit-init
loop-unit-init g c =
    let self = c.args.self.now in
    let it = c.into_iter-unit-iterator.result in
    let n = (g.B.Structure.meaning self.below).units in
    let first : position it ≡ 0 = search rules in
    let all : left it ≡ c.args.marks.now = search rules in
    let limit : take_count it ≡ n = search rules in
    record {
      reading = read_none n c.args.marks.now it first all limit;
      masked = rw first (masked_none (both (marked n c.args.marks.now) (of_stratum (stratum_at self.strata.items) c.in-Some.stratum.0)));
    }

-- the turn at a unit
at : (g : Over) (c : In-Some-2 g) → Turn (g.B.Structure.meaning c.args.self.now.below).units c.args.marks.now c.loop-unit.unit-iterator c.next.new.self
    c.in-Some-2.unit c.in-Some-2.mark.now
at g c = turn (g.B.Structure.meaning c.args.self.now.below).units c.args.marks.now c.loop-unit.unit-iterator c.next.new.self c.in-Some-2.unit
    c.in-Some-2.mark c.loop-unit.invariant.reading c.in-Some-2.ensures.steps

pub loop-unit-preserved-then-eq : goal.loop-unit-preserved-then-eq
loop-unit-preserved-then-eq g c =
    let here = at g (goal.at.loop-unit-preserved-then-eq g c).In-Some-2 in
    let M = g.B.Structure.meaning c.args.self.now.below in
    let J = marked M.units c.args.marks.now in
    let stratum = stratum_at c.args.self.now.strata.items in
    let u = c.in-Some.stratum.0 in
    record {
      reading = here.onward;
      masked = rw (sym here.after) (masked_more (both J (of_stratum stratum u)) c.loop-unit.masked c.in-Some-2.unit
          (omega (arith, here.below, M.few_units))
          (kept J stratum u c.in-Some-2.unit c.stratum_of.result.0 c.stratum_of.ensures (here.marks c.if-mark-ne0.true) c.if-eq.ensures)
          (rw (sym here.here) at c.loop-unit.invariant.masked));
    }

pub loop-unit-preserved : goal.loop-unit-preserved
loop-unit-preserved g c =
    let here = at g (goal.at.loop-unit-preserved g c).In-Some-2 in
    let J = marked (g.B.Structure.meaning c.args.self.now.below).units c.args.marks.now in
    let stratum = stratum_at c.args.self.now.strata.items in
    let u = c.in-Some.stratum.0 in
    let unit = c.in-Some-2.unit in
    let out : both J (of_stratum stratum u) unit ≡ false = elim c.else-mark-ne0.branch [
      | else-mark-ne0-via-then-mark-ne0+else-eq w ↦ left_out J stratum u unit w.stratum_of.result.0 w.stratum_of.ensures w.if-eq.ensures
      | else-mark-ne0-via-else-mark-ne0 w ↦ and_left (J unit) (of_stratum stratum u unit) (here.leaves w.if-mark-ne0.false)
    ] in
    record {
      reading = here.onward;
      masked = rw (sym here.after) (masked_past (both J (of_stratum stratum u)) c.loop-unit.masked unit out
          (rw (sym here.here) at c.loop-unit.invariant.masked));
    }

pub returns : goal.returns
returns g c =
    let self = c.args.self.now in
    let M = g.B.Structure.meaning self.below in
    let marks = c.args.marks.now in
    chosen M self.count (stratum_at self.strata.items) marks c.in-Some.stratum.0 c.loop-unit.masked (position c.loop-unit.unit-iterator)
    (named c.choice-2.result) c.in-Some.ensures (omega (arith, c.loop-unit.invariant.reading.limit))
    (read_all M.units marks c.loop-unit.unit-iterator c.next.new.self c.loop-unit.invariant.reading c.in-None.ensures.steps)
    c.loop-unit.invariant.masked c.choice-2.ensures
