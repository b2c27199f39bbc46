use Rattle.std.proofs.Common.{◌≡◌, ◌<◌, sym, arith, rules}
use Rattle.std.specs.Iterator.Adapters.{take_count}
use Rattle.terms.proofs.Totals.{count_le}
use Rattle.structures.specs.Marks.{marked}
use Rattle.structures.specs.Sets.{both}
use Rattle.structures.specs.Strata.{stratum_at, of_stratum}
use Rattle.structures.proofs.Reading.{position, left, Turn, read_none, turn, read_all}
use Rattle.structures.proofs.Tallies.{tallied_none, tallied_more, tallied_all}
use Rattle.structures.proofs.strata.Strata.counts.Given.{Over}
use Rattle.structures.proofs.strata.Strata.counts.Goals as goal
use Rattle.structures.proofs.strata.Strata.counts.Goals.{In-Some, After-stratum_of}

pub loop-unit-init : goal.loop-unit-init
loop-unit-init g c =
    let it = c.into_iter-unit-iterator.result in
    let n = (g.B.Structure.meaning c.args.self.now.below).units in
    let first : position it ≡ 0 = search rules in
    let all : left it ≡ c.args.marks.now = search rules in
    let limit : take_count it ≡ n = search rules in
    record { reading = read_none n c.args.marks.now it first all limit; tallied = rw first (tallied_none (marked n c.args.marks.now) (stratum_at c.args.self.now.strata.items)) }

-- the turn at a unit
at : (g : Over) (c : In-Some g) → Turn (g.B.Structure.meaning c.args.self.now.below).units c.args.marks.now c.loop-unit.unit-iterator c.next.new.self
    c.in-Some.unit c.in-Some.mark.now
at g c = turn (g.B.Structure.meaning c.args.self.now.below).units c.args.marks.now c.loop-unit.unit-iterator c.next.new.self c.in-Some.unit
    c.in-Some.mark c.loop-unit.invariant.reading c.in-Some.ensures.steps

-- there is a place for each stratum
under : (g : Over) (c : After-stratum_of g) → c.stratum_of.result.0 < 64
under g c = omega (arith, c.stratum_of.ensures, c.args.self.now.ok.1, c.args.self.now.ok.2 c.in-Some.unit)

-- a stratum has at most the units so far
pub overflow_add-counts : goal.overflow_add-counts
overflow_add-counts g c =
    let here = at g (goal.at.overflow_add-counts g c).In-Some in
    let self = c.args.self.now in
    let M = g.B.Structure.meaning self.below in
    let s = c.stratum_of.result.0 in
    let J = both (marked M.units c.args.marks.now) (of_stratum (stratum_at self.strata.items) s) in
    omega (
      arith,
      M.few_units,
      c.loop-unit.invariant.tallied.so_far s (under g (goal.at.overflow_add-counts g c).After-stratum_of),
      count_le J (position c.loop-unit.unit-iterator),
      here.here,
      here.below,
    )

pub loop-unit-preserved-then-mark-ne0 : goal.loop-unit-preserved-then-mark-ne0
loop-unit-preserved-then-mark-ne0 g c =
    let here = at g (goal.at.loop-unit-preserved-then-mark-ne0 g c).In-Some in
    let self = c.args.self.now in
    let J = marked (g.B.Structure.meaning self.below).units c.args.marks.now in
    record {
      reading = here.onward;
      tallied = rw (sym here.after) (tallied_more J (stratum_at self.strata.items) c.loop-unit.counts c.in-Some.unit c.stratum_of.result.0
          (here.marks c.if-mark-ne0.true) c.stratum_of.ensures (under g (goal.at.loop-unit-preserved-then-mark-ne0 g c).After-stratum_of) (rw (sym here.here) at c.loop-unit.invariant.tallied));
    }

pub returns-clause-counts : goal.returns-clause-counts
returns-clause-counts g c u h =
    let self = c.args.self.now in
    let n = (g.B.Structure.meaning self.below).units in
    tallied_all (marked n c.args.marks.now) (stratum_at self.strata.items) c.loop-unit.counts (position c.loop-unit.unit-iterator) n u
    (omega (arith, c.loop-unit.invariant.reading.limit))
    (read_all n c.args.marks.now c.loop-unit.unit-iterator c.next.new.self c.loop-unit.invariant.reading c.in-None.ensures.steps) h
    c.loop-unit.invariant.tallied
