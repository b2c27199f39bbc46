use Rattle.std.proofs.Common.{vec_items}
use Rattle.structures.specs.Marks.{marked}
use Rattle.structures.specs.Strata.{stratum_at}
use Rattle.structures.proofs.Reading.{position, Reading}
use Rattle.structures.proofs.Tallies.{Tallied}
use Rattle.structures.proofs.strata.Strata.counts.Given as goal

abbrev pub invariant-loop-unit : goal.invariant-loop-unit
invariant-loop-unit g l =
    let n = (g.B.Structure.meaning l.self.below).units in
    record {
      reading : Reading n l.marks l.unit-iterator;
      tallied : Tallied (marked n l.marks) (stratum_at (vec_items l.self.strata)) l.counts (position l.unit-iterator);
    }
