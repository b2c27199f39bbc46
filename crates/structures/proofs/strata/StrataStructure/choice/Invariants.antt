use Rattle.std.proofs.Common.{vec_items}
use Rattle.structures.specs.Marks.{marked}
use Rattle.structures.specs.Sets.{both}
use Rattle.structures.specs.Strata.{stratum_at, of_stratum}
use Rattle.structures.proofs.Masks.{Masked}
use Rattle.structures.proofs.Reading.{position, Reading}
use Rattle.structures.proofs.strata.StrataStructure.choice.Given as goal

-- the bytes so far mark the marked units of the stratum
abbrev pub invariant-loop-unit : goal.invariant-loop-unit
invariant-loop-unit g l =
    let n = (g.B.Structure.meaning l.self.below).units in
    let stratum = stratum_at (vec_items l.self.strata) in
    record {
      reading : Reading n l.marks l.unit-iterator;
      masked : Masked (both (marked n l.marks) (of_stratum stratum l.stratum.0)) l.masked (position l.unit-iterator);
    }
