use Rattle.std.proofs.Common.{◌≡◌, length}
use Rattle.std.proofs.Math.Seq.{paste}
use Rattle.pivotal.proofs.Rolls.{drawn_numbers}
use Rattle.pivotal.proofs.set_units.SetUnits.write_drawn.Given as goal

abbrev pub invariant-loop-place : goal.invariant-loop-place
invariant-loop-place l =
    l.list ≡ paste l.initial.list 0 (drawn_numbers l.self.denominator l.self.records.now) (length l.yielded)
