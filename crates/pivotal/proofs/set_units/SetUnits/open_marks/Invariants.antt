use Rattle.pivotal.proofs.Marks.{Written}
use Rattle.pivotal.proofs.set_units.SetUnits.open_marks.Given as goal
use Rattle.pivotal.specs.Register.{opened}

abbrev pub invariant-loop-i : goal.invariant-loop-i
invariant-loop-i l = Written (opened l.self.denominator l.self.records.now) l.marks l.i
