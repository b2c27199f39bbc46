use Rattle.pivotal.specs.Register.{measures}
use Rattle.pivotal.specs.Splitting.{numerator_by}
use Rattle.pivotal.proofs.Starts.{Starting}
use Rattle.pivotal.proofs.table.Table.start.Given as goal

abbrev pub invariant-loop-record : goal.invariant-loop-record
invariant-loop-record l = Starting l.initial.record-items (λ i. numerator_by l.round (measures l.initial.record-items i)) l.record-items l.record-index
