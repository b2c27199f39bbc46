use Rattle.std.proofs.Common.{◌≡◌, vec_items}
use Rattle.pivotal.specs.Register.{measures}
use Rattle.pivotal.specs.Splitting.{qualifies, split_of}
use Rattle.pivotal.proofs.draw.Draw.split_by.Given as goal

abbrev pub invariant-loop-unit : goal.invariant-loop-unit
invariant-loop-unit g l = let m = measures (vec_items l.self.table.records) in l.split ≡ split_of m (qualifies m l.round.places l.round.rest) l.unit-index
