use Rattle.std.proofs.Common.{◌-◌, length, vec_items}
use Rattle.pivotal.specs.Register.{measures}
use Rattle.pivotal.proofs.Rounds.{Reached}
use Rattle.pivotal.proofs.draw.Draw.certain_split.Given as goal

abbrev pub invariant-loop-found : goal.invariant-loop-found
invariant-loop-found g l = let rows = vec_items l.self.table.records in Reached (length rows) (measures rows) l.size l.found.certain l.found.rest

abbrev pub decreases-loop-found : goal.decreases-loop-found
decreases-loop-found g l = length (vec_items l.self.table.records) - l.found.certain
