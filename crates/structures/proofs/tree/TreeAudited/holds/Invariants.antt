use Rattle.std.proofs.Common.{vec_items}
use Rattle.structures.proofs.Walking.{Walked}
use Rattle.structures.proofs.tree.TreeAudited.holds.Given as goal

abbrev pub invariant-loop-node : goal.invariant-loop-node
invariant-loop-node l = Walked (vec_items l.self.parents) l.initial.node l.range.0 l.node

abbrev pub decreases-loop-node : goal.decreases-loop-node
decreases-loop-node l = l.node
