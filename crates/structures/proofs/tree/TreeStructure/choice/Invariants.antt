use Rattle.std.proofs.Common.{length, vec_items}
use Rattle.structures.specs.Marks.{marked}
use Rattle.structures.proofs.Carrying.{Carried}
use Rattle.structures.proofs.Reading.{parents_left, ReadingParents}
use Rattle.structures.proofs.tree.TreeStructure.choice.Given as goal

abbrev pub invariant-loop-node : goal.invariant-loop-node
invariant-loop-node l = record {
  reading : ReadingParents (vec_items l.self.parents) l.node-iterator;
  carried : Carried (marked (length (vec_items l.self.homes)) l.marks) (vec_items l.self.parents) (vec_items l.self.homes)
      (length (parents_left l.node-iterator)) l.held;
}
