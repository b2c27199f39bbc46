use Rattle.std.proofs.Common.{length, vec_items}
use Rattle.std.specs.Iterator.Adapters.{enumerate_count}
use Rattle.structures.specs.Drainage.{node_at}
use Rattle.structures.specs.Marks.{marked}
use Rattle.structures.specs.Held.{Kept}
use Rattle.structures.proofs.Reading.{ReadingHomes}
use Rattle.structures.proofs.tree.Tree.at_homes.Given as goal

-- each node keeps what stands at it of the units so far
abbrev pub invariant-loop-i : goal.invariant-loop-i
invariant-loop-i l = record {
  reading : ReadingHomes (vec_items l.self.homes) l.marks l.i-iterator;
  kept : Kept (marked (enumerate_count l.i-iterator) l.marks) (node_at (vec_items l.self.homes)) (length (vec_items l.self.homes)) 1024 l.held;
}
