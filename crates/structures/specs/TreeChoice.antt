-- Which pair a tree chooses: the highest-numbered node that can makes it.
use Rattle.std.specs.Prelude.{ℕ, Bool, List, length, Some, None, Option}
use Rattle.terms.specs.declared.numbers.NodeNo.{NodeNo}
use Rattle.structures.specs.Meaning.{Units}
use Rattle.structures.specs.Extremes.{highest}
use Rattle.structures.specs.Lowest.{two_lowest}
use Rattle.structures.specs.Sets.{both, has_two}
use Rattle.structures.specs.Drainage.{catchment}

-- Whether the catchment of node q holds two marked units.
abbrev pub can_pair : List NodeNo → List NodeNo → Units → ℕ → Bool
can_pair parents homes J q = has_two (both J (catchment parents homes q)) (length homes)

-- The two lowest-numbered marked units in the catchment of that node.
abbrev pub pair_at : List NodeNo → List NodeNo → Units → Option ℕ → Option (ℕ × ℕ)
pair_at parents homes J None = None
pair_at parents homes J (Some q) = two_lowest (both J (catchment parents homes q)) (length homes)

-- The choice: the highest-numbered node whose catchment holds two marked units names its two lowest-numbered ones.
abbrev pub tree_choice : List NodeNo → List NodeNo → Units → Option (ℕ × ℕ)
tree_choice parents homes J = pair_at parents homes J (highest (can_pair parents homes J) (length parents))
