-- What a node holds of a set of units: none, the only one, or the two lowest-numbered.
use Rattle.std.specs.Prelude.{◌≡◌, ℕ, ◌<◌, true, false, ◌&&◌, ◌||◌, List, length, ◌==◌, ◌≢◌, slice_index_or}
use Rattle.structures.specs.Meaning.{Units}
use Rattle.structures.specs.Lowest.{LowestPair}
use Rattle.structures.specs.declared.tree.held.Held.{Held}
use Rattle.structures.specs.declared.tree.held.Held.TheVariants.{Nothing, One, Two}

-- This is held of a set of units below n.
abbrev pub Keeps : Units → ℕ → Held → Type 0
Keeps J n Nothing = (c : ℕ) → J c ≡ false
Keeps J n (One a) = (a.0 < n) × (J a.0 ≡ true) × ((c : ℕ) → (c ≢ a.0) → J c ≡ false)
Keeps J n (Two a b) = LowestPair J n a.0 b.0

-- The set with the unit a joined to it.
abbrev pub joined : ℕ → Units → Units
joined a J i = J i || i == a

-- The units of the set that are at node v, where `place` tells the node of each unit.
abbrev pub at_node : Units → (ℕ → ℕ) → ℕ → Units
at_node J place v i = J i && place i == v

-- In a list for 1,024 nodes, each of the first m keeps what is at it of the set.
pub record Kept (J : Units) (place : ℕ → ℕ) (n m : ℕ) (held : List Held) : Type 0 where
  pub long : length held ≡ 1024
  pub keeps : (v : ℕ) → v < m → Keeps (at_node J place v) n (slice_index_or held v Nothing)
