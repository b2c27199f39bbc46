-- How a waterway drains: where the water of each node goes, and at which node each unit stands.
use Rattle.std.specs.Prelude.{◌≡◌, ℕ, zero, suc, ◌<◌, ◌≤◌, Bool, true, false, cond, ◌&&◌, ◌||◌, List, length, ◌==◌, nat_lt, slice_index_or}
use Rattle.terms.specs.declared.numbers.NodeNo.{NodeNo}
use Rattle.structures.specs.Meaning.{Units}

-- The node at place i of a list; past its end this is 0.
abbrev pub node_at : List NodeNo → ℕ → ℕ
node_at nodes i = (slice_index_or nodes i (record { 0 = 0 })).0

-- The rule for the parent p of node v: node 0 is its own parent, any other node drains into a smaller number.
abbrev pub falls : ℕ → ℕ → Bool
falls v p = cond (v == 0) (p == 0) (nat_lt p v)

-- Every parent keeps its rule.
abbrev pub InOrder : List NodeNo → Type 0
InOrder parents = (v : ℕ) → v < length parents → falls v (node_at parents v) ≡ true

-- Node v is the first whose parent breaks the rule.
abbrev pub FirstBroken : List NodeNo → ℕ → Type 0
FirstBroken parents v =
    (v < length parents) × ((w : ℕ) → w < v → falls w (node_at parents w) ≡ true) × (falls v (node_at parents v) ≡ false)

-- Every home is one of so many nodes.
abbrev pub Housed : ℕ → List NodeNo → Type 0
Housed nodes homes = (i : ℕ) → i < length homes → node_at homes i < nodes

-- Unit i is the first whose home is not one of them.
abbrev pub FirstHomeless : ℕ → List NodeNo → ℕ → Type 0
FirstHomeless nodes homes i = (i < length homes) × ((k : ℕ) → k < i → node_at homes k < nodes) × (nodes ≤ node_at homes i)

-- What a tree may be filled with.
abbrev pub Drainage : List NodeNo → List NodeNo → Type 0
Drainage parents homes = (length parents ≤ 1024) × (length homes ≤ 1024) × InOrder parents × Housed (length parents) homes

-- The node that water from v comes to through k parents.
abbrev pub through : (ℕ → ℕ) → ℕ → ℕ → ℕ
through parent zero v = v
through parent (suc k) v = through parent k (parent v)

-- Whether water from v comes to q after k parents or fewer.
abbrev pub drains : (ℕ → ℕ) → ℕ → ℕ → ℕ → Bool
drains parent zero v q = v == q
drains parent (suc k) v q = v == q || drains parent k (parent v) q

-- The catchment of node q: the units whose water comes to q. A way is never longer than there are nodes.
abbrev pub catchment : List NodeNo → List NodeNo → ℕ → Units
catchment parents homes q i = nat_lt q (length parents) && (nat_lt i (length homes) && drains (node_at parents) (length parents) (node_at homes i) q)

-- What that means: a unit is in the catchment of a node if and only if both exist and some number of parents leads from its home to it.
pub record CatchmentHolds (parents homes : List NodeNo) (q i : ℕ) : Type 0 where
  pub exist : catchment parents homes q i ≡ true → (q < length parents) × (i < length homes)
  pub comes : catchment parents homes q i ≡ true → (k : ℕ) × (through (node_at parents) k (node_at homes i) ≡ q)
  pub holds : q < length parents → i < length homes → (k : ℕ) → through (node_at parents) k (node_at homes i) ≡ q →
      catchment parents homes q i ≡ true

-- The theorem: so it is for every drainage, node and unit, however long the way.
abbrev pub CatchmentsAreDrained : Type 0
CatchmentsAreDrained = (parents homes : List NodeNo) → Drainage parents homes → (q i : ℕ) → CatchmentHolds parents homes q i
