-- The units that a size makes certain, and the chances that it gives the others.
use Rattle.std.specs.Prelude.{◌≡◌, ℕ, ◌-◌, ◌*◌, ◌<◌, ◌≤◌, true, cond, ◌==◌}
use Rattle.structures.specs.Meaning.{Units}
use Rattle.terms.specs.Counts.{total, count}

-- What the measures of the first n units outside a set come to.
abbrev pub rest : (ℕ → ℕ) → Units → ℕ → ℕ
rest measure C n = total (λ i. cond (C i) 0 (measure i)) n

-- C is a set of certain units for the size k: at most k of them, and exactly those units whose
-- measure times the places left is at least what the measures of all others come to.
pub record Certain (n : ℕ) (measure : ℕ → ℕ) (k : ℕ) (C : Units) : Type 0 where
  pub few : count C n ≤ k
  pub enough : (i : ℕ) → i < n → C i ≡ true → rest measure C n ≤ measure i * (k - count C n)
  pub all : (i : ℕ) → i < n → rest measure C n ≤ measure i * (k - count C n) → C i ≡ true

-- There is such a set, and no other.
pub record OneCertainSet (n : ℕ) (measure : ℕ → ℕ) (k : ℕ) : Type 0 where
  pub set_of : Units
  pub certain : Certain n measure k set_of
  pub only : (C : Units) → Certain n measure k C → (i : ℕ) → i < n → C i ≡ set_of i

-- So it is for positive measures and each size from 1 to the number of units.
abbrev pub CertainUnitsAreDetermined : Type 0
CertainUnitsAreDetermined = (n : ℕ) (measure : ℕ → ℕ) (k : ℕ) → ((i : ℕ) → i < n → 1 ≤ measure i) → 1 ≤ k → k ≤ n → OneCertainSet n measure k

-- The denominator: what the measures of the others come to, or 1 where every unit is certain.
abbrev pub denominator : ℕ → (ℕ → ℕ) → Units → ℕ
denominator n measure C = cond (count C n == n) 1 (rest measure C n)

-- The numerator of a unit: the whole denominator if it is certain, else its measure times the places left.
abbrev pub numerator : ℕ → (ℕ → ℕ) → ℕ → Units → ℕ → ℕ
numerator n measure k C i = cond (C i) (denominator n measure C) (measure i * (k - count C n))

-- The chances are as they should be: the denominator is not 0, each chance is above 0 and at most 1, and
-- together they come to the size.
pub record Proper (n : ℕ) (measure : ℕ → ℕ) (k : ℕ) (C : Units) : Type 0 where
  pub some_denominator : 1 ≤ denominator n measure C
  pub above_zero : (i : ℕ) → i < n → 1 ≤ numerator n measure k C i
  pub at_most_one : (i : ℕ) → i < n → numerator n measure k C i ≤ denominator n measure C
  pub come_to_size : total (numerator n measure k C) n ≡ k * denominator n measure C

-- So they are for positive measures and each size from 1 to the number of units.
abbrev pub ChancesAreProper : Type 0
ChancesAreProper = (n : ℕ) (measure : ℕ → ℕ) (k : ℕ) → ((i : ℕ) → i < n → 1 ≤ measure i) → 1 ≤ k → k ≤ n →
    (C : Units) → Certain n measure k C → Proper n measure k C
