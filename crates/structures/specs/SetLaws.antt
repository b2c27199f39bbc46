-- Laws of what two sets share, and of sets with two units.
use Rattle.std.specs.Prelude.{◌≡◌, ℕ, ◌<◌, ◌≤◌, true, false, ◌≢◌}
use Rattle.std.proofs.Common.{inl, inr}
use Rattle.std.proofs.lemmas.Bool.{cases_order, and_parts, leb-true, leb-false, le-leb, lt-leb}
use Rattle.terms.specs.Counts.{count, Within}
use Rattle.terms.proofs.Totals.{part_le}
use Rattle.structures.specs.Meaning.{Units}
use Rattle.structures.specs.Sets.{both, has_two}
use Rattle.structures.specs.LowestLaws.{count_two}

-- What both sets share is in the first, and counts no more than it.
pub both_within : (J K : Units) (n : ℕ) → Within n J → Within n (both J K)
both_within J K n inside i e = inside i (and_parts (J i) (K i) e).0

pub both_fewer : (J K : Units) (n : ℕ) → count (both J K) n ≤ count J n
both_fewer J K n = part_le (both J K) J n (λ i _ e. (and_parts (J i) (K i) e).0)

-- The test tells whether there are two, or fewer.
pub two_counted : (J : Units) (n : ℕ) → has_two J n ≡ true → 2 ≤ count J n
two_counted J n e = leb-true 2 (count J n) e

pub few_counted : (J : Units) (n : ℕ) → has_two J n ≡ false → count J n < 2
few_counted J n e = leb-false 2 (count J n) e

pub two_told : (J : Units) (n : ℕ) → 2 ≤ count J n → has_two J n ≡ true
two_told J n h = le-leb 2 (count J n) h

pub few_told : (J : Units) (n : ℕ) → count J n < 2 → has_two J n ≡ false
few_told J n h = lt-leb 2 (count J n) h

-- Two different units of a set are two.
pub two_from : (J : Units) (n a b : ℕ) → (a ≢ b) → a < n → b < n → J a ≡ true → J b ≡ true → has_two J n ≡ true
two_from J n a b apart an bn ea eb = elim (cases_order a b) [
  | inl e ↦ absurd (apart e)
  | inr (inl l) ↦ two_told J n (count_two J n a b l bn ea eb)
  | inr (inr l) ↦ two_told J n (count_two J n b a l an eb ea)
]
