-- The highest number that passes a test, beside the lowest.
use Rattle.std.specs.Prelude.{◌≡◌, ℕ, zero, suc, ◌<◌, Bool, true, false, cond, Some, None, Option}
use Rattle.structures.specs.Lowest.{lowest}
use Rattle.structures.specs.LowestLaws.{MeansFirst}

-- The highest number below n that passes the test.
abbrev pub highest : (ℕ → Bool) → ℕ → Option ℕ
highest p zero = None
highest p (suc n) = cond (p n) (Some n) (highest p n)

-- What the highest number means: there is none, or q passes the test and none above q does.
abbrev pub MeansHighest : (ℕ → Bool) → ℕ → Option ℕ → Type 0
MeansHighest p n None = (c : ℕ) → c < n → p c ≡ false
MeansHighest p n (Some q) = (q < n) × (p q ≡ true) × ((c : ℕ) → q < c → c < n → p c ≡ false)

-- The theorems: for every test and every n, each number is what it should mean.
abbrev pub FirstFound : Type 0
FirstFound = (p : ℕ → Bool) (n : ℕ) → MeansFirst p n (lowest p n)

abbrev pub HighestFound : Type 0
HighestFound = (p : ℕ → Bool) (n : ℕ) → MeansHighest p n (highest p n)
