-- The two lowest-numbered units of a set.
use Rattle.std.specs.Prelude.{◌≡◌, ℕ, zero, suc, ◌<◌, ◌≤◌, true, cond, not, ◌&&◌, ◌⊎◌, Some, None, Option, ◌==◌}
use Rattle.std.specs.Option.{option_map}
use Rattle.terms.specs.Counts.{count}
use Rattle.structures.specs.Meaning.{Units}

-- The lowest-numbered unit of the set among the first n.
abbrev pub lowest : Units → ℕ → Option ℕ
lowest J zero = None
lowest J (suc n) = elim (lowest J n) [ Some a ↦ Some a | None ↦ cond (J n) (Some n) None ]

-- The set without the unit a.
abbrev pub without : ℕ → Units → Units
without a J i = J i && not (i == a)

-- The two lowest-numbered units of the set among the first n: the lowest, and the lowest of the others.
abbrev pub two_lowest : Units → ℕ → Option (ℕ × ℕ)
two_lowest J n = elim (lowest J n) [ Some a ↦ option_map (λ b. (a, b)) (lowest (without a J) n) | None ↦ None ]

-- What that means: a and b are in the set, a below b, and every other unit of the set is above b.
pub record LowestPair (J : Units) (n a b : ℕ) : Type 0 where
  pub ordered : a < b
  pub bounded : b < n
  pub first_in : J a ≡ true
  pub second_in : J b ≡ true
  pub others_above : (c : ℕ) → J c ≡ true → (c ≡ a) ⊎ (b ≤ c)

-- Without such a pair the set has fewer than two units below n.
abbrev pub MeansLowest : Units → ℕ → Option (ℕ × ℕ) → Type 0
MeansLowest J n None = count J n < 2
MeansLowest J n (Some pair) = LowestPair J n pair.0 pair.1

-- The theorem: for every set and every n, the two lowest-numbered units are what they should mean.
abbrev pub LowestFound : Type 0
LowestFound = (J : Units) (n : ℕ) → MeansLowest J n (two_lowest J n)
