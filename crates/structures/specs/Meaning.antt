-- What a structure over the register means, and the laws that it keeps.
use Rattle.std.specs.Prelude.{◌≡◌, ℕ, ◌^◌, ◌<◌, ◌≤◌, Bool, true, false, Some, None, Option, ◌≢◌}
use Rattle.terms.specs.Counts.{count, Within}

-- A set of units, as a test on unit numbers.
abbrev pub Units : Type 0
Units = ℕ → Bool

-- The number of units, the ranges by number, and which pair settles when a set of units is marked.
pub record Meaning : Type 0 where
  pub units : ℕ
  pub ranges : ℕ
  pub range : ℕ → Units
  pub choice : Units → Option (ℕ × ℕ)
  pub few_units : units ≤ 1024
  pub few_ranges : ranges < 2 ^ 32
  -- a range outside the numbers is empty, and none reaches past the units
  pub inside : (q i : ℕ) → range q i ≡ true → (q < ranges) × (i < units)
  -- there is a pair if and only if at least two units are marked
  pub none_from_few : (J : Units) → Within units J → count J units < 2 → choice J ≡ None
  pub few_from_none : (J : Units) → Within units J → choice J ≡ None → count J units < 2
  -- its units are marked, and distinct
  pub names_marked : (J : Units) → Within units J → (a b : ℕ) → choice J ≡ Some (a, b) → (J a ≡ true) × (J b ≡ true) × (a ≢ b)
  -- pairing: where a range splits the pair, no third marked unit is in that range
  pub pairing : (J : Units) → Within units J → (a b : ℕ) → choice J ≡ Some (a, b) → (q : ℕ) → (range q a ≢ range q b) →
      (c : ℕ) → J c ≡ true → (c ≢ a) → (c ≢ b) → range q c ≡ false
