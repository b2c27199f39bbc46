-- Strata: a layer over any structure, which divides its units into t strata.
use Rattle.std.specs.Prelude.{◌≡◌, ℕ, zero, suc, ◌+◌, ◌*◌, ◌/◌, ◌%◌, ◌^◌, ◌<◌, ◌≤◌, Bool, cond, ◌&&◌, ◌⊎◌, List, length, Some, None, Ok, Err, Option, Result, ◌==◌, ◌≢◌, nat_lt, slice_index_or}
use Rattle.terms.specs.Faults.{tells}
use Rattle.terms.specs.declared.fault.Fault.{Fault}
use Rattle.terms.specs.declared.numbers.StratumNo.{StratumNo}
use Rattle.structures.specs.Lowest.{lowest}
use Rattle.structures.specs.Meaning.{Units, Meaning}
use Rattle.structures.specs.Sets.{both, has_two}

-- The units of stratum u, where `stratum` gives each unit's stratum.
abbrev pub of_stratum : (ℕ → ℕ) → ℕ → Units
of_stratum stratum u i = stratum i == u

-- How many ranges t strata make over g ranges: for each stratum itself and one for each range below; none where these are too many.
abbrev pub layered_ranges : ℕ → ℕ → ℕ
layered_ranges t g = cond (nat_lt (t * (g + 1)) (2 ^ 32)) (t * (g + 1)) 0

-- The sets that each stratum is held against: number 0 has every unit, number q + 1 is range q below.
abbrev pub part : Meaning → ℕ → Units
part M zero i = nat_lt i M.units
part M (suc q) i = M.range q i

-- Range r holds what its stratum, by the quotient, shares with its part, by the remainder.
abbrev pub layered_range : Meaning → ℕ → (ℕ → ℕ) → ℕ → Units
layered_range M t stratum r i =
    nat_lt r (layered_ranges t M.ranges) && (of_stratum stratum (r / (M.ranges + 1)) i && part M (r % (M.ranges + 1)) i)

-- Whether stratum u has two marked units.
abbrev pub stratum_has_two : Meaning → (ℕ → ℕ) → Units → ℕ → Bool
stratum_has_two M stratum J u = has_two (both J (of_stratum stratum u)) M.units

-- The choice is made below: among the marked units of the lowest-numbered stratum that has two, or else among all.
abbrev pub layered_choice : Meaning → ℕ → (ℕ → ℕ) → Units → Option (ℕ × ℕ)
layered_choice M t stratum J =
    elim (lowest (stratum_has_two M stratum J) t) [ Some u ↦ M.choice (both J (of_stratum stratum u)) | None ↦ M.choice J ]

-- The stratum of each unit by a list: 0 where the list has none.
abbrev pub stratum_at : List StratumNo → ℕ → ℕ
stratum_at strata i = (slice_index_or strata i (record { 0 = 0 })).0

-- There are 1 to 64 strata, and every stratum number is below their number.
abbrev pub InStrata : ℕ → List StratumNo → Type 0
InStrata t strata = (1 ≤ t) × (t ≤ 64) × ((i : ℕ) → stratum_at strata i < t)

-- The ranges in their order: stratum u, and then what it shares with each range below.
pub record Numbered (M : Meaning) (t : ℕ) (stratum : ℕ → ℕ) : Type 0 where
  pub many : layered_ranges t M.ranges ≡ t * (M.ranges + 1)
  pub whole : (u i : ℕ) → u < t → layered_range M t stratum (u * (M.ranges + 1)) i ≡ (nat_lt i M.units && of_stratum stratum u i)
  pub parts : (u q i : ℕ) → u < t → q < M.ranges →
      layered_range M t stratum (u * (M.ranges + 1) + 1 + q) i ≡ (of_stratum stratum u i && M.range q i)

-- The theorem: over every structure the ranges stand in this order, and there are none where they would be too many.
abbrev pub RangesInOrder : Type 0
RangesInOrder = (M : Meaning) (t : ℕ) (stratum : ℕ → ℕ) →
    (t * (M.ranges + 1) < 2 ^ 32 → Numbered M t stratum) × (2 ^ 32 ≤ t * (M.ranges + 1) → layered_ranges t M.ranges ≡ 0)

-- Filling strata over M with this count and these stratum numbers leaves t' strata with the numbers strata', and has this answer. That a
-- refusal changes nothing is promised beside it.
pub data Stratified (M : Meaning) (count : ℕ) (given : List StratumNo) (t' : ℕ) (strata' : List StratumNo) :
    Result (Unit {0}) Fault → Type 0 where
  -- the count is not from 1 to 64, or the list is not one number for each unit
  strata_out_of_range : {f : Fault} → ((count ≡ 0) ⊎ (64 < count)) ⊎ (length given ≢ M.units) → tells f ≡ (20, 0) →
      Stratified M count given t' strata' (Err f)
  -- the number of unit i is the first that is not below the count
  stratum_too_high : {i : ℕ} {f : Fault} → 1 ≤ count → count ≤ 64 → length given ≡ M.units → i < length given →
      ((k : ℕ) → k < i → stratum_at given k < count) → count ≤ stratum_at given i → tells f ≡ (21, i) →
      Stratified M count given t' strata' (Err f)
  -- there would be more than 4,294,967,295 ranges
  too_many_ranges : {f : Fault} → length given ≡ M.units → InStrata count given → 2 ^ 32 ≤ count * (M.ranges + 1) →
      tells f ≡ (22, 0) → Stratified M count given t' strata' (Err f)
  -- there is no memory for the numbers
  no_memory : {f : Fault} → length given ≡ M.units → InStrata count given → count * (M.ranges + 1) < 2 ^ 32 →
      tells f ≡ (99, 0) → Stratified M count given t' strata' (Err f)
  -- the strata are those of the list
  stratified : length given ≡ M.units → InStrata count given → count * (M.ranges + 1) < 2 ^ 32 →
      t' ≡ count → strata' ≡ given → Stratified M count given t' strata' (Ok tt)
