-- How many marked units each stratum has, counted unit by unit.
use Rattle.std.proofs.Common.{◌≡◌, ℕ, ◌+◌, ◌-◌, ◌<◌, ◌≤◌, true, false, cond, List, length, get_or, set, replicate, Some, None, Option, sym, refl, ap, ◌∙◌, add-one, arith}
use Rattle.std.proofs.lemmas.List.{get_or-set_same, get_or-set_other, get_or-replicate, length-set, length-replicate}
use Rattle.std.proofs.lemmas.Bool.{and_left}
use Rattle.std.specs.Option.{MatchOption}
use Rattle.std.proofs.lemmas.Bool.Decides.{nat_tests}
use Rattle.structures.specs.ExtremeLaws.{lowest_is}
use Rattle.structures.specs.Lowest.{lowest}
use Rattle.structures.specs.Meaning.{Units, Meaning}
use Rattle.structures.specs.SetLaws.{two_told, few_told}
use Rattle.structures.specs.Sets.{both}
use Rattle.structures.specs.Strata.{of_stratum, stratum_has_two}
use Rattle.terms.specs.Counts.{count}
use Rattle.terms.proofs.Totals.{total_split, total_none}

-- The counts of the first k units, by stratum.
pub record Tallied (J : Units) (stratum : ℕ → ℕ) (counts : List ℕ) (k : ℕ) : Type 0 where
  pub long : length counts ≡ 64
  pub so_far : (u : ℕ) → u < 64 → get_or counts u 0 ≡ count (both J (of_stratum stratum u)) k

-- one unit more
count_more : (p : Units) (k : ℕ) → count p (k + 1) ≡ count p k + cond (p k) 1 0
count_more p k = rw (add-one k) refl

-- nothing counts where nothing is in the set
count_rest : (p : Units) (k m : ℕ) → ((c : ℕ) → k ≤ c → p c ≡ false) → count p (k + m) ≡ count p k
count_rest p k m rest = omega (
  arith,
  total_split (λ i. cond (p i) 1 0) k m,
  total_none (λ i. cond (p (k + i)) 1 0) m (λ c _. ap {B = ℕ} (λ b. cond b 1 0) (rest (k + c) (omega arith))),
)

module _ (J : Units) (stratum : ℕ → ℕ) where
  -- before the first unit
  pub tallied_none : Tallied J stratum (replicate 64 0) 0
  tallied_none = record { long = length-replicate {A = ℕ} 64 0; so_far = λ u h. get_or-replicate 64 u 0 0 h }

  -- past a marked unit, which counts in its stratum
  pub tallied_more : (counts : List ℕ) (k s : ℕ) → J k ≡ true → s ≡ stratum k → s < 64 → Tallied J stratum counts k →
      Tallied J stratum (set counts s (get_or counts s 0 + 1)) (k + 1)
  tallied_more counts k s e same small old = record {
    long = length-set counts s (get_or counts s 0 + 1) ∙ old.long;
    so_far = λ u h.
        let was = old.so_far u h in
        let more = count_more (both J (of_stratum stratum u)) k in
        let here = get_or-set_same counts s (get_or counts s 0 + 1) 0 (omega (arith, old.long)) in
        let away = get_or-set_other counts s u (get_or counts s 0 + 1) 0 in
        grind (arith, nat_tests);
  }

  -- after the last marked unit
  pub tallied_all : (counts : List ℕ) (k n u : ℕ) → k ≤ n → ((c : ℕ) → k ≤ c → J c ≡ false) → u < 64 → Tallied J stratum counts k →
      get_or counts u 0 ≡ count (both J (of_stratum stratum u)) n
  tallied_all counts k n u few rest h done =
      done.so_far u h ∙ sym (count_rest (both J (of_stratum stratum u)) k (n - k) (λ c past. and_left (J c) (of_stratum stratum u c) (rest c past)))
      ∙ ap (count (both J (of_stratum stratum u))) (omega arith)

-- The first of t counts that is at least two is that of the lowest-numbered stratum with two marked units.
pub lowest_told : (M : Meaning) (stratum : ℕ → ℕ) (J : Units) (t : ℕ) (counts : List ℕ) → t ≤ 64 →
    ((u : ℕ) → u < 64 → get_or counts u 0 ≡ count (both J (of_stratum stratum u)) M.units) → (found : Option ℕ) →
    MatchOption found ((k : ℕ) → k < t → get_or counts k 0 < 2)
    (λ u. (u < t) × (2 ≤ get_or counts u 0) × ((k : ℕ) → k < u → get_or counts k 0 < 2)) →
    found ≡ lowest (stratum_has_two M stratum J) t
lowest_told M stratum J t counts small told None none =
    lowest_is (stratum_has_two M stratum J) t None (λ k h. few_told (both J (of_stratum stratum k)) M.units (omega (arith, told k (omega arith), none k h)))
lowest_told M stratum J t counts small told (Some u) first = lowest_is (stratum_has_two M stratum J) t (Some u) (
  first.0,
  two_told (both J (of_stratum stratum u)) M.units (omega (arith, told u (omega (arith, first.0)), first.1)),
  λ k h. few_told (both J (of_stratum stratum k)) M.units (omega (arith, told k (omega (arith, first.0)), first.2 k h)),
)
