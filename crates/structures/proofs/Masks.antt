-- Bytes that mark a set of units, written from the front.
use Rattle.std.proofs.Common.{◌≡◌, ℕ, ◌+◌, ◌<◌, ◌≤◌, true, false, eqb, List, length, get_or, set, replicate, Some, Option, sym, ap, ◌∙◌, inl, inr, arith, below_more}
use mathlib.Core.Path.{fun_ext}
use Rattle.std.proofs.lemmas.List.{get_or-set_same, get_or-set_other, get_or-replicate, get_or_past, length-set, length-replicate}
use Rattle.std.proofs.lemmas.Bool.{cases_lt, and_left}
use Rattle.std.proofs.lemmas.Bool.Decides.{nat_tests}
use Rattle.structures.specs.Lowest.{lowest}
use Rattle.structures.specs.Marks.{marked}
use Rattle.structures.specs.Meaning.{Units, Meaning}
use Rattle.structures.specs.Sets.{both}
use Rattle.structures.specs.Strata.{of_stratum, stratum_has_two, layered_choice}
use Rattle.structures.proofs.Marked.{is_mark, byte_marks, byte_leaves}

-- The first k bytes mark the units of the set among the first k, and no later byte marks a unit.
pub record Masked (J : Units) (bytes : List ℕ) (k : ℕ) : Type 0 where
  pub long : length bytes ≡ 1024
  pub before : (i : ℕ) → i < k → is_mark (get_or bytes i 0) ≡ J i
  pub after : (i : ℕ) → k ≤ i → is_mark (get_or bytes i 0) ≡ false

-- none written yet
pub masked_none : (J : Units) → Masked J (replicate 1024 0) 0
masked_none J = record {
  long = length-replicate {A = ℕ} 1024 0;
  before = λ i h. absurd (omega arith);
  after = λ i _. byte_leaves _ (elim (cases_lt i 1024) [
    | inl l ↦ get_or-replicate 1024 i 0 0 l
    | inr l ↦ get_or_past (replicate 1024 0) i 0 (omega (arith, length-replicate {A = ℕ} 1024 0))
  ]);
}

-- past a unit that is not in the set
pub masked_past : (J : Units) (bytes : List ℕ) (k : ℕ) → J k ≡ false → Masked J bytes k → Masked J bytes (k + 1)
masked_past J bytes k out old = record {
  long = old.long;
  before = below_more _ _ old.before (old.after k (omega arith) ∙ sym out);
  after = λ i l. old.after i (omega arith);
}

-- past one that is, whose byte is written
pub masked_more : (J : Units) (bytes : List ℕ) (k : ℕ) → k < 1024 → J k ≡ true → Masked J bytes k → Masked J (set bytes k 1) (k + 1)
masked_more J bytes k h here old = record {
  long = length-set bytes k 1 ∙ old.long;
  before = below_more _ _ (λ i l. ap is_mark (get_or-set_other bytes k i 1 0 (omega arith)) ∙ old.before i l)
      (byte_marks _ (λ e. absurd (omega (arith, get_or-set_same bytes k 1 0 (omega (arith, old.long))))) ∙ sym here);
  after = λ i l. ap is_mark (get_or-set_other bytes k i 1 0 (omega arith)) ∙ old.after i (omega arith);
}

-- Once none of the set is left, the bytes mark the set.
pub masked_all : (J : Units) (n : ℕ) (bytes : List ℕ) (k : ℕ) → k ≤ n → ((c : ℕ) → k ≤ c → J c ≡ false) → Masked J bytes k → marked n bytes ≡ J
masked_all J n bytes k few rest done = fun_ext (λ i. let before = done.before i in let after = done.after i in let past = rest i in grind (arith, nat_tests))

-- A unit is kept if it is marked and of the stratum,
module _ (J : Units) (stratum : ℕ → ℕ) (u k s : ℕ) (same : s ≡ stratum k) where
  pub kept : J k ≡ true → true ≡ eqb s u → both J (of_stratum stratum u) k ≡ true
  kept here told = grind (arith, nat_tests)

  -- and no other.
  pub left_out : false ≡ eqb s u → both J (of_stratum stratum u) k ≡ false
  left_out told = grind (arith, nat_tests)

-- The answer below to the marks of the lowest-numbered stratum with two is the choice.
pub chosen : (M : Meaning) (t : ℕ) (stratum : ℕ → ℕ) (marks : List ℕ) (u : ℕ) (bytes : List ℕ) (k : ℕ) (answer : Option (ℕ × ℕ)) →
    Some u ≡ lowest (stratum_has_two M stratum (marked M.units marks)) t →
    k ≤ M.units → ((c : ℕ) → k ≤ c → marked M.units marks c ≡ false) → Masked (both (marked M.units marks) (of_stratum stratum u)) bytes k →
    answer ≡ M.choice (marked M.units bytes) → answer ≡ layered_choice M t stratum (marked M.units marks)
chosen M t stratum marks u bytes k answer found few rest done e =
    let J = both (marked M.units marks) (of_stratum stratum u) in
    rw (sym found, layered_choice) (e ∙ ap M.choice (masked_all J M.units bytes k few
    (λ c past. and_left (marked M.units marks c) (of_stratum stratum u c) (rest c past)) done))
