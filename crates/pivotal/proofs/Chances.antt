-- The chances that the certain units leave are proper ones.
use Rattle.std.proofs.Common.{◌≡◌, ℕ, ◌+◌, ◌-◌, ◌*◌, ◌<◌, ◌≤◌, ap, ◌∙◌, inl, inr, add-mul, mul-le-mul, arith}
use Rattle.std.proofs.lemmas.Bool.{cases_eq, cond-true, cond-false, cond_both, eq-eqb, ne_eqb}
use Rattle.structures.specs.Meaning.{Units}
use Rattle.terms.specs.Counts.{count}
use Rattle.terms.proofs.Totals.{count_le, total_cond}
use Rattle.pivotal.specs.Certain.{Certain, ChancesAreProper, Proper, denominator, numerator, rest}
use Rattle.pivotal.proofs.CertainUnits.{places_left}
use Rattle.pivotal.proofs.Rounds.{Positive, none_left, short}

module _ (n : ℕ) (m : ℕ → ℕ) (k : ℕ) (pos : Positive n m) (C : Units) (p : Certain n m k C) where
  -- all numerators together
  whole_sum : {x : ℕ} → denominator n m C ≡ x → rest m C n * (k - count C n) + count C n * x ≡ k * x →
      count C n * denominator n m C + rest m C n * (k - count C n) ≡ k * denominator n m C
  whole_sum e h = rw e (omega (arith, h))

  -- where every unit is certain
  proper_all : k ≤ n → count C n ≡ n → Proper n m k C
  proper_all few e =
      let one : denominator n m C ≡ 1 = cond-true _ 1 (rest m C n) (eq-eqb (count C n) n e) in
      let none = none_left n m C e in
      let places : k - count C n ≡ 0 = omega arith in
      let sure : (i : ℕ) → i < n → numerator n m k C i ≡ denominator n m C = λ i l. cond-true _ _ _ (p.all i l (omega arith)) in
      record {
        some_denominator = omega arith;
        above_zero = λ i l. omega (arith, sure i l);
        at_most_one = λ i l. omega (arith, sure i l);
        come_to_size = total_cond C m (denominator n m C) (k - count C n) n ∙ whole_sum one (rw (none, places) (omega (arith, p.few)));
      }

  -- where one is not
  proper_some : 1 ≤ k → count C n < n → Proper n m k C
  proper_some o l =
      let left = places_left C p pos o l in
      let D : denominator n m C ≡ rest m C n = cond-false _ 1 (rest m C n) (ne_eqb (count C n) n (omega arith)) in
      let split : count C n + (k - count C n) ≡ k = omega arith in
      record {
        some_denominator = omega (arith, left.1);
        above_zero = λ i h. cond_both (C i) _ _ (λ x. 1 ≤ x) (λ _. omega (arith, left.1)) (λ _. mul-le-mul (pos i h) left.0);
        at_most_one = λ i h. cond_both (C i) _ _ (λ x. x ≤ denominator n m C) (λ _. omega arith) (λ e. omega (arith, short C p i h e));
        come_to_size = total_cond C m (denominator n m C) (k - count C n) n
            ∙ whole_sum D (omega (arith, add-mul (count C n) (k - count C n) (rest m C n), ap (λ x. x * rest m C n) split));
      }

pub chances_are_proper : ChancesAreProper
chances_are_proper n m k pos o few C p =
    elim (cases_eq (count C n) n) [
      | inl e ↦ proper_all n m k pos C p few e
      | inr e ↦ proper_some n m k pos C p o (omega (arith, count_le C n))
    ]
