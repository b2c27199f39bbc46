-- Splits of the units, the rounds that find the one by the certain units, and what it gives.
use Rattle.std.proofs.Common.{◌≡◌, ℕ, zero, suc, ◌+◌, ◌-◌, ◌*◌, ◌^◌, ◌<◌, ◌≤◌, nat_le, cond, List, length, take, sum_by, sym, refl, ap, ◌∙◌, subst, inl, inr, add-one, arith}
use Rattle.std.proofs.Math.Nat.{mul-le-mul_right}
use Rattle.std.proofs.lemmas.Grind.{div_ceil_times}
use Rattle.std.proofs.lemmas.List.{take_all}
use Rattle.std.proofs.lemmas.List.Sums.{sum_by_more}
use Rattle.std.proofs.lemmas.Bool.{cases_eq, cases_lt, cond_both, eq-eqb, le-leb, lt-leb, ne_eqb}
use Rattle.std.specs.Int.{div_ceil}
use Rattle.structures.specs.Meaning.{Units}
use Rattle.terms.specs.Counts.{total, count}
use Rattle.terms.proofs.Totals.{count_le}
use Rattle.pivotal.specs.Certain.{denominator, numerator, rest}
use Rattle.pivotal.specs.Register.{blank, Measured, measure_of, measures}
use Rattle.pivotal.specs.Splitting.{qualifies, split_of, round_of, denominator_by, numerator_by, CertainSplit}
use Rattle.pivotal.specs.declared.setting.Split.{Split}
use Rattle.pivotal.specs.declared.table.UnitRecord.{UnitRecord}
use Rattle.pivotal.proofs.Rounds.{Positive, Reached, all_certain, none_left, reached_round, reached_stop}

-- a product with b reaches a where the other factor reaches a by b, rounded up
pub reaches_quotient : (a b m : ℕ) → 0 < b → nat_le (div_ceil a b) m ≡ nat_le a (m * b)
reaches_quotient a b m h =
    let t = div_ceil_times a b h in
    elim (cases_lt m (div_ceil a b)) [
      | inl l ↦ let more : (m + 1) * b ≤ div_ceil a b * b = mul-le-mul_right b (omega (arith, l)) in
          lt-leb (div_ceil a b) m l ∙ sym (lt-leb a (m * b) (omega (arith, more, t.1)))
      | inr ge ↦ let less : div_ceil a b * b ≤ m * b = mul-le-mul_right b ge in
          le-leb (div_ceil a b) m ge ∙ sym (le-leb a (m * b) (omega (arith, less, t.0)))
    ]

-- what measures come to
pub total_small : (m : ℕ → ℕ) (n : ℕ) → ((i : ℕ) → i < n → m i ≤ 1000000) → total m n ≤ 1000000 * n
total_small m zero h = omega arith
total_small m (suc n) h = omega (arith, total_small m n (λ i l. h i (omega arith)), h n (omega arith))

-- the sum over the first units of a list is the total of their measures
sum_front : (rows : List UnitRecord) (n : ℕ) → n ≤ length rows → sum_by measure_of (take n rows) ≡ total (measures rows) n
sum_front rows zero h = refl
sum_front rows (suc n) h = rw add-one at (sum_by_more measure_of rows n blank (omega arith)) ∙ ap (λ s. s + measures rows n) (sum_front rows n (omega arith))

-- and so is the sum over all of them
pub sum_total : (rows : List UnitRecord) → sum_by measure_of rows ≡ total (measures rows) (length rows)
sum_total rows = ap (sum_by measure_of) (sym (take_all (length rows) rows (omega arith))) ∙ sum_front rows (length rows) (omega arith)

-- it fits where the units are few and their measures are those that adding takes
pub sum_fits : (rows : List UnitRecord) → length rows ≤ 1024 → Measured rows → sum_by measure_of rows < 2 ^ 32
sum_fits rows few old = omega (arith, sum_total rows, total_small (measures rows) (length rows) (λ i h. (old i h).1))

-- a split counts at most the units, and leaves at most their measures
pub split_small : (m : ℕ → ℕ) (C : Units) (n : ℕ) (s : Split) → s ≡ split_of m C n → ((i : ℕ) → i < n → m i ≤ 1000000) → (s.certain ≤ n) × (s.rest ≤ 1000000 * n)
split_small m C n s e h =
    subst (λ t. (t.certain ≤ n) × (t.rest ≤ 1000000 * n)) (sym e)
    (count_le C n, total_small (λ i. cond (C i) 0 (m i)) n (λ i l. cond_both (C i) 0 (m i) (λ x. x ≤ 1000000) (λ _. omega arith) (λ _. h i l)))

-- the measures that adding takes are positive
pub positive : (rows : List UnitRecord) → Measured rows → Positive (length rows) (measures rows)
positive rows h i l = (h i l).0

-- A round from one split to the next.
abbrev pub NextSplit : (ℕ → ℕ) → ℕ → ℕ → Split → Split → Type 0
NextSplit m n k found next = next ≡ split_of m (qualifies m (k - found.certain) found.rest) n

module _ {n : ℕ} {m : ℕ → ℕ} {k : ℕ} {found next : Split} (r : Reached n m k found.certain found.rest) (e : NextSplit m n k found next) where
  -- the rounds come to it
  pub round_on : Positive n m → Reached n m k next.certain next.rest
  round_on pos = subst (λ (s : Split). Reached n m k s.certain s.rest) (sym e) (reached_round r pos)

  -- and if it counts no more, it is the split by the certain units
  pub round_off : next.certain ≡ found.certain → CertainSplit n m k next
  round_off same =
      let counts = sym (ap (λ (s : Split). s.certain) e) ∙ same in
      let stop = reached_stop r counts in
      let back : split_of m (qualifies m (k - found.certain) found.rest) n ≡ found = λ j. record { certain = counts j; rest = stop.1 j } in
      subst (CertainSplit n m k) (sym (e ∙ back)) (record { certain = stop.0; split = back })

-- where every unit is in the set nothing is left over, and only there
pub whole_is : (n : ℕ) (m : ℕ → ℕ) (C : Units) (k : ℕ) → Positive n m → denominator_by (round_of k (split_of m C n)) ≡ denominator n m C
whole_is n m C k pos =
    elim (cases_eq (count C n) n) [
      | inl e ↦ rw (none_left n m C e, eq-eqb (count C n) n e) refl
      | inr e ↦ rw (ne_eqb (count C n) n e, ne_eqb (rest m C n) 0 (λ z. e (all_certain n m C pos z))) refl
    ]

module _ {n : ℕ} {m : ℕ → ℕ} {k : ℕ} {s : Split} (c : CertainSplit n m k s) where
  -- The certain units.
  abbrev pub certain_units : Units
  certain_units = qualifies m (k - s.certain) s.rest

  -- the denominator is the one that they give
  pub denominator_is : Positive n m → denominator_by (round_of k s) ≡ denominator n m certain_units
  denominator_is pos = ap (λ t. denominator_by (round_of k t)) (sym c.split) ∙ whole_is n m certain_units k pos

  -- and so is each numerator
  pub numerator_is : Positive n m → (i : ℕ) → numerator_by (round_of k s) (m i) ≡ numerator n m k certain_units i
  numerator_is pos i = λ j. cond (certain_units i) (denominator_is pos j) (m i * (k - (sym c.split j).certain))
