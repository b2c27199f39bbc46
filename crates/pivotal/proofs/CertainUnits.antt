-- There is one set of certain units, which the rounds find, and what it leaves to the others.
use Rattle.std.proofs.Common.{◌≡◌, ℕ, zero, suc, ◌+◌, ◌-◌, ◌*◌, ◌<◌, ◌≤◌, false, refl, ap, inl, inr, mul-le-mul_left, arith}
use Rattle.std.proofs.lemmas.Bool.{cases_Bool, cases_eq, cases_lt}
use Rattle.structures.specs.Meaning.{Units}
use Rattle.terms.specs.Counts.{count}
use Rattle.terms.proofs.Totals.{Part, count_le, none_part, same_set, total_none}
use Rattle.pivotal.specs.Certain.{Certain, CertainUnitsAreDetermined, OneCertainSet, rest}
use Rattle.pivotal.proofs.Rounds.{Positive, Reached, covers, found, gather, qualifies, reached_round, reached_start, reached_stop, round_grows, short, spread}

-- The numbers of two sets of certain units, with c and d units and W and V left, of which the one grows to the other.
crossed : (c d V W K L : ℕ) → c + K ≡ d + L → c * W + W * K < d * W + V * K → d * V + V * L ≤ c * V + W * L → ⊥
crossed c d V W K L e g h = omega (arith, ap (λ x. V * x) e, ap (λ x. W * x) e)

module _ {n : ℕ} {m : ℕ → ℕ} {k : ℕ} where
  -- no set of certain units is a part of a larger one
  no_larger : (C D : Units) → Certain n m k C → Certain n m k D → Part n C D → Part n D C
  no_larger C D p q s i l d =
      elim (cases_Bool (C i)) [
        | inl e ↦ e
        | inr e ↦
            absurd (crossed (count C n) (count D n) (rest m D n) (rest m C n) (k - count C n) (k - count D n) (omega (arith, p.few, q.few))
            (spread n m C D (rest m C n) (k - count C n) s (short C p) i l e d)
            (gather n m C D (rest m D n) (k - count D n) s q.enough))
      ]

  -- where a round finds no more, it has found the one set
  pub one_set : {c W : ℕ} → (r : Reached n m k c W) → count (qualifies m (k - c) W) n ≡ c → OneCertainSet n m k
  one_set {c} {W} r e =
      let Q : Units = qualifies m (k - c) W in
      let p : Certain n m k Q = (reached_stop r e).0 in
      let s : (D : Units) → Certain n m k D → Part n Q D = found r in
      record { set_of = Q; certain = p; only = λ D q. same_set D Q n (no_larger Q D p q (s D q)) (s D q) }

  -- and after as many rounds as there are units it finds no more
  rounds : (left : ℕ) {c W : ℕ} → n ≤ left + c → Positive n m → Reached n m k c W → OneCertainSet n m k
  rounds zero {c} {W} h pos r = one_set r (omega (arith, round_grows r, count_le (qualifies m (k - c) W) n))
  rounds (suc left) {c} {W} h pos r =
      elim (cases_eq (count (qualifies m (k - c) W) n) c) [
        | inl e ↦ one_set r e
        | inr e ↦ rounds left (omega (arith, round_grows r)) pos (reached_round r pos)
      ]

  -- unless all units are certain, a place and a part of the measures are left
  pub places_left : (C : Units) → Certain n m k C → Positive n m → 1 ≤ k → count C n < n → (1 ≤ k - count C n) × (1 ≤ rest m C n)
  places_left C p pos o l =
      let w : 1 ≤ rest m C n = omega (arith, covers n m C pos) in
      elim (cases_lt (count C n) k) [
        | inl h ↦ (omega arith, w)
        | inr h ↦
            let z : k - count C n ≡ 0 = omega arith in
            absurd (omega (
              arith,
              rw (total_none (λ _. 0) n (λ _ _. refl), z) at (gather n m (λ _. false) C (rest m C n) (k - count C n) (none_part C n) p.enough),
              mul-le-mul_left (count C n) w,
            ))
      ]

pub certain_units_are_determined : CertainUnitsAreDetermined
certain_units_are_determined n m k pos _ _ = rounds n (omega arith) pos (reached_start n m k)
