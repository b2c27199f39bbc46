-- Settling is even-handed.
use Rattle.std.proofs.Common.{◌≡◌, ℕ, ◌+◌, ◌-◌, ◌*◌, ◌≤◌, sym, refl, subst, inl, inr, arith}
use Rattle.std.proofs.lemmas.Bool.{cases_lt, cond-true, cond-false, lt-ltb, le-ltb}
use Rattle.pivotal.specs.Settling.{Even, SettlingIsEven}

-- the average where both together have less than D
mean_below : (a s : ℕ) → a * s + (s - a) * 0 ≡ s * a
mean_below a s = omega arith

-- the average from D on, over what each lacks of D and what they have beyond it
mean_above : (x y l D a : ℕ) → a ≡ y + l → D ≡ x + y + l → y * D + x * l ≡ (x + y) * a
mean_above x y l D a p q = rw (p, q) (omega arith)

-- the same in the terms of the settling
mean_from : (D a b : ℕ) → a ≤ D → b ≤ D → D ≤ a + b → (D - b) * D + (2 * D - (a + b) - (D - b)) * (a + b - D) ≡ (2 * D - (a + b)) * a
mean_from D a b h k l =
    let lacks : 2 * D - (a + b) - (D - b) ≡ D - a = omega arith in
    let both : 2 * D - (a + b) ≡ (D - a) + (D - b) = omega arith in
    rw (lacks, both) (mean_above (D - a) (D - b) (a + b - D) D a (omega arith) (omega arith))

pub settling_is_even : SettlingIsEven
settling_is_even D a b h k =
    elim (cases_lt (a + b) D) [
      | inl l ↦ subst (Even D a b) (sym (cond-true _ _ _ (lt-ltb (a + b) D l))) (record {
        few_firsts = omega arith;
        first_sum = omega arith;
        second_sum = omega arith;
        first_closes = inr refl;
        second_closes = inl refl;
        mean = mean_below a (a + b);
      })
      | inr l ↦ subst (Even D a b) (sym (cond-false _ _ _ (le-ltb (a + b) D l))) (record {
        few_firsts = omega arith;
        first_sum = omega arith;
        second_sum = omega arith;
        first_closes = inl refl;
        second_closes = inr refl;
        mean = mean_from D a b h k l;
      })
    ]
