-- The limit of a bound, and that each number below the bound comes from equally many words.
use Rattle.std.proofs.Common.{◌≡◌, ℕ, zero, suc, ◌+◌, ◌*◌, ◌/◌, ◌%◌, ◌<◌, ◌≤◌, cond, ◌&&◌, eqb, ltb, sym, refl, ap, ◌∙◌, inl, inr, mul-le-mul_right, suc-mul, div-add-mod', zero-mul, div-mul-le_self, arith}
use Rattle.std.proofs.lemmas.Nat.{mod-mul-add, le-div}
use Rattle.std.proofs.lemmas.Bool.{cases_eq, lt-ltb, le-ltb, eq-eqb, ne_eqb}
use Rattle.terms.specs.Counts.{total}
use Rattle.terms.proofs.Totals.{total_same, total_none, total_split}
use Rattle.words.specs.Drawing.{limit, GreatestMultiple, EvenHanded}

pub greatest_multiple : (span m : ℕ) → 1 ≤ m → GreatestMultiple span m
greatest_multiple span m h =
    record {
      multiple = (span / m, refl);
      within = div-mul-le_self span m;
      greatest = λ q b. mul-le-mul_right m (le-div q span m h b);
    }

-- 1 at r, and 0 elsewhere
abbrev at : ℕ → ℕ → ℕ
at r i = cond (eqb i r) 1 0

-- of the numbers below n exactly one is r
one_only : (r n : ℕ) → r < n → total (at r) n ≡ 1
one_only r zero h = absurd (omega arith)
one_only r (suc n) h =
    elim (cases_eq n r) [
      | inl e ↦ rw (eq-eqb n r e) (omega (arith, total_none (at r) n (λ i l. rw (ne_eqb i r (λ s. omega arith)) refl)))
      | inr e ↦ rw (ne_eqb n r e) (omega (arith, one_only r n (omega arith)))
    ]

-- each of q blocks of m numbers has one with the remainder r
one_a_block : (m r q : ℕ) → r < m → total (λ w. at r (w % m)) (q * m) ≡ q
one_a_block m r zero h = rw (zero-mul m) refl
one_a_block m r (suc q) h =
    let f : ℕ → ℕ = λ w. at r (w % m) in
    let block : total (λ i. f (q * m + i)) m ≡ 1 =
    total_same (λ i. f (q * m + i)) (at r) m (λ i l. ap (at r) (mod-mul-add q m i l)) ∙ one_only r m h in
    rw (suc-mul q m) (omega (arith, total_split f (q * m) m, one_a_block m r q h, block))

pub even_handed : (span m : ℕ) → 1 ≤ m → EvenHanded span m
even_handed span m b = record {
  each = λ r h.
      let f : ℕ → ℕ = λ w. cond (ltb w (limit span m) && eqb (w % m) r) 1 0 in
      let kept : total f (limit span m) ≡ total (λ w. at r (w % m)) (limit span m) =
      total_same f (λ w. at r (w % m)) (limit span m) (λ w l. rw (lt-ltb w (limit span m) l) refl) in
      let lost : total (λ i. f (limit span m + i)) (span % m) ≡ 0 =
      total_none (λ i. f (limit span m + i)) (span % m) (λ i l. rw (le-ltb (limit span m + i) (limit span m) (omega arith)) refl) in
      ap (total f) (sym (div-add-mod' span m)) ∙ total_split f (limit span m) (span % m)
      ∙ omega (arith, kept, lost, one_a_block m r (span / m) h);
}
