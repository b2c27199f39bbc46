-- Facts on the states of the Park-Miller generator, which its source rests on.
use Rattle.std.specs.Prelude.{◌≡◌, ℕ, zero, suc, ◌+◌, ◌-◌, ◌*◌, ◌/◌, ◌<◌, Some, ◌≢◌}
use Rattle.std.proofs.Common.{inl, inr, div-add-mod', mod-lt, arith}
use Rattle.std.proofs.lemmas.Bool.{cases_lt}
use Rattle.words.specs.States.{InRange, next, state_after}

-- 16,807 times 1,407,677,000 is 11,017 times 2,147,483,647 and 1, so a state whose product with
-- 16,807 were a multiple of 2,147,483,647 would be one itself.
no_multiple : (s q : ℕ) → InRange s → q * 2147483647 ≢ s * 16807
no_multiple s q ok e =
    let t = q * 1407677000 - s * 11017 in
    let m : s ≡ t * 2147483647 = omega arith in
    elim (cases_lt t 1) [ inl h ↦ omega arith | inr h ↦ omega arith ]

-- hence no state is 0
pub next_in_range : (s : ℕ) → InRange s → InRange (next s)
next_in_range s ok =
    let d : s * 16807 / 2147483647 * 2147483647 + next s ≡ s * 16807 = div-add-mod' (s * 16807) 2147483647 in (
      elim (cases_lt 0 (next s)) [ inl h ↦ h | inr h ↦ absurd (no_multiple s (s * 16807 / 2147483647) ok (omega arith)) ],
      omega (arith, mod-lt (s * 16807) {m = 2147483647} (omega arith)),
    )

pub states_in_range : (seed : ℕ) → InRange seed → (i : ℕ) → InRange (state_after seed i)
states_in_range seed ok zero = ok
states_in_range seed ok (suc i) = next_in_range (state_after seed i) (states_in_range seed ok i)

-- a state less 1 is below the greatest state
pub words_below : (seed : ℕ) → InRange seed → (i w : ℕ) → Some (state_after seed (suc i) - 1) ≡ Some w → w < 2147483646
words_below seed ok i w e =
    let l = states_in_range seed ok (suc i) in
    let s : state_after seed (suc i) - 1 ≡ w = cc in
    omega arith
