-- What the questions tell.
use Rattle.std.proofs.Common.{◌≡◌, ℕ, ◌<◌, ◌≤◌, List, length, Some, None, Ok, Option, Bor, sym, refl, subst}
use Rattle.std.specs.List.{HoldsAt}
use Rattle.std.specs.Option.{MatchOption, ok_or, option_copied}
use Rattle.terms.specs.declared.fault.Fault.TheVariants.{NumberTooHigh}
use Rattle.pivotal.specs.Questions.{ToldUnit, ToldRoll}
use Rattle.pivotal.specs.Register.{Register, blank}
use Rattle.pivotal.specs.declared.table.UnitRecord.{UnitRecord}

-- the record that was found, or that the number is too high
pub unit_told : (R : Register) (i : ℕ) {D : ℕ} (found : Option (Bor UnitRecord)) → R.over ≡ Some D →
    MatchOption found (length R.rows ≤ i) (λ x. (i < length R.rows) × HoldsAt (λ y. x.now ≡ y) R.rows i) →
    ToldUnit R i (ok_or (option_copied found) NumberTooHigh)
unit_told R i None over past = ToldUnit.too_high over past refl
unit_told R i (Some x) over there = ToldUnit.told over there.0 (there.1 blank)

-- a roll of the same number of units
pub roll_told : {R : Register} {list list' : List ℕ} (n m : ℕ) → n ≡ m → ToldRoll R list list' (Ok m) → ToldRoll R list list' (Ok n)
roll_told {R} {list} {list'} n m same = subst (λ k. ToldRoll R list list' (Ok k)) (sym same)
