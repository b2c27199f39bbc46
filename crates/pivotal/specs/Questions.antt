-- What the questions about a register answer.
use Rattle.std.specs.Prelude.{◌≡◌, ℕ, ◌+◌, ◌<◌, ◌≤◌, true, List, ◌++◌, length, drop, Some, None, Ok, Err, count_by, Result, nat_eq, slice_index, slice_index_or}
use Rattle.terms.specs.Faults.{tells}
use Rattle.terms.specs.declared.fault.Fault.{Fault}
use Rattle.pivotal.specs.Register.{Register, blank, drawn, NoneOpen, LowestOpen}
use Rattle.pivotal.specs.declared.table.UnitRecord.{UnitRecord}

-- Asking for unit i has this answer.
pub data ToldUnit (R : Register) (i : ℕ) : Result UnitRecord Fault → Type 0 where
  not_set : {f : Fault} → R.over ≡ None → tells f ≡ (10, 0) → ToldUnit R i (Err f)
  too_high : {D : ℕ} {f : Fault} → R.over ≡ Some D → length R.rows ≤ i → tells f ≡ (13, 0) → ToldUnit R i (Err f)
  told : {D : ℕ} {unit : UnitRecord} → R.over ≡ Some D → i < length R.rows → unit ≡ slice_index_or R.rows i blank → ToldUnit R i (Ok unit)

-- xs are the numbers of the drawn units, each once, rising.
pub record Roll (D : ℕ) (rows : List UnitRecord) (xs : List ℕ) : Type 0 where
  pub rising : (k : ℕ) → k + 1 < length xs → slice_index xs k < slice_index xs (k + 1)
  pub only_drawn : (k : ℕ) → k < length xs → drawn D rows (slice_index xs k) ≡ true
  pub all_drawn : (i : ℕ) → drawn D rows i ≡ true → (k : ℕ) × (k < length xs) × (slice_index xs k ≡ i)

-- A register has only one such list.
abbrev pub RollIsDetermined : Type 0
RollIsDetermined = (D : ℕ) (rows : List UnitRecord) (xs ys : List ℕ) → Roll D rows xs → Roll D rows ys → xs ≡ ys

-- How many units are drawn.
abbrev pub drawn_count : ℕ → List UnitRecord → ℕ
drawn_count D rows = count_by (λ (unit : UnitRecord). nat_eq unit.present D) rows

-- list has room for the roll, of n numbers; list' begins with it, and goes on as list does.
pub record Rolled (D : ℕ) (rows : List UnitRecord) (list list' : List ℕ) (n : ℕ) : Type 0 where
  pub numbers : List ℕ
  pub roll : Roll D rows numbers
  pub many : n ≡ length numbers
  pub room : n ≤ length list
  pub after : list' ≡ numbers ++ drop n list

-- Asking for the roll turns the caller's list into list' and has this answer.
pub data ToldRoll (R : Register) (list list' : List ℕ) : Result ℕ Fault → Type 0 where
  not_set : {f : Fault} → R.over ≡ None → tells f ≡ (10, 0) → list' ≡ list → ToldRoll R list list' (Err f)
  still_open : {D i : ℕ} {f : Fault} → R.over ≡ Some D → LowestOpen D R.rows i → tells f ≡ (14, i) → list' ≡ list → ToldRoll R list list' (Err f)
  too_short : {D : ℕ} {xs : List ℕ} {f : Fault} → R.over ≡ Some D → NoneOpen D R.rows → Roll D R.rows xs → length list < length xs → tells f ≡ (15, length xs) → list' ≡ list → ToldRoll R list list' (Err f)
  told : {D n : ℕ} → R.over ≡ Some D → NoneOpen D R.rows → Rolled D R.rows list list' n → ToldRoll R list list' (Ok n)
