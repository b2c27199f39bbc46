-- Laws of the rows of a register.
use Rattle.std.proofs.Common.{◌≡◌, ℕ, ◌<◌, ◌≤◌, true, false, List, length, get_or, Option, ap, inl, inr}
use Rattle.std.proofs.lemmas.List.{get_or_past, get_or_read}
use Rattle.std.proofs.lemmas.Bool.{both_ways, cases_lt}
use Rattle.pivotal.specs.Register.{Register, blank, between, opened}
use Rattle.pivotal.specs.declared.table.UnitRecord.{UnitRecord}

-- a measure that adding takes
abbrev pub Takeable : UnitRecord → Type 0
Takeable unit = (1 ≤ unit.measure) × (unit.measure ≤ 1000000)

-- registers with the same rows over the same denominator
pub same_register : {rows rows' : List UnitRecord} {over over' : Option ℕ} → rows ≡ rows' → over ≡ over' → ◌≡◌ {A = Register} (record { rows = rows; over = over }) (record { rows = rows'; over = over' })
same_register p q = λ i. record { rows = p i; over = q i }

-- a unit that is not there is not open
pub past_not_open : (D : ℕ) (rows : List UnitRecord) (i : ℕ) → length rows ≤ i → opened D rows i ≡ false
past_not_open D rows i h = ap (λ (unit : UnitRecord). between D unit.present) (get_or_past rows i blank h)

-- so an open unit is there
pub open_within : (D : ℕ) (rows : List UnitRecord) (i : ℕ) → opened D rows i ≡ true → i < length rows
open_within D rows i e =
    elim (cases_lt i (length rows)) [ inl l ↦ l | inr l ↦ absurd (both_ways (opened D rows i) (past_not_open D rows i l) e) ]

-- a record of the table, read at a unit that is there
pub read_row : (rows : List UnitRecord) (i : ℕ) (unit : UnitRecord) → i < length rows → unit ≡ get_or rows i unit → unit ≡ get_or rows i blank
read_row rows i unit there read = get_or_read rows i unit there read blank
