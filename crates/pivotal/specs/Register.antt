-- The register: units in the order of adding, and, once it is set, the denominator.
use Rattle.std.specs.Prelude.{◌≡◌, ℕ, ◌<◌, ◌≤◌, Bool, true, false, ◌&&◌, List, length, Some, None, vec_items, Option, ◌==◌, nat_lt, slice_index_or}
use Rattle.structures.specs.Meaning.{Units}
use Rattle.terms.specs.declared.numbers.UnitNo.{UnitNo}
use Rattle.pivotal.specs.declared.table.Table.{Table}
use Rattle.pivotal.specs.declared.table.UnitRecord.{UnitRecord}

pub record Register : Type 0 where
  pub rows : List UnitRecord
  pub over : Option ℕ

-- The register that a table holds.
abbrev pub register : Table → Register
register table = record { rows = vec_items table.records; over = table.denominator }

-- What stands for a unit that is not there.
abbrev pub blank : UnitRecord
blank = record { measure = 0; start = 0; present = 0 }

abbrev pub measure_of : UnitRecord → ℕ
measure_of unit = unit.measure

-- The measure, the start numerator and the present numerator of each unit.
abbrev pub measures : List UnitRecord → ℕ → ℕ
measures rows i = (slice_index_or rows i blank).measure

abbrev pub starts : List UnitRecord → ℕ → ℕ
starts rows i = (slice_index_or rows i blank).start

abbrev pub presents : List UnitRecord → ℕ → ℕ
presents rows i = (slice_index_or rows i blank).present

-- A numerator strictly between 0 and the denominator.
abbrev pub between : ℕ → ℕ → Bool
between D a = nat_lt 0 a && nat_lt a D

-- A unit is open while its numerator is such a one.
abbrev pub opened : ℕ → List UnitRecord → Units
opened D rows i = between D (presents rows i)

-- A unit is drawn once its numerator is the denominator.
abbrev pub drawn : ℕ → List UnitRecord → Units
drawn D rows i = nat_lt i (length rows) && presents rows i == D

-- No unit is open.
abbrev pub NoneOpen : ℕ → List UnitRecord → Type 0
NoneOpen D rows = (i : ℕ) → opened D rows i ≡ false

-- Unit i is open, and none before it.
pub record LowestOpen (D : ℕ) (rows : List UnitRecord) (i : ℕ) : Type 0 where
  pub is_open : opened D rows i ≡ true
  pub none_before : (j : ℕ) → j < i → opened D rows j ≡ false

-- What looking for the lowest open unit finds.
abbrev pub FindsOpen : ℕ → List UnitRecord → Option UnitNo → Type 0
FindsOpen D rows None = NoneOpen D rows
FindsOpen D rows (Some unit) = LowestOpen D rows unit.0

-- Every measure is one that adding takes.
abbrev pub Measured : List UnitRecord → Type 0
Measured rows = (i : ℕ) → i < length rows → (1 ≤ measures rows i) × (measures rows i ≤ 1000000)
