-- A step: two open units, or the one that is left, settle by a number drawn from the words.
use Rattle.std.specs.Prelude.{◌≡◌, ℕ, ◌-◌, ◌&&◌, List, Some, None, Ok, Err, Option, Result, nat_lt, slice_set}
use Rattle.std.specs.Option.{option_map}
use Rattle.structures.specs.Meaning.{Units, Meaning}
use Rattle.terms.specs.Faults.{tells}
use Rattle.terms.specs.declared.fault.Fault.{Fault}
use Rattle.words.specs.Drawing.{Drawn}
use Rattle.words.specs.Source.{Source, Past}
use Rattle.pivotal.specs.Register.{Register, measures, starts, presents, opened, NoneOpen, LowestOpen}
use Rattle.pivotal.specs.Settling.{settling, outcome}
use Rattle.pivotal.specs.declared.stepping.StepRecord.{StepRecord}
use Rattle.pivotal.specs.declared.table.UnitRecord.{UnitRecord}

-- The units that a step marks: the open ones among those of the structure.
abbrev pub marked_open : Meaning → ℕ → List UnitRecord → Units
marked_open M D rows i = nat_lt i M.units && opened D rows i

-- What a step faces: its first unit, its second if there is one, and the numerator that the first
-- settles against. The structure chooses the pair; if it has none, the lowest open unit settles alone.
pub data Faces (M : Meaning) (D : ℕ) (rows : List UnitRecord) : ℕ → Option ℕ → ℕ → Type 0 where
  pair : {i j : ℕ} → M.choice (marked_open M D rows) ≡ Some (i, j) → Faces M D rows i (Some j) (presents rows j)
  alone : {i : ℕ} → M.choice (marked_open M D rows) ≡ None → LowestOpen D rows i → Faces M D rows i None (D - presents rows i)

-- The rows with another present numerator for unit i.
abbrev pub renumbered : List UnitRecord → ℕ → ℕ → List UnitRecord
renumbered rows i a = slice_set rows i (record { measure = measures rows i; start = starts rows i; present = a })

-- The rows once the settled units have what they got: no other row is written.
abbrev pub settled : List UnitRecord → ℕ → Option ℕ → ℕ × ℕ → List UnitRecord
settled rows i None got = renumbered rows i got.0
settled rows i (Some j) got = renumbered (renumbered rows i got.0) j got.1

-- The record of a step.
abbrev pub step_record : ℕ → Option ℕ → ℕ → ℕ → StepRecord
step_record i j m r = record { first = record { 0 = i }; second = option_map (λ n. record { 0 = n }) j; bound = m; number = r }

-- Settling unit i, and j if there is one, against the numerator b takes rows to rows' and W to W'.
pub data Settles (D : ℕ) (rows : List UnitRecord) (i : ℕ) (j : Option ℕ) (b : ℕ) (W : Source) (rows' : List UnitRecord) (W' : Source) : Result StepRecord Fault → Type 0 where
  undrawn : {f : Fault} → Drawn W (settling D (presents rows i) b).bound W' (Err f) → rows' ≡ rows → Settles D rows i j b W rows' W' (Err f)
  drew : {r : ℕ} → Drawn W (settling D (presents rows i) b).bound W' (Ok r) → rows' ≡ settled rows i j (outcome (settling D (presents rows i) b) r) →
      Settles D rows i j b W rows' W' (Ok (step_record i j (settling D (presents rows i) b).bound r))

-- A step over R with the words W leaves R' and W' and has this answer.
pub data Stepped (M : Meaning) (R : Register) (W : Source) (R' : Register) (W' : Source) : Result StepRecord Fault → Type 0 where
  not_set : {f : Fault} → R.over ≡ None → tells f ≡ (10, 0) → R' ≡ R → Past 0 W W' → Stepped M R W R' W' (Err f)
  nothing_open : {D : ℕ} {f : Fault} → R.over ≡ Some D → NoneOpen D R.rows → tells f ≡ (11, 0) → R' ≡ R → Past 0 W W' → Stepped M R W R' W' (Err f)
  faced : {D i b : ℕ} {j : Option ℕ} {answer : Result StepRecord Fault} → R.over ≡ Some D → Faces M D R.rows i j b → R'.over ≡ R.over →
      Settles D R.rows i j b W R'.rows W' answer → Stepped M R W R' W' answer
