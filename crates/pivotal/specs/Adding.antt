-- Adding a unit to the register.
use Rattle.std.specs.Prelude.{◌≡◌, ℕ, ◌<◌, ◌≤◌, ◌⊎◌, [], ◌∷◌, ◌++◌, length, Some, None, Ok, Err, Result}
use Rattle.structures.specs.Meaning.{Meaning}
use Rattle.terms.specs.Faults.{tells}
use Rattle.terms.specs.declared.fault.Fault.{Fault}
use Rattle.terms.specs.declared.numbers.UnitNo.{UnitNo}
use Rattle.pivotal.specs.Register.{Register}
use Rattle.pivotal.specs.declared.table.UnitRecord.{UnitRecord}

-- A unit as it is added: it has its numerators from the setting.
abbrev pub fresh : ℕ → UnitRecord
fresh measure = record { measure = measure; start = 0; present = 0 }

-- There is room for a unit, and the measure is one that can be taken.
pub record Addable (M : Meaning) (R : Register) (measure : ℕ) : Type 0 where
  pub not_set : R.over ≡ None
  pub room : length R.rows < M.units
  pub some_measure : 1 ≤ measure
  pub few_measure : measure ≤ 1000000

-- Adding a unit of this measure to R leaves R' and has this answer.
pub data Added (M : Meaning) (R : Register) (measure : ℕ) (R' : Register) : Result UnitNo Fault → Type 0 where
  already_set : {D : ℕ} {f : Fault} → R.over ≡ Some D → tells f ≡ (1, 0) → R' ≡ R → Added M R measure R' (Err f)
  register_full : {f : Fault} → R.over ≡ None → M.units ≤ length R.rows → tells f ≡ (2, 0) → R' ≡ R → Added M R measure R' (Err f)
  measure_out_of_range : {f : Fault} → R.over ≡ None → length R.rows < M.units → (measure ≡ 0) ⊎ (1000000 < measure) → tells f ≡ (3, length R.rows) → R' ≡ R → Added M R measure R' (Err f)
  no_memory : {f : Fault} → Addable M R measure → tells f ≡ (99, 0) → R' ≡ R → Added M R measure R' (Err f)
  added : {unit : UnitNo} → Addable M R measure → unit.0 ≡ length R.rows → R' ≡ record { rows = R.rows ++ fresh measure ∷ []; over = None } → Added M R measure R' (Ok unit)
