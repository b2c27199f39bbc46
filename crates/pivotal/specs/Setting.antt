-- Setting a register by size.
use Rattle.std.specs.Prelude.{◌≡◌, ℕ, ◌<◌, ◌≤◌, ◌⊎◌, List, length, Some, None, Ok, Err, Result, slice_index_or}
use Rattle.structures.specs.Meaning.{Meaning, Units}
use Rattle.terms.specs.Faults.{tells}
use Rattle.terms.specs.declared.fault.Fault.{Fault}
use Rattle.pivotal.specs.Certain.{Certain, denominator, numerator}
use Rattle.pivotal.specs.Register.{Register, blank, measures}
use Rattle.pivotal.specs.declared.table.UnitRecord.{UnitRecord}

-- A unit with this measure and this numerator, as a setting leaves it.
abbrev pub begun : ℕ → ℕ → UnitRecord
begun measure given = record { measure = measure; start = given; present = given }

-- rows' are the rows once unit i has the start and the present numerator `given i`, and its measure as before.
pub record Started (rows : List UnitRecord) (given : ℕ → ℕ) (rows' : List UnitRecord) : Type 0 where
  pub same_units : length rows' ≡ length rows
  pub each : (i : ℕ) → i < length rows → slice_index_or rows' i blank ≡ begun (measures rows i) (given i)

-- Setting R by the size k leaves R' and has this answer.
pub data Sized (M : Meaning) (R : Register) (k : ℕ) (R' : Register) : Result (Unit {0}) Fault → Type 0 where
  already_set : {D : ℕ} {f : Fault} → R.over ≡ Some D → tells f ≡ (1, 0) → R' ≡ R → Sized M R k R' (Err f)
  units_missing : {f : Fault} → R.over ≡ None → length R.rows < M.units → tells f ≡ (4, length R.rows) → R' ≡ R → Sized M R k R' (Err f)
  size_out_of_range : {f : Fault} → R.over ≡ None → M.units ≤ length R.rows → (k ≡ 0) ⊎ (length R.rows < k) → tells f ≡ (5, 0) → R' ≡ R → Sized M R k R' (Err f)
  sized : {C : Units} → R.over ≡ None → M.units ≤ length R.rows → 1 ≤ k → k ≤ length R.rows → Certain (length R.rows) (measures R.rows) k C →
      R'.over ≡ Some (denominator (length R.rows) (measures R.rows) C) → Started R.rows (numerator (length R.rows) (measures R.rows) k C) R'.rows →
      Sized M R k R' (Ok tt)
