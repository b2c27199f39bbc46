-- Rows whose numerators are given from the front.
use Rattle.std.proofs.Common.{◌≡◌, ℕ, ◌<◌, ◌≤◌, List, length, get_or, ap, ◌∙◌}
use Rattle.pivotal.specs.Register.{blank, measures}
use Rattle.pivotal.specs.Setting.{Started, begun}
use Rattle.pivotal.specs.declared.table.UnitRecord.{UnitRecord}

-- The first i units have the numerators given, and the others are as before.
pub record Starting (rows : List UnitRecord) (given : ℕ → ℕ) (rows' : List UnitRecord) (i : ℕ) : Type 0 where
  pub same_units : length rows' ≡ length rows
  pub before : (k : ℕ) → k < i → get_or rows' k blank ≡ begun (measures rows k) (given k)
  pub after : (k : ℕ) → i ≤ k → get_or rows' k blank ≡ get_or rows k blank

-- numerators that are given otherwise and are the same
pub started_same : {rows rows' : List UnitRecord} {given given' : ℕ → ℕ} → ((i : ℕ) → given i ≡ given' i) → Started rows given rows' → Started rows given' rows'
started_same {rows} same s = record { same_units = s.same_units; each = λ i l. s.each i l ∙ ap (begun (measures rows i)) (same i) }
