-- What the structure's answer to the marks of a step says.
use Rattle.std.proofs.Common.{◌≡◌, ℕ, not, ◌&&◌, eqb, ltb, List, get_or, Option, sym, ap, ◌∙◌}
use mathlib.Core.Path.{fun_ext}
use Rattle.structures.specs.Marks.{marked}
use Rattle.structures.specs.Meaning.{Meaning}
use Rattle.pivotal.specs.Register.{opened}
use Rattle.pivotal.specs.Stepping.{marked_open}
use Rattle.pivotal.specs.declared.table.UnitRecord.{UnitRecord}

module _ (M : Meaning) (D : ℕ) (rows : List UnitRecord) where
  -- bytes that mark the open units mark the set that a step asks about
  marks_open : (bytes : List ℕ) → ((i : ℕ) → not (eqb (get_or bytes i 0) 0) ≡ opened D rows i) → marked M.units bytes ≡ marked_open M D rows
  marks_open bytes h = fun_ext (λ i. ap (λ b. ltb i M.units && b) (h i))

  -- so the answer to them is the choice among the open units
  pub chosen : (bytes : List ℕ) (answer : Option (ℕ × ℕ)) → ((i : ℕ) → not (eqb (get_or bytes i 0) 0) ≡ opened D rows i) → answer ≡ M.choice (marked M.units bytes) →
      M.choice (marked_open M D rows) ≡ answer
  chosen bytes answer h e = sym (ap M.choice (marks_open bytes h)) ∙ sym e
