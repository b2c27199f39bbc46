-- Settling in the table is settling in the register.
use Rattle.std.proofs.Common.{◌≡◌, ℕ, ◌<◌, List, length, get_or, set, Ok, Err, Option, sym, refl, ap, ◌∙◌, subst, inl, inr, arith}
use Rattle.std.proofs.lemmas.List.{get_or-set_same, get_or-set_other, length-set}
use Rattle.std.proofs.lemmas.Bool.{cases_eq}
use Rattle.terms.specs.declared.fault.Fault.{Fault}
use Rattle.words.specs.Drawing.{Drawn}
use Rattle.words.specs.Source.{Source}
use Rattle.pivotal.proofs.Rows.{Takeable}
use Rattle.pivotal.specs.Register.{blank, presents, Measured}
use Rattle.pivotal.specs.Settling.{settling, outcome}
use Rattle.pivotal.specs.Stepping.{Settles, renumbered, settled, step_record}
use Rattle.pivotal.specs.declared.settling.Settling.{Settling}
use Rattle.pivotal.specs.declared.table.UnitRecord.{UnitRecord}

-- The settling s that the code computed is the one that the rules give.
module _ (D : ℕ) (rows : List UnitRecord) (i : ℕ) (j : Option ℕ) (b : ℕ) (W W' : Source) (s : Settling) (e : s ≡ settling D (presents rows i) b) where
  pub failed : (f : Fault) → Drawn W s.bound W' (Err f) → Settles D rows i j b W rows W' (Err f)
  failed f d = Settles.undrawn (subst (λ (x : Settling). Drawn W x.bound W' (Err f)) e d) refl

  pub succeeded : (r : ℕ) (rows' : List UnitRecord) → Drawn W s.bound W' (Ok r) → rows' ≡ settled rows i j (outcome s r) → Settles D rows i j b W rows' W' (Ok (step_record i j s.bound r))
  succeeded r rows' d t =
      subst (λ (x : Settling). Settles D rows i j b W rows' W' (Ok (step_record i j x.bound r))) (sym e)
      (Settles.drew (subst (λ (x : Settling). Drawn W x.bound W' (Ok r)) e d) (t ∙ ap (λ (x : Settling). settled rows i j (outcome x r)) e))

-- a record with another present numerator
abbrev pub with_present : UnitRecord → ℕ → UnitRecord
with_present unit a = record { measure = unit.measure; start = unit.start; present = a }

-- writing the numerator of the lent record of unit i
pub written : (rows : List UnitRecord) (i a : ℕ) (unit : UnitRecord) → unit ≡ get_or rows i blank → set rows i (with_present unit a) ≡ renumbered rows i a
written rows i a unit same = ap (λ (u : UnitRecord). set rows i (with_present u a)) same

-- and then that of unit j
pub written_both : (rows : List UnitRecord) (i j a b : ℕ) (unit other : UnitRecord) → unit ≡ get_or rows i blank → other ≡ get_or (set rows i (with_present unit a)) j blank →
    set (set rows i (with_present unit a)) j (with_present other b) ≡ renumbered (renumbered rows i a) j b
written_both rows i j a b unit other same same' = written (set rows i (with_present unit a)) j b other same' ∙ ap (λ (rs : List UnitRecord). renumbered rs j b) (written rows i a unit same)

-- it leaves the measures
pub measured_renumbered : (rows : List UnitRecord) (i a : ℕ) → Measured rows → Measured (renumbered rows i a)
measured_renumbered rows i a old k h =
    let within : k < length rows = omega (arith, length-set rows i (record { measure = (get_or rows i blank).measure; start = (get_or rows i blank).start; present = a })) in
    elim (cases_eq k i) [
      | inl e ↦ subst (λ n. Takeable (get_or (renumbered rows i a) n blank)) (sym e) (subst Takeable (sym (get_or-set_same rows i _ blank (subst (λ n. n < length rows) e within))) (old i (subst (λ n. n < length rows) e within)))
      | inr ne ↦ subst Takeable (sym (get_or-set_other rows i k _ blank ne)) (old k within)
    ]
