use Rattle.std.proofs.Common.{◌≡◌, ℕ, ◌<◌, ◌≤◌, length, None, sym, refl, ap, subst, inl, inr, arith}
use Rattle.std.proofs.lemmas.Result.{err_from_is_err_and}
use Rattle.structures.specs.Meaning.{Meaning}
use Rattle.pivotal.proofs.Options.{some_from, none_from}
use Rattle.pivotal.proofs.Rows.{same_register}
use Rattle.pivotal.proofs.draw.Draw.add.Goals as goal
use Rattle.pivotal.specs.Adding.{Added, Addable}
use Rattle.pivotal.specs.Register.{Register, register}

pub returns-then-is_some-clause-added : goal.returns-then-is_some-clause-added
returns-then-is_some-clause-added g c = Added.already_set (some_from c.args.self.now.table.denominator (sym c.if-is_some.ensures)).1 refl refl

pub returns-then-added-units-clause-added : goal.returns-then-added-units-clause-added
returns-then-added-units-clause-added g c =
    let v = c.args.self.now.table.records.ok.0 in
    Added.register_full (none_from _ (sym c.if-is_some.ensures)) (omega arith) refl refl

pub returns-then-measure-eq0-clause-added : goal.returns-then-measure-eq0-clause-added
returns-then-measure-eq0-clause-added g c =
    let v = c.args.self.now.table.records.ok.0 in
    Added.measure_out_of_range (none_from _ (sym c.if-is_some.ensures)) (omega arith) (elim c.then-measure-eq0.either [ inl e ↦ inl e | inr e ↦ inr e.1 ]) (ap (λ n. (3, n)) (omega arith)) refl

-- what the tests before the push say
addable : (M : Meaning) (R : Register) (measure : ℕ) → R.over ≡ None → length R.rows < M.units → (measure ≡ 0 → ⊥) → measure ≤ 1000000 → Addable M R measure
addable M R measure set room some few = record { not_set = set; room = room; some_measure = omega arith; few_measure = few }

pub returns-in_err-push-clause-added : goal.returns-in_err-push-clause-added
returns-in_err-push-clause-added g c =
    let self = c.args.self.now in
    let v = self.table.records.ok.0 in
    let p = err_from_is_err_and c.from_residual.result c.from_residual.ensures.1 in
    subst (Added (g.S.Structure.meaning self.structure) (register self.table) c.args.measure _) (sym p.1)
    (Added.no_memory (addable _ _ _ (none_from _ (sym c.if-is_some.ensures)) (omega arith) c.if-measure-eq0.false c.if-measure-gt-MAX_MEASURE.false) p.2 (same_register c.in_err-push.ensures.items refl))

pub returns-clause-added : goal.returns-clause-added
returns-clause-added g c =
    let v = c.args.self.now.table.records.ok.0 in
    let none = none_from _ (sym c.if-is_some.ensures) in
    Added.added (addable _ _ _ none (omega arith) c.if-measure-eq0.false c.if-measure-gt-MAX_MEASURE.false) (omega arith) (same_register c.in_ok-push.ensures.items none)
