use Rattle.std.proofs.Common.{refl, ap, arith}
use Rattle.std.proofs.lemmas.Result.{err_from_is_err_and}
use Rattle.pivotal.proofs.Rolls.{roll_numbers, length_roll}
use Rattle.pivotal.proofs.Told.{roll_told}
use Rattle.pivotal.proofs.draw.Draw.roll.Goals as goal
use Rattle.pivotal.specs.Questions.{ToldRoll}

pub returns-in_err-units-clause-told : goal.returns-in_err-units-clause-told
returns-in_err-units-clause-told g c =
    let p = err_from_is_err_and c.from_residual.result c.from_residual.ensures.1 in
    rw (p.1, p.2) (ToldRoll.not_set c.in_err-units.ensures.0 c.in_err-units.ensures.1 refl)

pub returns-in-Some-clause-told : goal.returns-in-Some-clause-told
returns-in-Some-clause-told g c = ToldRoll.still_open c.in_ok-units.ensures.0 (rw c.in_ok-units.ensures.1 at c.in-Some.ensures) refl refl

pub returns-then-list-needed-clause-told : goal.returns-then-list-needed-clause-told
returns-then-list-needed-clause-told g c =
    let rows = c.args.self.now.table.records.items in
    let many = length_roll c.in_ok-units.units.denominator rows in
    let needed = rw c.in_ok-units.ensures.1 at c.count_drawn-needed.ensures in
    ToldRoll.too_short c.in_ok-units.ensures.0 (rw c.in_ok-units.ensures.1 at c.in_default.ensures) (roll_numbers _ rows) (omega arith) (ap (λ n. (15, n)) (omega arith)) refl

pub returns-clause-told : goal.returns-clause-told
returns-clause-told g c =
    let needed = rw c.in_ok-units.ensures.1 at c.count_drawn-needed.ensures in
    roll_told _ _ (omega arith) (ToldRoll.told c.in_ok-units.ensures.0 (rw c.in_ok-units.ensures.1 at c.in_default.ensures) (rw c.in_ok-units.ensures.1 at c.write_drawn.ensures))
