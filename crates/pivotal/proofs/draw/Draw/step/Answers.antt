use Rattle.std.proofs.Common.{refl, ap}
use Rattle.std.proofs.lemmas.Result.{err_from_is_err_and}
use Rattle.terms.proofs.Telling.{refused_as}
use Rattle.terms.specs.Faults.{tells}
use Rattle.words.proofs.Passing.{past_none}
use Rattle.pivotal.proofs.Choices.{chosen}
use Rattle.pivotal.proofs.draw.Draw.step.Goals as goal
use Rattle.pivotal.specs.Stepping.{Faces, Stepped}

pub returns-in_err-units-clause-stepped : goal.returns-in_err-units-clause-stepped
returns-in_err-units-clause-stepped g c =
    let p = err_from_is_err_and c.from_residual.result c.from_residual.ensures.1 in
    rw (p.1, p.2) (Stepped.not_set c.in_err-units.ensures.0 c.in_err-units.ensures.1 refl (past_none (g.W.WordSource.source c.args.words.now)))

pub returns-in_err-lowest-clause-stepped : goal.returns-in_err-lowest-clause-stepped
returns-in_err-lowest-clause-stepped g c =
    let p = err_from_is_err_and c.from_residual-in_err-lowest.result c.from_residual-in_err-lowest.ensures.1 in
    let lowest = c.in_err-lowest.ensures in
    rw (p.1, p.2) (Stepped.nothing_open c.in_ok-units.ensures.0 (rw (c.in_ok-units.ensures.1, lowest.ok_part) at c.lowest_open.ensures)
    (ap tells (refused_as lowest.ok_part lowest.value)) refl (past_none (g.W.WordSource.source c.args.words.now)))

pub returns-in_default-clause-stepped : goal.returns-in_default-clause-stepped
returns-in_default-clause-stepped g c =
    let M = g.S.Structure.meaning c.args.self.now.structure in
    let lowest = rw (c.in_ok-units.ensures.1, c.in_ok-lowest.ensures.ok_part) at c.lowest_open.ensures in
    let none = chosen M c.in_ok-units.units.denominator _ _ _ (rw c.in_ok-units.ensures.1 at c.open_marks-marks.ensures.marks) c.in_default.ensures in
    Stepped.faced c.in_ok-units.ensures.0 (Faces.alone none lowest) c.settle_alone.ensures.same_over c.settle_alone.ensures.settles

pub returns-clause-stepped : goal.returns-clause-stepped
returns-clause-stepped g c =
    let M = g.S.Structure.meaning c.args.self.now.structure in
    let some = chosen M c.in_ok-units.units.denominator _ _ _ (rw c.in_ok-units.ensures.1 at c.open_marks-marks.ensures.marks) c.in-Some.ensures in
    Stepped.faced c.in_ok-units.ensures.0 (Faces.pair some) c.settle_pair.ensures.same_over c.settle_pair.ensures.settles
