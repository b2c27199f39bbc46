use Rattle.std.proofs.Common.{ap}
use Rattle.std.proofs.lemmas.Result.{err_from_is_err_and}
use Rattle.terms.proofs.Telling.{refused_as}
use Rattle.terms.specs.Faults.{tells}
use Rattle.pivotal.proofs.Told.{unit_told}
use Rattle.pivotal.proofs.draw.Draw.unit.Goals as goal
use Rattle.pivotal.specs.Questions.{ToldUnit}

pub returns-in_err-ok_or : goal.returns-in_err-ok_or
returns-in_err-ok_or g c =
    let p = err_from_is_err_and c.from_residual.result c.from_residual.ensures.1 in
    let not_set = c.in_err-ok_or.ensures in
    rw (p.1, p.2) (ToldUnit.not_set not_set.ok_part (ap tells (refused_as not_set.ok_part not_set.value)))

pub returns : goal.returns
returns g c =
    rw (c.ok_or-2.ensures.value, c.copied.ensures) (unit_told _ _ c.get-record.result c.in_ok-ok_or.ensures.ok_part
    (rw c.deref.ensures.value at c.get-record.ensures.lookup.3))
