use Rattle.std.proofs.Common.{ℕ, ◌-◌, None, ap, ◌∙◌}
use Rattle.std.proofs.lemmas.Result.{err_from_is_err_and}
use Rattle.pivotal.proofs.Rows.{open_within, read_row}
use Rattle.pivotal.proofs.Settled.{failed, succeeded, written}
use Rattle.pivotal.proofs.table.Table.settle_alone.Goals as goal
use Rattle.pivotal.specs.Settling.{settling}
use Rattle.pivotal.specs.Stepping.{renumbered}

pub returns-in_err-number-clause-settles : goal.returns-in_err-number-clause-settles
returns-in_err-number-clause-settles g c =
    let D = c.args.denominator in
    let p = err_from_is_err_and c.from_residual.result c.from_residual.ensures.1 in
    rw (p.1, p.2) (failed D c.args.self.now.records.items c.args.unit.0 None _ _ _ _ (c.settle-residue.ensures ∙ ap (λ a. settling D a (D - a)) c.present_of-a.ensures) _ c.in_err-number.ensures.drawn)

pub returns-clause-settles : goal.returns-clause-settles
returns-clause-settles g c =
    let D = c.args.denominator in
    let rows = c.args.self.now.records.items in
    let i = c.args.unit.0 in
    let lent = read_row rows i _ (open_within D rows i c.requires) c.record_mut.ensures.value in
    succeeded D rows i None _ _ _ _ (c.settle-residue.ensures ∙ ap (λ a. settling D a (D - a)) c.present_of-a.ensures) _ _ c.in_ok-number.ensures.drawn (written rows i _ _ lent ∙ ap (λ (got : ℕ × ℕ). renumbered rows i got.0) c.outcome-one.ensures)
