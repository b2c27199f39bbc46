use Rattle.std.proofs.Common.{ℕ, Some, sym, refl, ap, ◌∙◌, subst}
use Rattle.std.proofs.lemmas.List.{length-set}
use Rattle.std.proofs.lemmas.Result.{err_from_is_err_and}
use Rattle.pivotal.proofs.Rows.{open_within, read_row}
use Rattle.pivotal.proofs.Settled.{failed, succeeded, written_both, measured_renumbered}
use Rattle.pivotal.proofs.table.Table.settle_pair.Goals as goal
use Rattle.pivotal.specs.Register.{Measured}
use Rattle.pivotal.specs.Stepping.{settled}

pub returns-in_err-number-clause-settles : goal.returns-in_err-number-clause-settles
returns-in_err-number-clause-settles g c =
    let e = rw (c.present_of-a.ensures, c.present_of-b.ensures) at c.settle-settling.ensures in
    let p = err_from_is_err_and c.from_residual.result c.from_residual.ensures.1 in
    rw (p.1, p.2) (failed c.args.denominator c.args.self.now.records.items c.args.first.0 (Some c.args.second.0) _ _ _ _ e _ c.in_err-number.ensures.drawn)

pub returns : goal.returns
returns g c =
    let D = c.args.denominator in
    let rows = c.args.self.now.records.items in
    let i = c.args.first.0 in
    let j = c.args.second.0 in
    let e = rw (c.present_of-a.ensures, c.present_of-b.ensures) at c.settle-settling.ensures in
    let lent = read_row rows i _ (open_within D rows i c.requires.first_open) c.record_mut.ensures.value in
    let other = read_row _ j _ (rw length-set (open_within D rows j c.requires.second_open)) c.record_mut-2.ensures.value in
    let both = written_both rows i j _ _ _ _ lent other in
    record {
      settles = succeeded D rows i (Some j) _ _ _ _ e _ _ c.in_ok-number.ensures.drawn (both ∙ ap (λ (got : ℕ × ℕ). settled rows i (Some j) got) c.outcome-one.ensures);
      same_len = refl;
      same_over = refl;
      measured = λ h. subst Measured (sym both) (measured_renumbered _ j _ (measured_renumbered rows i _ h));
    }
