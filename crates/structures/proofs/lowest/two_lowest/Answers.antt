use Rattle.std.proofs.Common.{rules, sym, arith}
use Rattle.structures.proofs.Pass.{finds_none, finds_one, finds_two}
use Rattle.structures.proofs.lowest.two_lowest.Goals as goal

pub returns-in_err-lower : goal.returns-in_err-lower
returns-in_err-lower c =
    let made = c.filter-marked.ensures in
    rw c.from_residual.ensures (sym (finds_none c.args.units _ c.args.marks.now (grind arith) _ (λ i b q k. search rules) _ _
    (made.source, made.closure) c.in_err-lower.ensures.steps))

pub returns-in_err-higher : goal.returns-in_err-higher
returns-in_err-higher c =
    let made = c.filter-marked.ensures in
    rw c.from_residual-in_err-higher.ensures (sym (finds_one c.args.units _ c.args.marks.now (grind arith) _ (λ i b q k. search rules) _ _
    (made.source, made.closure) _ _ c.in_ok-lower.ensures.steps c.in_err-higher.ensures.steps))

pub returns : goal.returns
returns c =
    let made = c.filter-marked.ensures in
    sym (finds_two c.args.units _ c.args.marks.now (grind arith) _ (λ i b q k. search rules) _ _
    (made.source, made.closure) _ _ _ c.in_ok-lower.ensures.steps c.in_ok-higher.ensures.steps)
