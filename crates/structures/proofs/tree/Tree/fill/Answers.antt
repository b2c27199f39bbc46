-- Each way out is one case of `Filled`.
use Rattle.std.proofs.Common.{inl, inr}
use Rattle.std.proofs.lemmas.Result.{err_from_is_err_and}
use Rattle.structures.specs.Drainage.{Drainage}
use Rattle.structures.specs.Tree.{Filled}
use Rattle.structures.proofs.tree.Tree.fill.Goals as goal
use Rattle.structures.proofs.tree.Tree.fill.Goals.{In_ok-check_homes}

pub returns-in_err-within_limit-clause-filled : goal.returns-in_err-within_limit-clause-filled
returns-in_err-within_limit-clause-filled c =
    let p = err_from_is_err_and c.from_residual.result c.from_residual.ensures.1 in
    let h = c.in_err-within_limit.ensures in
    rw (p.1, p.2) (Filled.too_large (inl h.0) h.1)

pub returns-in_err-within_limit-2-clause-filled : goal.returns-in_err-within_limit-2-clause-filled
returns-in_err-within_limit-2-clause-filled c =
    let p = err_from_is_err_and c.from_residual-in_err-within_limit-2.result c.from_residual-in_err-within_limit-2.ensures.1 in
    let h = c.in_err-within_limit-2.ensures in
    rw (p.1, p.2) (Filled.too_large (inr h.0) h.1)

pub returns-in_err-check_parents-clause-filled : goal.returns-in_err-check_parents-clause-filled
returns-in_err-check_parents-clause-filled c =
    let p = err_from_is_err_and c.from_residual-in_err-check_parents.result c.from_residual-in_err-check_parents.ensures.1 in
    let h = c.in_err-check_parents.ensures in
    rw (p.1, p.2) (Filled.parent_out_of_order c.in_ok-within_limit.ensures.0 c.in_ok-within_limit-2.ensures.0 h.1 h.2)

pub returns-in_err-check_homes-clause-filled : goal.returns-in_err-check_homes-clause-filled
returns-in_err-check_homes-clause-filled c =
    let p = err_from_is_err_and c.from_residual-in_err-check_homes.result c.from_residual-in_err-check_homes.ensures.1 in
    let h = c.in_err-check_homes.ensures in
    rw (p.1, p.2) (Filled.home_too_high c.in_ok-within_limit.ensures.0 c.in_ok-within_limit-2.ensures.0 c.in_ok-check_parents.ensures h.1 h.2)

-- past the checks the lists are a drainage
drainage : (c : In_ok-check_homes) → Drainage c.args.parents.now c.args.homes.now
drainage c = (
  c.in_ok-within_limit.ensures.0,
  c.in_ok-within_limit-2.ensures.0,
  c.in_ok-check_parents.ensures,
  c.in_ok-check_homes.ensures,
)

pub returns-in_err-drained-clause-filled : goal.returns-in_err-drained-clause-filled
returns-in_err-drained-clause-filled c =
    let p = err_from_is_err_and c.from_residual-in_err-drained.result c.from_residual-in_err-drained.ensures.1 in
    rw (p.1, p.2) (Filled.no_memory (drainage (goal.at.returns-in_err-drained-clause-filled c).In_ok-check_homes) c.in_err-drained.ensures.1)

pub returns-in_err-housed-clause-filled : goal.returns-in_err-housed-clause-filled
returns-in_err-housed-clause-filled c =
    let p = err_from_is_err_and c.from_residual-in_err-housed.result c.from_residual-in_err-housed.ensures.1 in
    rw (p.1, p.2) (Filled.no_memory (drainage (goal.at.returns-in_err-housed-clause-filled c).In_ok-check_homes) c.in_err-housed.ensures.1)

pub returns-clause-filled : goal.returns-clause-filled
returns-clause-filled c =
    Filled.filled (drainage (goal.at.returns-clause-filled c).In_ok-check_homes) c.in_ok-drained.ensures c.in_ok-housed.ensures
