-- Each way out is one case of `Filled`.
use Rattle.std.proofs.Common.{refl, zero-add, arith, rules}
use Rattle.std.proofs.lemmas.Result.{err_from_is_err_and}
use Rattle.words.specs.Tape.{Filled}
use Rattle.words.proofs.Passing.{past_none}
use Rattle.words.proofs.tape.Tape.fill.Goals as goal

pub returns-then-span-eq0-clause-filled : goal.returns-then-span-eq0-clause-filled
returns-then-span-eq0-clause-filled c = Filled.span_out_of_range (search rules) refl (search (rules, past_none))

pub returns-in-Some-clause-filled : goal.returns-in-Some-clause-filled
returns-in-Some-clause-filled c =
    Filled.word_out_of_range (omega arith) (omega arith) (search rules) (search rules) (search rules) refl (search (rules, past_none))

pub returns-in_err-extend_from_slice-clause-filled : goal.returns-in_err-extend_from_slice-clause-filled
returns-in_err-extend_from_slice-clause-filled c =
    let p = err_from_is_err_and c.from_residual.result c.from_residual.ensures.1 in
    rw p.1 (Filled.no_memory (search rules) p.2 (search (rules, past_none)))

pub returns-clause-filled : goal.returns-clause-filled
returns-clause-filled c =
    Filled.filled (search rules) (omega arith) (λ i. search (rules, zero-add))
