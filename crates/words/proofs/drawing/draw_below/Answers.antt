-- Each way out is one case of `Drawn`.
use Rattle.std.proofs.Common.{◌≡◌, ℕ, ◌≤◌, Result, refl, ap, arith, rules, below_more}
use Rattle.std.proofs.lemmas.Result.{err_from_is_err_and}
use Rattle.terms.proofs.Telling.{refused_as}
use Rattle.terms.specs.Faults.{tells}
use Rattle.terms.specs.declared.fault.Fault.{Fault}
use Rattle.words.specs.Source.{Source}
use Rattle.words.specs.Drawing.{Drawn, GreatestMultiple, EvenHanded, bound_out_of_range, accepted, words_ended, all_rejected}
use Rattle.words.proofs.Passing.{past_none, past_word, past_no_word, asked_after}
use Rattle.words.proofs.Evenness.{greatest_multiple, even_handed}
use Rattle.words.proofs.drawing.draw_below.Goals as goal

-- what is promised of the limit holds whatever the answer
with_limit : {W W' : Source} {m : ℕ} {r : Result ℕ Fault} → Drawn W m W' r → record {
  drawn : Drawn W m W' r;
  greatest : 1 ≤ m → GreatestMultiple W.span m;
  even : 1 ≤ m → EvenHanded W.span m;
}
with_limit d = record { drawn = d; greatest = greatest_multiple _ _; even = even_handed _ _ }

pub returns-then-bound-eq0 : goal.returns-then-bound-eq0
returns-then-bound-eq0 g c = with_limit (bound_out_of_range (search rules) refl (past_none _))

pub returns-in_err-word : goal.returns-in_err-word
returns-in_err-word g c =
    let so_far = c.loop-read.invariant in
    let asked = rw c.in_err-word.ensures.ok_part at c.next_word.ensures.asked in
    let p = err_from_is_err_and c.from_residual.result c.from_residual.ensures.1 in
    with_limit (rw (p.1, p.2) (words_ended {j = c.loop-read.read} (omega arith) (omega arith) (omega arith) so_far.rejected (asked_after so_far.past asked)
    (ap tells (refused_as c.in_err-word.ensures.ok_part c.in_err-word.ensures.value)) (past_no_word so_far.past asked)))

pub returns-then-word-limit : goal.returns-then-word-limit
returns-then-word-limit g c =
    let so_far = c.loop-read.invariant in
    let asked = rw c.in_ok-word.ensures.ok_part at c.next_word.ensures.asked in
    with_limit (accepted (omega arith) (omega arith) (omega arith) so_far.rejected (asked_after so_far.past asked) (search rules) (past_word so_far.past asked))

pub loop-read-preserved : goal.loop-read-preserved
loop-read-preserved g c =
    let so_far = c.loop-read.invariant in
    let asked = rw c.in_ok-word.ensures.ok_part at c.next_word.ensures.asked in
    record {
      past = past_word so_far.past asked;
      rejected = below_more _ _ so_far.rejected (c.in_ok-word.field-0, asked_after so_far.past asked, search rules);
    }

pub returns : goal.returns
returns g c =
    let so_far = c.loop-read.invariant in
    let all : c.loop-read.read ≡ 64 = omega arith in
    with_limit (all_rejected (omega arith) (omega arith) (rw all at so_far.rejected) (search rules) (rw all at so_far.past))
