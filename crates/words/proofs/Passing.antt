-- Sources one after another: what was taken adds up.
use Rattle.std.proofs.Common.{◌≡◌, ℕ, ◌+◌, Some, None, Option, sym, refl, ap, ◌∙◌, add-zero, zero-add, arith}
use Rattle.words.specs.Source.{Source, Past, Asked}

-- a source is what is to come from it when nothing is taken
pub past_none : (W : Source) → Past 0 W W
past_none W = record { same_span = refl; rest = λ i. rw add-zero }

-- j words and then k words are j + k words
pub past_more : {j k : ℕ} {U V W : Source} → Past j U V → Past k V W → Past (j + k) U W
past_more {j = j} {k = k} {U = U} p q =
    record {
      same_span = q.same_span ∙ p.same_span;
      rest = λ i. let e : i + k + j ≡ i + (j + k) = omega arith in q.rest i ∙ p.rest (i + k) ∙ ap (λ n. U.coming n) e;
    }

-- one more word, asked for after j words
pub past_word : {j w : ℕ} {U V W : Source} → Past j U V → Asked V (Some w) W → Past (j + 1) U W
past_word p a = past_more p a.past

-- no further word, asked for after j words
pub past_no_word : {j : ℕ} {U V W : Source} → Past j U V → Asked V None W → Past j U W
past_no_word {j = j} p a = rw add-zero at (past_more p a.past)

-- what is asked for after j words is the word after j others
pub asked_after : {j : ℕ} {U V W : Source} {o : Option ℕ} → Past j U V → Asked V o W → U.coming j ≡ o
asked_after {j = j} {U = U} p a = sym (a.first ∙ p.rest 0 ∙ ap (λ n. U.coming n) (zero-add j))
