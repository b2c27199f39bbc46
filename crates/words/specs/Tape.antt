-- Tapes of words that the caller gives.
use Rattle.std.specs.Prelude.{◌≡◌, ℕ, ◌^◌, ◌<◌, ◌≤◌, ◌⊎◌, List, length, None, Ok, Err, vec_items, Result, slice_index}
use Rattle.std.specs.List.{slice_get}
use Rattle.terms.specs.Faults.{tells}
use Rattle.terms.specs.declared.fault.Fault.{Fault}
use Rattle.words.specs.Source.{Source, Past}
use Rattle.words.specs.Listed.{InSpan, listed}
use Rattle.words.specs.declared.tape.Tape.{Tape}

-- What a tape will give: its words from its position on.
abbrev pub tape_source : Tape → Source
tape_source t = listed t.span (vec_items t.words) t.position t.ok

-- No word is to come, and the span is 1.
pub record Blank (W : Source) : Type 0 where
  pub span_one : W.span ≡ 1
  pub nothing : (i : ℕ) → W.coming i ≡ None

-- Filling a tape that has W to come with these words of this span leaves W' to come and has this answer.
pub data Filled (W : Source) (span : ℕ) (words : List ℕ) (W' : Source) : Result (Unit {0}) Fault → Type 0 where
  -- the span is not from 1 to 4,294,967,296
  span_out_of_range : {f : Fault} → (span ≡ 0) ⊎ (2 ^ 32 < span) → tells f ≡ (23, 0) → Past 0 W W' → Filled W span words W' (Err f)
  -- the word at i is the first that is not below the span
  word_out_of_range : {i : ℕ} {f : Fault} → 1 ≤ span → span ≤ 2 ^ 32 → i < length words → ((k : ℕ) → k < i → slice_index words k < span) → span ≤ slice_index words i → tells f ≡ (23, i) → Past 0 W W' → Filled W span words W' (Err f)
  -- there is no memory for the words
  no_memory : {f : Fault} → InSpan span words → tells f ≡ (99, 0) → Past 0 W W' → Filled W span words W' (Err f)
  -- the words to come are those of the list, from its start
  filled : InSpan span words → W'.span ≡ span → ((i : ℕ) → W'.coming i ≡ slice_get words i) → Filled W span words W' (Ok tt)
