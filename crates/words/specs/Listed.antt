-- The words of a list as a source.
use Rattle.std.specs.Prelude.{ℕ, ◌+◌, ◌^◌, ◌<◌, ◌≤◌, List, length, slice_index}
use Rattle.std.specs.List.{slice_get}
use Rattle.words.specs.Source.{Source}
use Rattle.words.specs.ListedLaws.{listed_below, listed_ended}

-- The span is from 1 to 4,294,967,296, and every word of the list is below it.
abbrev pub InSpan : ℕ → List ℕ → Type 0
InSpan span words = (1 ≤ span) × (span ≤ 2 ^ 32) × ((i : ℕ) → i < length words → slice_index words i < span)

-- The words of the list from a position on are to come.
abbrev pub listed : (span : ℕ) (words : List ℕ) (position : ℕ) → InSpan span words → Source
listed span words position ok =
    record {
      span = span;
      coming = λ i. slice_get words (position + i);
      some_span = ok.0;
      few_span = ok.1;
      below = λ i w e. listed_below span words (position + i) w ok.2 e;
      ended = λ i e. listed_ended words position i e;
    }
