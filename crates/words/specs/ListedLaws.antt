-- Facts on words in a list, which the source of a list rests on.
use Rattle.std.specs.Prelude.{◌≡◌, ℕ, ◌+◌, ◌<◌, List, length, Some, None, slice_index}
use Rattle.std.proofs.Common.{inl, inr, arith}
use Rattle.std.proofs.lemmas.Option.{slice_get_within, get_or_from_slice_get, slice_get_past, slice_get_cases}
use Rattle.std.specs.List.{slice_get}

pub listed_below : (span : ℕ) (xs : List ℕ) (i w : ℕ) → ((k : ℕ) → k < length xs → slice_index xs k < span) → slice_get xs i ≡ Some w → w < span
listed_below span xs i w h e = rw (get_or_from_slice_get xs i w 0 e) at (h i (slice_get_within xs i w e))

pub listed_ended : (xs : List ℕ) (p i : ℕ) → slice_get xs (p + i) ≡ None → slice_get xs (p + (i + 1)) ≡ None
listed_ended xs p i e =
    elim (slice_get_cases xs (p + i)).1 [ inl x ↦ cc x.2 | inr h ↦ slice_get_past xs (p + (i + 1)) (omega arith) ]
