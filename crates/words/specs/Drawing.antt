-- A number below a bound from the words of a source, by rejection.
use Rattle.std.specs.Prelude.{◌≡◌, ℕ, ◌+◌, ◌*◌, ◌/◌, ◌%◌, ◌<◌, ◌≤◌, ◌&&◌, ◌⊎◌, Some, None, Ok, Err, Result, ◌==◌, nat_lt}
use Rattle.terms.specs.Counts.{count}
use Rattle.terms.specs.Faults.{tells}
use Rattle.terms.specs.declared.fault.Fault.{Fault}
use Rattle.words.specs.Source.{Source, Past}

-- The largest multiple of m within the span: a word that reaches it is rejected.
abbrev pub limit : ℕ → ℕ → ℕ
limit span m = span / m * m

-- The first j words are there, and each is rejected.
abbrev pub Rejected : Source → ℕ → ℕ → Type 0
Rejected W m j = (i : ℕ) → i < j → (w : ℕ) × (W.coming i ≡ Some w) × (limit W.span m ≤ w)

-- Drawing a number below m from W leaves W' and has this answer.
pub data Drawn (W : Source) (m : ℕ) (W' : Source) : Result ℕ Fault → Type 0 where
  -- the bound is 0 or above the span
  bound_out_of_range : {f : Fault} → (m ≡ 0) ⊎ (W.span < m) → tells f ≡ (7, 0) → Past 0 W W' → Drawn W m W' (Err f)
  -- after j rejected words comes one that is not
  accepted : {j w : ℕ} → 1 ≤ m → m ≤ W.span → j < 64 → Rejected W m j → W.coming j ≡ Some w → w < limit W.span m → Past (j + 1) W W' → Drawn W m W' (Ok (w % m))
  -- after j rejected words none is to come
  words_ended : {j : ℕ} {f : Fault} → 1 ≤ m → m ≤ W.span → j < 64 → Rejected W m j → W.coming j ≡ None → tells f ≡ (8, j) → Past j W W' → Drawn W m W' (Err f)
  -- 64 words are rejected, and no further one is asked for
  all_rejected : {f : Fault} → 1 ≤ m → m ≤ W.span → Rejected W m 64 → tells f ≡ (9, 64) → Past 64 W W' → Drawn W m W' (Err f)

-- No multiple of m up to the span is above the limit, which is one itself.
pub record GreatestMultiple (span m : ℕ) : Type 0 where
  pub multiple : (q : ℕ) × (limit span m ≡ q * m)
  pub within : limit span m ≤ span
  pub greatest : (q : ℕ) → q * m ≤ span → q * m ≤ limit span m

-- Each remainder modulo m is given by equally many of the words below the limit.
pub record EvenHanded (span m : ℕ) : Type 0 where
  pub each : (r : ℕ) → r < m → count (λ w. nat_lt w (limit span m) && w % m == r) span ≡ span / m
