-- A byte for each unit, written from the front.
use Rattle.std.proofs.Common.{◌≡◌, ℕ, ◌<◌, ◌≤◌, Bool, not, eqb, List, length, get_or, replicate, inl, inr, arith}
use Rattle.std.proofs.lemmas.List.{get_or-replicate, get_or_past, length-replicate}
use Rattle.std.proofs.lemmas.Bool.{cases_lt}

-- whether a byte marks
abbrev is_mark : ℕ → Bool
is_mark byte = not (eqb byte 0)

-- which bytes of a list mark
abbrev pub marks : List ℕ → ℕ → Bool
marks bytes k = is_mark (get_or bytes k 0)

-- The first i bytes mark as the test says, and the others are 0.
pub record Written (test : ℕ → Bool) (bytes : List ℕ) (i : ℕ) : Type 0 where
  pub long : length bytes ≡ 1024
  pub before : (k : ℕ) → k < i → marks bytes k ≡ test k
  pub after : (k : ℕ) → i ≤ k → get_or bytes k 0 ≡ 0

zeros : (n k : ℕ) → ◌≡◌ {A = ℕ} (get_or (replicate n 0) k 0) 0
zeros n k = elim (cases_lt k n) [ inl l ↦ get_or-replicate n k 0 0 l | inr l ↦ get_or_past (replicate n 0) k 0 (omega (arith, length-replicate {A = ℕ} n 0)) ]

-- none written yet
pub written_none : (test : ℕ → Bool) → Written test (replicate 1024 0) 0
written_none test = record { long = length-replicate {A = ℕ} 1024 0; before = λ k h. absurd (omega arith); after = λ k h. zeros 1024 k }
