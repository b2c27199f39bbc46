-- Stepping a generator.
use Rattle.std.proofs.Common.{◌≡◌, ℕ, zero, suc, refl, ap}
use Rattle.words.specs.States.{next, state_after}

-- i steps from the next state are i + 1 steps
pub step_first : (s i : ℕ) → state_after (next s) i ≡ state_after s (suc i)
step_first s zero = refl
step_first s (suc i) = ap next (step_first s i)
