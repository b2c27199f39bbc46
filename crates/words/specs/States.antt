-- The states of the Park-Miller generator.
use Rattle.std.specs.Prelude.{ℕ, zero, suc, ◌*◌, ◌%◌, ◌≤◌}

-- A seed or a state is from 1 to 2,147,483,646.
abbrev pub InRange : ℕ → Type 0
InRange s = (1 ≤ s) × (s ≤ 2147483646)

-- The state after one more step.
abbrev pub next : ℕ → ℕ
next s = s * 16807 % 2147483647

-- The state after i steps from the seed.
abbrev pub state_after : ℕ → ℕ → ℕ
state_after seed zero = seed
state_after seed (suc i) = next (state_after seed i)
