-- Sets of numbers as tests, sums over the numbers below n, and how many of them are in a set.
use Rattle.std.specs.Prelude.{◌≡◌, ℕ, zero, suc, ◌+◌, ◌<◌, Bool, true, cond}

-- The sum of f over the numbers below n.
abbrev pub total : (ℕ → ℕ) → ℕ → ℕ
total f zero = 0
total f (suc n) = total f n + f n

-- How many of the numbers below n pass the test.
abbrev pub count : (ℕ → Bool) → ℕ → ℕ
count p n = total (λ i. cond (p i) 1 0) n

-- Every number that passes the test is below n.
abbrev pub Within : ℕ → (ℕ → Bool) → Type 0
Within n p = (i : ℕ) → p i ≡ true → i < n
