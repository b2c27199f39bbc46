-- How two units settle by one number.
use Rattle.std.specs.Prelude.{◌≡◌, ℕ, ◌+◌, ◌-◌, ◌*◌, ◌≤◌, cond, ◌⊎◌, nat_lt}
use Rattle.pivotal.specs.declared.settling.Settling.{Settling}

-- How units with the numerators a and b over D settle. There are `bound` numbers; those below `firsts` lead
-- to the outcome `first`, the others to `second`. Together the units have a + b: below D one of them takes it
-- all; from D on one of them takes D, and the other what is left. A unit that is open alone settles against
-- what it lacks of D, which is no unit's: b is then D - a.
abbrev pub settling : ℕ → ℕ → ℕ → Settling
settling D a b = cond (nat_lt (a + b) D)
    (record { bound = a + b; firsts = a; first = (a + b, 0); second = (0, a + b) })
    (record { bound = 2 * D - (a + b); firsts = D - b; first = (D, a + b - D); second = (a + b - D, D) })

-- So a unit that is open alone gets D by the first a of D numbers, and 0 by the others.
abbrev pub ResidueSettles : Type 0
ResidueSettles = (D a : ℕ) → a ≤ D → settling D a (D - a) ≡ record { bound = D; firsts = a; first = (D, 0); second = (0, D) }

-- What the two units have after the number r.
abbrev pub outcome : Settling → ℕ → ℕ × ℕ
outcome s r = cond (nat_lt r s.firsts) s.first s.second

-- A settling is even-handed: it keeps the sum of the two numerators, each way leaves one unit open no longer,
-- and over all numbers the first unit gets a on the average, and so the second b.
pub record Even (D a b : ℕ) (s : Settling) : Type 0 where
  pub few_firsts : s.firsts ≤ s.bound
  pub first_sum : s.first.0 + s.first.1 ≡ a + b
  pub second_sum : s.second.0 + s.second.1 ≡ a + b
  pub first_closes : (s.first.0 ≡ D) ⊎ (s.first.1 ≡ 0)
  pub second_closes : (s.second.0 ≡ 0) ⊎ (s.second.1 ≡ D)
  pub mean : s.firsts * s.first.0 + (s.bound - s.firsts) * s.second.0 ≡ s.bound * a

-- So it is for all numerators up to D.
abbrev pub SettlingIsEven : Type 0
SettlingIsEven = (D a b : ℕ) → a ≤ D → b ≤ D → Even D a b (settling D a b)
