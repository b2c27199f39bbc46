-- Splitting the units into those that are certain and the others.
use Rattle.std.specs.Prelude.{◌≡◌, ℕ, ◌-◌, ◌*◌, cond, ◌==◌, nat_le}
use Rattle.structures.specs.Meaning.{Units}
use Rattle.terms.specs.Counts.{count}
use Rattle.pivotal.specs.Certain.{Certain, rest}
use Rattle.pivotal.specs.declared.setting.Round.{Round}
use Rattle.pivotal.specs.declared.setting.Split.{Split}

-- The units whose measure times K is at least W.
abbrev pub qualifies : (ℕ → ℕ) → ℕ → ℕ → Units
qualifies measure K W i = nat_le W (measure i * K)

-- How many of the first n units are in a set, and what the measures of the others come to.
abbrev pub split_of : (ℕ → ℕ) → Units → ℕ → Split
split_of measure C n = record { certain = count C n; rest = rest measure C n }

-- The round that follows a split for the size k: each certain unit has taken a place.
abbrev pub round_of : ℕ → Split → Round
round_of k s = record { places = k - s.certain; rest = s.rest }

-- The denominator that a round gives: what is left over, or 1 where nothing is.
abbrev pub denominator_by : Round → ℕ
denominator_by round = cond (round.rest == 0) 1 round.rest

-- The numerator that a round gives to a measure.
abbrev pub numerator_by : Round → ℕ → ℕ
numerator_by round measure = cond (nat_le round.rest (measure * round.places)) (denominator_by round) (measure * round.places)

-- The split by the certain units, which are the units that qualify by it.
pub record CertainSplit (n : ℕ) (measure : ℕ → ℕ) (k : ℕ) (s : Split) : Type 0 where
  pub certain : Certain n measure k (qualifies measure (k - s.certain) s.rest)
  pub split : split_of measure (qualifies measure (k - s.certain) s.rest) n ≡ s
