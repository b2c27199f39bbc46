-- What a list of marks says, and what an answer names.
use Rattle.std.specs.Prelude.{ℕ, not, ◌&&◌, List, Option, ◌==◌, nat_lt, slice_index}
use Rattle.std.specs.Option.{option_map}
use Rattle.terms.specs.declared.numbers.UnitNo.{UnitNo}
use Rattle.structures.specs.Meaning.{Units}

-- The marked units among the first n: those with a byte other than 0. A missing byte counts as 0.
abbrev pub marked : ℕ → List ℕ → Units
marked n bytes i = nat_lt i n && not (slice_index bytes i == 0)

-- The pair of unit numbers that an answer names.
abbrev pub named : Option (UnitNo × UnitNo) → Option (ℕ × ℕ)
named answer = option_map (λ pair. (pair.0.0, pair.1.0)) answer
