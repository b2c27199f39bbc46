-- What two sets share, and whether a set has two units.
use Rattle.std.specs.Prelude.{ℕ, Bool, ◌&&◌, nat_le}
use Rattle.terms.specs.Counts.{count}
use Rattle.structures.specs.Meaning.{Units}

-- The units that are in both sets.
abbrev pub both : Units → Units → Units
both J K i = J i && K i

-- Whether at least two of the first n units are in the set.
abbrev pub has_two : Units → ℕ → Bool
has_two J n = nat_le 2 (count J n)
