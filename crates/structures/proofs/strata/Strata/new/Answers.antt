use Rattle.structures.specs.ExtremeLaws.{first_found}
use Rattle.structures.specs.StrataLaws.{ranges_in_order}
use Rattle.structures.proofs.strata.Strata.new.Goals as goal

pub returns-clause-ordered : goal.returns-clause-ordered
returns-clause-ordered g c = ranges_in_order

pub returns-clause-lowest_stratum : goal.returns-clause-lowest_stratum
returns-clause-lowest_stratum g c = first_found
