use Rattle.structures.specs.DrainageLaws.{catchments_drained}
use Rattle.structures.specs.LowestLaws.{lowest_found}
use Rattle.structures.specs.ExtremeLaws.{highest_found}
use Rattle.structures.proofs.tree.Tree.new.Goals as goal

pub returns-clause-drained : goal.returns-clause-drained
returns-clause-drained c = catchments_drained

pub returns-clause-highest : goal.returns-clause-highest
returns-clause-highest c = highest_found

pub returns-clause-lowest : goal.returns-clause-lowest
returns-clause-lowest c = lowest_found
