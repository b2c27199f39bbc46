use Rattle.std.proofs.Common.{rules, refl}
use Rattle.structures.proofs.tree.check_parents.Goals as goal

pub returns-in-Some : goal.returns-in-Some
returns-in-Some c = (c.in-Some.node, (search rules, search rules, search rules), refl)
