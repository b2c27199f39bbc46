use Rattle.pivotal.proofs.Marks.{written_none}
use Rattle.pivotal.proofs.set_units.SetUnits.open_marks.Goals as goal

pub loop-i-init : goal.loop-i-init
loop-i-init c = written_none _
