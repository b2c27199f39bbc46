use Rattle.std.proofs.Common.{◌*◌, nat_le, ap, ◌∙◌, arith}
use Rattle.pivotal.proofs.Splits.{reaches_quotient}
use Rattle.pivotal.proofs.setting.Round.makes_certain.Goals as goal

pub returns-else-self-eq0 : goal.returns-else-self-eq0
returns-else-self-eq0 c =
    let round = c.args.self in
    rw c.div_ceil.ensures (reaches_quotient _ round.places c.args.measure (omega arith) ∙ ap (λ r. nat_le r (c.args.measure * round.places)) (omega arith))
