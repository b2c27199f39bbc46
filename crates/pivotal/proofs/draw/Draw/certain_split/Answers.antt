use Rattle.std.proofs.Common.{◌-◌, length, sym, ap, ◌∙◌, subst, arith}
use Rattle.terms.proofs.Totals.{count_le}
use Rattle.pivotal.specs.Register.{measures}
use Rattle.pivotal.specs.Splitting.{qualifies}
use Rattle.pivotal.specs.declared.setting.Split.{Split}
use Rattle.pivotal.proofs.Rounds.{Reached, reached_start, round_grows}
use Rattle.pivotal.proofs.Splits.{positive, round_on, round_off, sum_fits, sum_total}
use Rattle.pivotal.proofs.draw.Draw.certain_split.Goals as goal

pub total_measure-requires : goal.total_measure-requires
total_measure-requires g c =
    let self = c.args.self.now in
    rw c.deref.ensures.value (sum_fits self.table.records.items (omega (arith, self.few, self.table.records.ok.0)) self.measured)

pub loop-found-init : goal.loop-found-init
loop-found-init g c =
    let rows = c.args.self.now.table.records.items in
    subst (Reached (length rows) (measures rows) c.args.size 0) (sym (rw c.deref.ensures.value at c.total_measure.ensures ∙ sum_total rows)) (reached_start _ _ _)

pub returns-then-next-found : goal.returns-then-next-found
returns-then-next-found g c = round_off c.loop-found.invariant (rw c.round.ensures at c.split_by-next.ensures) (omega (arith, c.if-next-found.true))

pub loop-found-smaller : goal.loop-found-smaller
loop-found-smaller g c =
    let rows = c.args.self.now.table.records.items in
    let found = c.loop-found.found in
    omega (
      arith,
      c.if-next-found.false,
      round_grows c.loop-found.invariant,
      ap (λ (s : Split). s.certain) (rw c.round.ensures at c.split_by-next.ensures),
      count_le (qualifies (measures rows) (c.args.size - found.certain) found.rest) (length rows),
    )

pub loop-found-preserved : goal.loop-found-preserved
loop-found-preserved g c = round_on c.loop-found.invariant (rw c.round.ensures at c.split_by-next.ensures) (positive _ c.args.self.now.measured)
