use Rattle.std.proofs.Common.{Some, vec_items, sym, refl, ap, ◌∙◌, inl, inr, arith}
use Rattle.pivotal.proofs.Chances.{chances_are_proper}
use Rattle.pivotal.proofs.Options.{some_from, none_from}
use Rattle.pivotal.proofs.Splits.{denominator_is, numerator_is, positive}
use Rattle.pivotal.proofs.Starts.{started_same}
use Rattle.pivotal.proofs.draw.Draw.set_by_size.Goals as goal
use Rattle.pivotal.proofs.draw.Draw.set_by_size.Goals.{then-size-eq0-via-then-size-eq0, then-size-eq0-via-else-size-eq0+then-size-added}
use Rattle.pivotal.specs.Setting.{Sized}

pub returns-then-is_some-clause-sized : goal.returns-then-is_some-clause-sized
returns-then-is_some-clause-sized g c = Sized.already_set (some_from c.args.self.now.table.denominator (sym c.if-is_some.ensures)).1 refl refl

pub returns-then-is_some-clause-proper : goal.returns-then-is_some-clause-proper
returns-then-is_some-clause-proper g c = chances_are_proper

pub returns-then-added-units-clause-sized : goal.returns-then-added-units-clause-sized
returns-then-added-units-clause-sized g c =
    let v = c.args.self.now.table.records.ok.0 in
    Sized.units_missing (none_from _ (sym c.if-is_some.ensures)) (omega arith) (ap (λ n. (4, n)) (omega arith)) refl

pub returns-then-added-units-clause-proper : goal.returns-then-added-units-clause-proper
returns-then-added-units-clause-proper g c = chances_are_proper

pub returns-then-size-eq0-clause-sized : goal.returns-then-size-eq0-clause-sized
returns-then-size-eq0-clause-sized g c =
    let v = c.args.self.now.table.records.ok.0 in
    Sized.size_out_of_range (none_from _ (sym c.if-is_some.ensures)) (omega arith)
    (elim c.then-size-eq0.branch [
      | then-size-eq0-via-then-size-eq0 w ↦ inl w.if-size-eq0.true
      | then-size-eq0-via-else-size-eq0+then-size-added w ↦ inr (omega (arith, w.if-size-added.true))
    ]) refl refl

pub returns-then-size-eq0-clause-proper : goal.returns-then-size-eq0-clause-proper
returns-then-size-eq0-clause-proper g c = chances_are_proper

pub returns-clause-sized : goal.returns-clause-sized
returns-clause-sized g c =
    let self = c.args.self.now in
    let v = self.table.records.ok.0 in
    let pos = positive (vec_items self.table.records) self.measured in
    let split = c.certain_split-split.ensures in
    Sized.sized (none_from _ (sym c.if-is_some.ensures)) (omega arith) (omega arith) (omega arith) split.certain
    (rw c.round.ensures at c.start.ensures.over ∙ ap Some (denominator_is split pos)) (started_same (numerator_is split pos) (rw c.round.ensures at c.start.ensures.started))

pub returns-clause-proper : goal.returns-clause-proper
returns-clause-proper g c = chances_are_proper
