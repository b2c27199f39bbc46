use Rattle.std.proofs.Common.{arith}
use Rattle.pivotal.proofs.Splits.{split_small}
use Rattle.pivotal.proofs.draw.Draw.split_by.Goals as goal

pub overflow_add-split : goal.overflow_add-split
overflow_add-split g c =
    let v = c.args.self.now.table.records.ok.0 in
    let small = split_small _ _ _ _ c.loop-unit.invariant (λ k l. (c.args.self.now.measured k (omega (arith, c.deref-unit-items.ensures.len))).1) in
    omega (arith, c.args.self.now.few, c.deref-unit-items.ensures.len, small.0)

pub overflow_add-split-else-makes_certain : goal.overflow_add-split-else-makes_certain
overflow_add-split-else-makes_certain g c =
    let v = c.args.self.now.table.records.ok.0 in
    let small = split_small _ _ _ _ c.loop-unit.invariant (λ k l. (c.args.self.now.measured k (omega (arith, c.deref-unit-items.ensures.len))).1) in
    rw c.deref-unit-items.ensures.value (omega (arith, c.args.self.now.few, c.deref-unit-items.ensures.len, small.1, (c.args.self.now.measured c.loop-unit.unit-index (omega (arith, c.deref-unit-items.ensures.len))).1))
