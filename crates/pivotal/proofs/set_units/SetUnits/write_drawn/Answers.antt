use Rattle.std.proofs.Common.{◌≡◌, ◌+◌, ◌<◌, length, set, rules, arith}
use Rattle.std.proofs.Math.Seq.{paste}
use Rattle.std.proofs.lemmas.Iterator.{YieldsList, YieldsList-from_range}
use Rattle.std.proofs.lemmas.Iterator.Consumers.{YieldsList-at, YieldsList-from_filter, YieldsList-from_enumerate}
use Rattle.std.proofs.lemmas.List.{length_push}
use Rattle.std.specs.List.{enumerate_from}
use Rattle.pivotal.proofs.Rolls.{drawn_numbers, next_written, all_written}
use Rattle.pivotal.proofs.set_units.SetUnits.write_drawn.Given as given
use Rattle.pivotal.proofs.set_units.SetUnits.write_drawn.Goals as goal
use Rattle.pivotal.proofs.set_units.SetUnits.write_drawn.Goals.{After-into_iter-place-iterator, In-Some}
use Rattle.pivotal.specs.Register.{drawn}

-- the loop goes over the numbers of the drawn units, each with its place
road : (c : After-into_iter-place-iterator) →
    YieldsList given.iterator-loop-place.next_gives (λ p. p) c.into_iter-place-iterator.result
    (enumerate_from 0 (drawn_numbers c.args.self.now.denominator c.args.self.now.records.now))
road c =
    let rows = c.args.self.now.records.now in
    let made = c.filter-drawn.ensures in
    let placed = c.enumerate-place-items.ensures in
    let units = YieldsList-from_range 0 (length rows) (length rows) made.source (omega arith) in
    YieldsList-at c.into_iter-place-iterator.ensures.into_iter_gives (YieldsList-from_enumerate (YieldsList-at placed.source
    (YieldsList-from_filter _ (drawn c.args.self.now.denominator rows) units made.closure (λ i b q k. search rules))) placed.count)

-- what one turn does
turn : (c : In-Some) →
    let list = c.args.list.now in
    let numbers = drawn_numbers c.args.self.now.denominator c.args.self.now.records.now in
    let come = length c.loop-place.yielded in
    (c.in-Some.place < length list) × (set (paste list 0 numbers come) c.in-Some.place c.in-Some.unit ≡ paste list 0 numbers (come + 1))
turn c =
    next_written c.args.self.now.denominator c.args.self.now.records.now (road (goal.at.bounds-list-place c).After-into_iter-place-iterator) _ _ _
    c.loop-place.yielded_by _ c.next.ensures.steps _ c.requires _ _ c.in-Some.is

pub offset_bounds-list-place : goal.offset_bounds-list-place
offset_bounds-list-place c = let l = (turn c).0 in search rules

pub bounds-list-place : goal.bounds-list-place
bounds-list-place c = omega (arith, (turn c).0)

pub loop-place-preserved : goal.loop-place-preserved
loop-place-preserved c = rw (length_push c.loop-place.yielded (c.in-Some.place, c.in-Some.unit), c.loop-place.invariant) (turn c).1

pub returns : goal.returns
returns c =
    all_written c.args.self.now.denominator c.args.self.now.records.now (road (goal.at.returns c).After-into_iter-place-iterator) _ _ _
    c.loop-place.yielded_by _ c.next.ensures.steps _ c.requires c.in-None.is _ c.loop-place.invariant
