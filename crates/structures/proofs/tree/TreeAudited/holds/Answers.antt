use Rattle.std.proofs.Common.{◌≡◌, ◌<◌, length, vec_items, rules}
use Rattle.structures.specs.Drainage.{node_at}
use Rattle.structures.proofs.Walking.{node_read, walked_more, walked_all}
use Rattle.structures.proofs.tree.TreeAudited.holds.Goals as goal

pub loop-node-preserved : goal.loop-node-preserved
loop-node-preserved c =
    let t = c.args.self.now in
    let read = node_read (vec_items t.parents) c.loop-node.node c.index.result.now c.loop-node.invariant.0 c.index.ensures in
    rw read (walked_more (vec_items t.parents) (vec_items t.homes) t.ok c.in-Some.home.now.0 c.args.range.0 c.loop-node.node
    c.loop-node-test.true c.loop-node.invariant)

pub returns : goal.returns
returns c =
    let t = c.args.self.now in
    let under : c.args.unit.0 < length (vec_items t.homes) = search rules in
    let home : c.in-Some.home.now.0 ≡ node_at (vec_items t.homes) c.args.unit.0 = search rules in
    walked_all (vec_items t.parents) (vec_items t.homes) t.ok c.args.range.0 c.loop-node.node c.args.unit.0 under
    c.loop-node-test.false (rw home at c.loop-node.invariant)
