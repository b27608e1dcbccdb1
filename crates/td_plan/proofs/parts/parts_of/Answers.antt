-- `parts_of`: what it answers.
use Rattle.std.proofs.Common.{arith}
use Rattle.td_waves.specs.Graph.{lists}
use Rattle.td_plan.proofs.Placed.{all-placed, least-of}
use Rattle.td_plan.proofs.Turned.{lists-len}
use Rattle.td_plan.proofs.parts.parts_of.Goals as goal

pub returns-clause-placed : goal.returns-clause-placed
returns-clause-placed c =
    all-placed (lists c.args.graph.now) c.loop-node.left.items c.loop-node.parts.firsts.items
    c.loop-node.parts.steps.items c.loop-node.invariant.underway
    (λ n node. c.loop-node.invariant.taken n
    (omega (arith, node, lists-len c.args.graph.now, c.loop-node-test.false)))

pub returns-clause-low : goal.returns-clause-low
returns-clause-low c = λ n.
    omega (arith, c.loop-node.invariant.underway.low n, lists-len c.args.graph.now)

pub returns-clause-firsts : goal.returns-clause-firsts
returns-clause-firsts c = λ n node.
    least-of (lists c.args.graph.now) c.loop-node.left.items c.loop-node.parts.firsts.items
    c.loop-node.parts.steps.items c.loop-node.invariant.underway
    (λ k at. c.loop-node.invariant.taken k
    (omega (arith, at, lists-len c.args.graph.now, c.loop-node-test.false))) n node
