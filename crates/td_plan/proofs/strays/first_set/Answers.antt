-- `first_set`: its loop.
use Rattle.std.proofs.Common.{◌∙◌, sym}
use Rattle.std.proofs.lemmas.Bool.{false≢true}
use Rattle.std.proofs.lemmas.List.Elements.{All-more}
use Rattle.td_plan.specs.inner.Lists.{IsSet}
use Rattle.td_plan.proofs.strays.first_set.Goals as goal

pub loop-node-preserved : goal.loop-node-preserved
loop-node-preserved c =
    All-more (λ n. ¬ IsSet c.args.flags.now n) c.args.nodes.now c.loop-node.node-index 0
    c.loop-node-test.true c.loop-node.invariant
    (λ is. false≢true (sym c.if-flags-node.false ∙ is))
