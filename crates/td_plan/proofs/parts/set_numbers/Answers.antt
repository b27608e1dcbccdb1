-- `set_numbers`: its loop.
use Rattle.std.proofs.Common.{◌<◌, ◌∙◌, length, get_or, refl, subst, arith}
use Rattle.std.proofs.Common.{length-set}
use Rattle.std.proofs.lemmas.List.{take_all}
use Rattle.td_plan.specs.inner.Lists.{AreSetTo}
use Rattle.td_plan.proofs.SetTo.{set-more, set-none}
use Rattle.td_plan.proofs.parts.set_numbers.Goals as goal

pub loop-node-init : goal.loop-node-init
loop-node-init c = record {
  set = set-none 0 c.args.value c.args.numbers.now.items;
  len = refl;
}

pub loop-node-preserved : goal.loop-node-preserved
loop-node-preserved c =
    let nodes = c.args.nodes.now in
    let i = c.loop-node.node-index in
    let numbers = c.loop-node.numbers.items in
    let low : get_or nodes i 0 < length numbers =
    omega (arith, c.requires i 0 c.loop-node-test.true, c.loop-node.invariant.len) in
    record {
      set = set-more nodes 0 c.args.value c.args.numbers.now.items numbers i
          c.loop-node-test.true c.loop-node.invariant.set low;
      len = length-set numbers (get_or nodes i 0) c.args.value ∙ c.loop-node.invariant.len;
    }

pub returns-clause-set : goal.returns-clause-set
returns-clause-set c =
    let nodes = c.args.nodes.now in
    subst (λ ns. AreSetTo ns 0 c.args.value c.args.numbers.now.items c.loop-node.numbers.items)
    (take_all c.loop-node.node-index nodes c.loop-node-test.false) c.loop-node.invariant.set
