-- `greatest_of`: its loop and what it answers.
use Rattle.std.proofs.Common.{◌≡◌, ◌⊎◌, ◌<◌, ◌≤◌, ◌+◌, ℕ, List, length, get_or, take, inr}
use Rattle.std.proofs.Common.{sym, subst, arith}
use Rattle.std.specs.List.{All, Contains}
use Rattle.std.proofs.lemmas.List.{take_all}
use Rattle.std.proofs.lemmas.List.Elements.{All-more, All-weaker, Contains-get_or}
use Rattle.td_plan.proofs.parts.greatest_of.Goals as goal
use Rattle.td_plan.proofs.parts.greatest_of.Goals.{then-steps-node, else-steps-node}

-- one node more, if no number so far is above the next
above-next : (steps nodes : List ℕ) (i old new : ℕ) → i < length nodes → old ≤ new
    → get_or steps (get_or nodes i 0) 0 ≤ new
    → All (λ n. get_or steps n 0 ≤ old) (take i nodes)
    → All (λ n. get_or steps n 0 ≤ new) (take (i + 1) nodes)
above-next steps nodes i old new lt up here so =
    All-more (λ n. get_or steps n 0 ≤ new) nodes i 0 lt
    (All-weaker (λ n. get_or steps n 0 ≤ old) (λ n. get_or steps n 0 ≤ new)
    (λ n le. omega (arith, le, up)) (take i nodes) so) here

pub loop-node-preserved : goal.loop-node-preserved
loop-node-preserved c =
    let nodes = c.args.nodes.now in
    let steps = c.args.steps.now in
    let i = c.loop-node.node-index in
    let lt : i < length nodes = c.loop-node-test.true in
    let old = c.loop-node.greatest in
    let new = c.if-steps-node.greatest in
    elim c.if-steps-node.branch [
      | then-steps-node w ↦ record {
        above = above-next steps nodes i old new lt
            (omega (arith, w.if-steps-node.true, w.greatest-is))
            (omega (arith, w.greatest-is)) c.loop-node.invariant.above;
        found = inr ((get_or nodes i 0, Contains-get_or nodes i 0 lt, sym w.greatest-is));
      }
      | else-steps-node w ↦ record {
        above = above-next steps nodes i old new lt (omega (arith, w.greatest-is))
            (omega (arith, w.if-steps-node.false, w.greatest-is)) c.loop-node.invariant.above;
        found = subst (λ k. (k ≡ 0) ⊎ ((n : ℕ) × Contains nodes n × (get_or steps n 0 ≡ k)))
            (sym w.greatest-is) c.loop-node.invariant.found;
      }
    ]

pub returns : goal.returns
returns c = record {
  above = subst (λ ns. All (λ n. get_or c.args.steps.now n 0 ≤ c.loop-node.greatest) ns)
      (take_all c.loop-node.node-index c.args.nodes.now c.loop-node-test.false)
      c.loop-node.invariant.above;
  found = c.loop-node.invariant.found;
}
