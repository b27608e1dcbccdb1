-- `least`: its loop and what it answers.
use Rattle.std.proofs.Common.{◌≡◌, ◌<◌, ◌≤◌, ◌+◌, ℕ, List, length, get_or, take, sym, subst, arith}
use Rattle.std.specs.List.{All, Contains}
use Rattle.std.proofs.lemmas.List.{take_all}
use Rattle.std.proofs.lemmas.List.Elements.{All-more, All-weaker, Contains-get_or}
use Rattle.td_plan.proofs.parts.least.Goals as goal
use Rattle.td_plan.proofs.parts.least.Goals.{then-node-least, else-node-least}

-- a lower node
lower : (nodes : List ℕ) (i old new : ℕ) → i < length nodes → new ≡ get_or nodes i 0
    → get_or nodes i 0 < old → All (λ n. old ≤ n) (take i nodes)
    → All (λ n. new ≤ n) (take (i + 1) nodes)
lower nodes i old new lt is low so = All-more (λ n. new ≤ n) nodes i 0 lt
    (All-weaker (λ n. old ≤ n) (λ n. new ≤ n) (λ n le. omega (arith, le, is, low))
    (take i nodes) so)
    (omega (arith, is))

-- a node that isn't lower
higher : (nodes : List ℕ) (i old new : ℕ) → i < length nodes → new ≡ old
    → old ≤ get_or nodes i 0 → All (λ n. old ≤ n) (take i nodes)
    → All (λ n. new ≤ n) (take (i + 1) nodes)
higher nodes i old new lt is low so = All-more (λ n. new ≤ n) nodes i 0 lt
    (All-weaker (λ n. old ≤ n) (λ n. new ≤ n) (λ n le. omega (arith, le, is)) (take i nodes) so)
    (omega (arith, is, low))

pub loop-node-preserved : goal.loop-node-preserved
loop-node-preserved c =
    let nodes = c.args.nodes.now in
    let i = c.loop-node.node-index in
    let lt : i < length nodes = c.loop-node-test.true in
    elim c.if-node-least.branch [
      | then-node-least w ↦ record {
        within = subst (λ k. Contains nodes k) (sym w.least-is) (Contains-get_or nodes i 0 lt);
        least = lower nodes i c.loop-node.least c.if-node-least.least lt w.least-is
            w.if-node-least.true c.loop-node.invariant.least;
      }
      | else-node-least w ↦ record {
        within = subst (λ k. Contains nodes k) (sym w.least-is) c.loop-node.invariant.within;
        least = higher nodes i c.loop-node.least c.if-node-least.least lt w.least-is
            w.if-node-least.false c.loop-node.invariant.least;
      }
    ]

pub returns-clause-least : goal.returns-clause-least
returns-clause-least c =
    subst (λ ns. All (λ n. c.loop-node.least ≤ n) ns)
    (take_all c.loop-node.node-index c.args.nodes.now c.loop-node-test.false)
    c.loop-node.invariant.least
