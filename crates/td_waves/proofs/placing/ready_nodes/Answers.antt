-- `ready_nodes`: what it answers and its loop.
use Rattle.std.proofs.Common.{◌≡◌, ℕ, ◌==◌, ◌∙◌, inl, inr, List, get_or, refl, ap}
use Rattle.std.proofs.Common.{if◌then◌else◌, arith}
use Rattle.std.proofs.lemmas.Bool.{cases_lt, lt-ltb, le-ltb}
use Rattle.std.proofs.lemmas.List.{get_or_past, get_or_default}
use Rattle.td_waves.specs.Graph.{uses}
use Rattle.td_waves.proofs.Uses.{next_node, uses-push, not_zero, more_of_none}
use Rattle.td_waves.proofs.placing.ready_nodes.Goals as goal
use Rattle.td_waves.proofs.placing.ready_nodes.Goals.{then-count-eq0+in_ok-push, else-count-eq0}

-- 1 at a node with nothing left
abbrev ready_at : List ℕ → ℕ → ℕ
ready_at left k = if get_or left k 1 == 0 then 1 else 0

is_ready : (left : List ℕ) (k n : ℕ) → get_or left k 1 ≡ n → n ≡ 0 → 1 ≡ ready_at left k
is_ready left k n at h = rw (at, h) refl

is_not : (left : List ℕ) (k n : ℕ) → get_or left k 1 ≡ n → (n ≡ 0 → ⊥) → 0 ≡ ready_at left k
is_not left k n at h = rw (at, not_zero n h) refl

pub loop-node-preserved : goal.loop-node-preserved
loop-node-preserved c = λ s.
    let left = c.args.left.now in
    let n = c.loop-node.node in
    let at : get_or left n 1 ≡ get_or left n 0 = get_or_default left n 1 0 c.loop-node-test.true in
    elim c.if-count-eq0.branch [
      | then-count-eq0+in_ok-push w ↦
          next_node s n (ready_at left) (uses s c.loop-node.ready.items) _ 1
          (ap (λ r. uses s r.items) w.ready-is ∙ ap (λ l. uses s l) w.in_ok-push.ensures.items
          ∙ uses-push s c.loop-node.ready.items n)
          (is_ready left n _ at w.if-count-eq0.true) (c.loop-node.invariant s)
      | else-count-eq0 w ↦
          next_node s n (ready_at left) (uses s c.loop-node.ready.items) _ 0
          (ap (λ r. uses s r.items) w.ready-is ∙ more_of_none (uses s c.loop-node.ready.items)
          (n == s))
          (is_not left n _ at w.if-count-eq0.false) (c.loop-node.invariant s)
    ]

pub returns : goal.returns
returns c = λ s.
    let left = c.args.left.now in
    elim (cases_lt s c.loop-node.node) [
      | inl below ↦ c.loop-node.invariant s ∙ rw (lt-ltb s c.loop-node.node below) refl
      | inr from ↦ c.loop-node.invariant s
          ∙ rw (
            le-ltb s c.loop-node.node from,
            get_or_past left s 1 (omega (arith, c.loop-node-test.false)),
          ) refl
    ]
