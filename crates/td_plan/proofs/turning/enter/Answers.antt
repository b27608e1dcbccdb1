-- `enter`: its loop.
use Rattle.std.proofs.Common.{◌≡◌, ℕ, ◌+◌, ◌==◌, Bool, true, false, length, length-set, get_or, sym}
use Rattle.std.proofs.Common.{ap, ◌∙◌, ◌<◌, if◌then◌else◌, arith}
use Rattle.td_waves.specs.Graph.{bases_of, lists, uses}
use Rattle.td_waves.proofs.Uses.{uses-more, lists-entered}
use Rattle.td_plan.proofs.turning.enter.Goals as goal

joined : (mine : Bool) (before now start so_far here : ℕ)
    → now ≡ before + (if mine then here else 0) → before ≡ start + (if mine then so_far else 0)
    → now ≡ start + (if mine then so_far + here else 0)
joined true before now start so_far here e f = omega arith
joined false before now start so_far here e f = omega arith

pub loop-base-preserved : goal.loop-base-preserved
loop-base-preserved c =
    let us = c.loop-base.users.items in
    let i = c.loop-base.base-index in
    let bases = c.args.bases.now in
    let within : get_or bases i 0 < length us =
    omega (arith, c.requires i 0 c.loop-base-test.true, c.loop-base.invariant.len) in
    record {
      uses = λ x t.
          joined (c.args.node == x) _ _ _ _ _
          (lists-entered us (get_or bases i 0) c.args.node c.index_mut.result.now
          c.push.new.self within c.index_mut.ensures.value c.in_ok-push.ensures.items x t)
          (c.loop-base.invariant.uses x t)
          ∙ ap (λ n. uses x (bases_of (lists c.args.users.now.items) t)
          + (if c.args.node == x then n else 0))
          (sym (uses-more t bases i c.loop-base-test.true));
      len = length-set us (get_or bases i 0) c.push.new.self ∙ c.loop-base.invariant.len;
    }
