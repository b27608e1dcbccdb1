-- `Waiter::found`: its loop, and what it answers.
use Rattle.std.proofs.Common.{arith}
use Rattle.td_plan.specs.inner.Asking.{IsByOwner}
use Rattle.td_plan.proofs.WaitLoop.{found-all, found-none, group-is, passed-next, step-more}
use Rattle.td_plan.proofs.waits.Waiter.found.Goals as goal

pub loop-start-init : goal.loop-start-init
loop-start-init c = record {
  within = omega arith;
  passed = λ sorted k d low up. absurd (omega arith);
  found = λ p beside s is are.
      found-none p beside s c.args.self.now is c.args.asks.now are c.none-found.result
      c.none-found.ensures.waits c.none-found.ensures.waitless;
}

pub loop-start-preserved : goal.loop-start-preserved
loop-start-preserved c =
    let asks = c.args.asks.now in
    let start = c.loop-start.start in
    let end = c.group_end-end.result in
    let group = λ (sorted : IsByOwner asks). group-is asks start end sorted c.loop-start-test.true
    c.group_end-end.ensures.after c.group_end-end.ensures.within c.group_end-end.ensures.same
    c.group_end-end.ensures.whole c.loop-start.invariant.passed in
    record {
      within = c.group_end-end.ensures.within;
      passed = λ sorted k d low high. passed-next asks start end (group sorted) k d low high;
      found = λ p beside s is are.
          step-more p beside s c.args.self.now is asks are start end c.loop-start.found
          c.push_owner.new.found (group are.in_order)
          (c.loop-start.invariant.found p beside s is are)
          (λ j t at mine. c.in_ok-push_owner.ensures p beside s j t is at mine);
    }

pub returns : goal.returns
returns c = λ p beside s is are.
    found-all p beside s c.args.self.now is c.args.asks.now are c.loop-start.start
    c.loop-start.found (omega arith) (c.loop-start.invariant.found p beside s is are)
