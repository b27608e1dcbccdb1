-- `Bases::put_reasons`: its loop, and what it answers.
use Rattle.std.proofs.Common.{arith, string_bytes}
use Rattle.td_plan.specs.inner.Asking.{IsByOwner}
use Rattle.td_plan.proofs.ReasonLoop.{told-all, told-more, told-none}
use Rattle.td_plan.proofs.WaitLoop.{group-is, passed-next}
use Rattle.td_plan.proofs.bases.Bases.put_reasons.Goals as goal

pub loop-start-init : goal.loop-start-init
loop-start-init c = record {
  within = omega arith;
  passed = λ sorted k d low up. absurd (omega arith);
  told = λ t own m are at all.
      let b = c.args.self.now in
      told-none b.archive.now t are.apart b.movers.now are.sources own m at c.args.asks.now all
      (string_bytes c.args.out.now);
}

pub loop-start-preserved : goal.loop-start-preserved
loop-start-preserved c =
    let asks = c.args.asks.now in
    let start = c.loop-start.start in
    let end = c.group_end-end.result in
    let group = λ (sorted : IsByOwner asks). group-is asks start end sorted c.loop-start-test.true
    c.group_end-end.ensures.after c.group_end-end.ensures.within c.group_end-end.ensures.same
    c.group_end-end.ensures.whole c.loop-start.invariant.passed in
    record {
      within = c.group_end-end.ensures.within;
      passed = λ sorted k d low high. passed-next asks start end (group sorted) k d low high;
      told = λ t own m are at all.
          let b = c.args.self.now in
          told-more b.archive.now t are.apart b.movers.now are.sources own m at asks all
          (string_bytes c.args.out.now) start end (string_bytes c.loop-start.out)
          c.mark_at.result.now (string_bytes c.push_str.new.self)
          (string_bytes c.put_reason.new.out)
          (group all.in_order) (c.loop-start.invariant.told t own m are at all) c.mark_at.ensures
          c.in_ok-push_str.ensures.bytes c.in_ok-put_reason.ensures;
    }

pub returns : goal.returns
returns c = λ t own m are at all.
    let b = c.args.self.now in
    told-all b.archive.now t are.apart b.movers.now are.sources own m at c.args.asks.now all
    (string_bytes c.args.out.now) c.loop-start.start (string_bytes c.loop-start.out) (omega arith)
    (c.loop-start.invariant.told t own m are at all)
