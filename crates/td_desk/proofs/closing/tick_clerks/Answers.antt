-- `tick_clerks`: its loop and the clause `took`.
use Rattle.std.proofs.Common.{rules, ◌≡◌, ◌<◌, length, get_or, ◌∙◌, ap, subst}
use Rattle.td_desk.specs.Clerks.{ClerkModel}
use Rattle.td_desk.specs.inner.Ticks.{left_from, Takes, TooMany}
use Rattle.td_desk.proofs.Ticking.{takes_clerk, too_many_clerk}
use Rattle.td_desk.proofs.closing.tick_clerks.Goals as goal

pub returns-then-not-tick_receipts-clause-took : goal.returns-then-not-tick_receipts-clause-took
returns-then-not-tick_receipts-clause-took g c =
    let cs = c.args.clerks.now.items in
    let within : c.loop-at.at < length cs = search rules in
    let one : c.index.result.now ≡ get_or cs c.loop-at.at c.index.result.now = search rules in
    let seen = ap (λ (x : ClerkModel). x.receipts) c.behind-clerks.view_is in
    let es = c.args.entries.now in
    let many = subst (λ l. TooMany l (left_from 1 es c.loop-at.ticks.items)) seen
    c.if-not-tick_receipts.ensures.took in
    too_many_clerk cs c.loop-at.at c.index.result.now _ _ within one c.loop-at.invariant.taken many

pub loop-at-preserved : goal.loop-at-preserved
loop-at-preserved g c =
    let cs = c.args.clerks.now.items in
    let es = c.args.entries.now in
    let within : c.loop-at.at < length cs = search rules in
    let one : c.index.result.now ≡ get_or cs c.loop-at.at c.index.result.now = search rules in
    let seen = ap (λ (x : ClerkModel). x.receipts) c.behind-clerks.view_is in
    let takes = subst (λ l.
    Takes l (left_from 1 es c.loop-at.ticks.items) (left_from 1 es c.tick_receipts.new.ticks.items))
    seen c.if-not-tick_receipts.ensures.took in
    record {
      taken = takes_clerk cs c.loop-at.at c.index.result.now (left_from 1 es c.args.ticks.now.items)
          (left_from 1 es c.loop-at.ticks.items) (left_from 1 es c.tick_receipts.new.ticks.items)
          within one c.loop-at.invariant.taken takes;
      len = c.tick_receipts.ensures.len ∙ c.loop-at.invariant.len;
    }
