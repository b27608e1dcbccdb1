-- `tick_receipts`: its loop and the clause `took`.
use Rattle.std.proofs.Common.{rules, ◌≡◌, ◌<◌, length, get_or, ◌∙◌}
use Rattle.td_desk.specs.inner.Ticks.{left_from}
use Rattle.td_desk.proofs.Ticking.{takes_one, too_many_at}
use Rattle.td_desk.proofs.closing.tick_receipts.Goals as goal

pub returns-then-not-tick_receipt-clause-took : goal.returns-then-not-tick_receipt-clause-took
returns-then-not-tick_receipt-clause-took c =
    let rs = c.args.receipts.now.items in
    let within : c.loop-at.at < length rs = search rules in
    let one : c.index.result.now ≡ get_or rs c.loop-at.at c.index.result.now = search rules in
    too_many_at rs c.loop-at.at c.index.result.now _ _ within one c.loop-at.invariant.taken
    c.if-not-tick_receipt.ensures.took

pub loop-at-preserved : goal.loop-at-preserved
loop-at-preserved c =
    let rs = c.args.receipts.now.items in
    let es = c.args.entries.now in
    let within : c.loop-at.at < length rs = search rules in
    let one : c.index.result.now ≡ get_or rs c.loop-at.at c.index.result.now = search rules in
    record {
      taken = takes_one rs c.loop-at.at c.index.result.now (left_from 1 es c.args.ticks.now.items)
          (left_from 1 es c.loop-at.ticks.items) (left_from 1 es c.tick_receipt.new.ticks.items)
          within one c.loop-at.invariant.taken c.if-not-tick_receipt.ensures.took;
      len = c.tick_receipt.ensures.len ∙ c.loop-at.invariant.len;
    }
