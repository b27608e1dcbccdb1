-- `Inner::offer_each`: what it answers and its loop.
use Rattle.std.proofs.Common.{arith}
use Rattle.td_book.proofs.Offering.{offered_none, offered_more, offered_all}
use Rattle.td_book.proofs.inner.Inner.offer_each.Goals as goal

pub loop-at-init : goal.loop-at-init
loop-at-init c = offered_none c.args.named.now c.args.self.now c.requires.held

pub loop-at-preserved : goal.loop-at-preserved
loop-at-preserved c =
    offered_more c.args.named.now c.loop-at.at c.args.self.now c.loop-at.self c.offer_at.new.self
    c.loop-at.invariant c.offer_at.ensures

pub returns : goal.returns
returns c =
    offered_all c.args.named.now c.loop-at.at c.args.self.now c.loop-at.self (omega arith)
    c.loop-at.invariant
