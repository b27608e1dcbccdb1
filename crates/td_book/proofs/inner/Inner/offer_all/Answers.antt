-- `Inner::offer_all`: its loop.
use Rattle.std.proofs.Common.{◌≡◌, ◌+◌, ◌++◌, drop, take, ap, ◌∙◌}
use Rattle.td_rows.specs.Table.{keys_of}
use Rattle.td_core.specs.History.{rows_of}
use Rattle.td_book.specs.Desk.{InnerModel}
use Rattle.td_book.specs.Seen.{seen_off}
use Rattle.td_book.specs.Tries.{offers_for}
use Rattle.td_book.proofs.Offering.{offered_none, offered_more}
use Rattle.td_book.proofs.inner.Inner.offer_all.Goals as goal

pub loop-number-init : goal.loop-number-init
loop-number-init c =
    offered_none (keys_of (rows_of c.args.self.now.books.history)) c.args.self.now c.requires.held

pub loop-number-preserved : goal.loop-number-preserved
loop-number-preserved c =
    let keys = keys_of (rows_of c.args.self.now.books.history) in
    let i = c.loop-number.number in
    let old = c.loop-number.self in
    let same : keys_of (rows_of old.books.history) ≡ keys =
    ap (λ (m : InnerModel). keys_of (rows_of m.books.history)) c.loop-number.invariant in
    offered_more keys i c.args.self.now old c.offer_row.new.self c.loop-number.invariant
    (c.offer_row.ensures ∙ (λ j. record old {
      view = seen_off (drop (i + 1) (same j)) (rows_of old.books.history);
      tries = old.tries ++ offers_for (rows_of old.books.history) (take 1 (drop i (same j)));
    }))
