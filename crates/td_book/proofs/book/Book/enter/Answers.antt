-- `Book::enter`: what it answers and the calls of `commit-entry` and `offer_each`.
use Rattle.std.proofs.Common.{◌≡◌, List, [], ◌++◌, ap, subst, ◌∙◌}
use Rattle.td_rows.specs.declared.key.Key.{Key}
use Rattle.td_core.specs.History.{rows_of}
use Rattle.td_book.specs.Seen.{seen_off}
use Rattle.td_book.specs.Desk.{InnerModel, BookModel, book_of}
use Rattle.td_book.specs.Tries.{offers_for}
use Rattle.td_book.specs.Calls.{Withdrew, IsCommanded, off_for, taken_of}
use Rattle.td_book.specs.declared.book.Book.TheInside.{Inside}
use Rattle.td_naming.specs.Skips.{left_of}
use Rattle.td_book.proofs.Steps.{room_end}
use Rattle.td_book.proofs.Calls.{keys_same, is_plan_of, plan_room, plan_off, off_short_is}
use Rattle.td_book.proofs.Calls.{commanded, plan_inside}
use Rattle.td_book.proofs.book.Book.enter.Goals as goal

pub commit-entry-requires-clause-plan : goal.commit-entry-requires-clause-plan
commit-entry-requires-clause-plan c =
    let h = c.self.inside.inner.books.history in
    let planned = plan_inside c.args.kind c.args.matched.items c.in-Ok.plan _ _
    c.self.view_is c.in-Ok.ensures in
    is_plan_of c.args.kind c.args.matched.items (rows_of h)
    (rows_of c.withdraw_each.new.self.books.history) c.in-Ok.plan planned
    (keys_same c.off_for-off.result.now h c.claims.new.self c.withdraw_each.new.self
    c.claims.ensures.history c.withdraw_each.ensures) c.requires.kind

pub commit-entry-requires-clause-room : goal.commit-entry-requires-clause-room
commit-entry-requires-clause-room c =
    let h = c.self.inside.inner.books.history in
    let planned = plan_inside c.args.kind c.args.matched.items c.in-Ok.plan _ _
    c.self.view_is c.in-Ok.ensures in
    plan_room c.args.kind c.args.named.now c.args.matched.items (rows_of h) c.in-Ok.plan
    c.withdraw_each.new.self.books planned c.requires.among
    (room_end c.args.named.now c.off_for-off.result.now c.claims.new.self.books
    c.withdraw_each.new.self.books c.in-Ok-claims.ensures.room c.withdraw_each.ensures.spent
    (off_short_is c.args.kind c.args.named.now c.off_for-off.result.now c.off_for-off.ensures))

pub offer_each-requires-clause-held : goal.offer_each-requires-clause-held
offer_each-requires-clause-held c =
    let h = c.self.inside.inner.books.history in
    let planned = plan_inside c.args.kind c.args.matched.items c.in-Ok.plan _ _
    c.self.view_is c.in-Ok.ensures in
    c.commit-entry.ensures.view c.off_for-off.result.now
    (plan_off c.args.kind c.args.named.now c.args.matched.items c.off_for-off.result.now
    (rows_of h) c.in-Ok.plan planned c.requires.among c.off_for-off.ensures)
    c.withdraw_each.ensures.view

pub returns : goal.returns
returns c =
    let a = c.self.inside.inner in
    let w = c.withdraw_each.new.self in
    let d = c.commit-entry.new.self in
    let e = c.offer_each.new.self in
    let planned = plan_inside c.args.kind c.args.matched.items c.in-Ok.plan _ _
    c.self.view_is c.in-Ok.ensures in
    let done : Withdrew (off_for c.args.kind c.args.named.now) c.claims.new.self w =
    subst (λ (ks : List Key). Withdrew ks c.claims.new.self w) c.off_for-off.ensures
    c.withdraw_each.ensures in
    let rows : c.rows.result.now ≡ rows_of w.books.history =
    c.rows.ensures.rows
    ∙ ap (λ (s : Inside). rows_of s.inner.books.history) c.self-inside.view_is in
    let skips =
    c.left-skips.ensures.left ∙ (λ j. left_of c.args.kind c.args.doubts.items (rows j)) in
    let told =
    c.answer.ensures ∙ ap (λ o. taken_of o c.left-skips.result) c.commit-entry.ensures.number in
    let offered = c.offer_each.ensures
    ∙ ap (λ (ks : List Key).
    let m : InnerModel =
    record d {
      view = seen_off [] (rows_of d.books.history);
      tries = d.tries ++ offers_for (rows_of d.books.history) ks;
    } in m) c.off_for-off.ensures in
    subst (λ (m : BookModel).
    IsCommanded c.args.kind c.args.named.now c.args.matched.items
    (left_of c.args.kind c.args.doubts.items) m (book_of e) c.answer.result) c.self.view_is
    (commanded c.args.kind c.args.named.now c.args.matched.items
    (left_of c.args.kind c.args.doubts.items) a c.claims.new.self w d e c.in-Ok.plan
    (seen_off [] (rows_of d.books.history)) c.left-skips.result c.answer.result planned
    c.claims.ensures.history c.claims.ensures.tries c.claims.ensures.stays done
    c.commit-entry.ensures.history c.commit-entry.ensures.tries c.commit-entry.ensures.stays
    offered skips told)
