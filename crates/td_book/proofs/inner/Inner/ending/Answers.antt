-- `Inner::ending`: the clause `ending` and the call of `plan`.
use Rattle.std.proofs.Common.{◌≡◌, slice_get, ap, sym, subst, ◌∙◌}
use Rattle.td_rows.specs.declared.kind.Kind.TheVariants.{Outcome as Ended}
use Rattle.td_rows.specs.Table.{Table}
use Rattle.td_change.specs.Plans.{Planned, plan_of}
use Rattle.td_change.specs.Saved.{HaveRows}
use Rattle.td_core.specs.Books.{BooksView}
use Rattle.td_core.specs.History.{rows_of}
use Rattle.td_book.specs.Building.{ended_in}
use Rattle.td_book.specs.Desk.{InnerModel}
use Rattle.td_book.proofs.Ends.{have_one}
use Rattle.td_naming.proofs.Numbered.{key_of}
use Rattle.td_book.proofs.inner.Inner.ending.Goals as goal

pub plan-requires : goal.plan-requires
plan-requires c = record {
  rows = subst (λ (b : BooksView). HaveRows (rows_of b.history) c.in_ok-ended.ended)
      (sym c.kept.ensures)
      (have_one c.rows.result.now c.self.inside.books.history c.in-Some.key.now
      c.in-Some.field-0-1.now c.args.row c.in_ok-ended.ended c.rows.ensures.rows
      c.rows.ensures.rising c.in-Some.ensures c.in_ok-ended.ensures);
}

pub returns-clause-ending : goal.returns-clause-ending
returns-clause-ending c =
    let h = c.args.self.now.books.history in
    let b = c.args.builder in
    let plan = c.in_ok-plan.plan in
    let kept = ap (λ (b : BooksView). rows_of b.history) c.kept.ensures in
    let now = ap (λ (m : InnerModel). rows_of m.books.history) c.self.view_is in
    let there = ap (λ (t : Table). slice_get t c.args.row) (sym (c.rows.ensures.rows ∙ now))
    ∙ sym c.in-Some.ensures in
    let kind : plan.kind ≡ Ended b c.args.outcome =
    ap (λ (p : Planned). p.kind) c.in_ok-plan.ensures in
    record {
      closing = record {
        key = c.in-Some.key.now;
        at = key_of (rows_of h) c.args.row c.in-Some.key.now c.in-Some.field-0-1.now there;
        offered_is = c.in_ok-offered.ensures;
        kind = kind ∙ ap (λ o. Ended b o) (sym (ap ended_in kind));
        plan_is = c.in_ok-plan.ensures
            ∙ (λ j. plan_of (sym kind j) (c.in_ok-ended.ensures j) ((kept ∙ now) j));
      };
      claim = c.in_ok-claim.ensures;
    }
