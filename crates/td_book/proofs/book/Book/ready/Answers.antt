-- `Book::ready`: the rows on offer, sorted.
use Rattle.std.proofs.Common.{◌≡◌, List, ℕ, ap, subst, ◌∙◌}
use Rattle.std.specs.List.Sorted.{IsPermutation, IsSortedBy}
use Rattle.std.proofs.lemmas.List.Sorted.{IsPermutation-trans}
use Rattle.td_rows.specs.Table.{Table}
use Rattle.td_core.specs.History.{rows_of}
use Rattle.td_book.specs.declared.book.Book.TheInside.{Inside}
use Rattle.td_book.specs.Desk.{BookModel}
use Rattle.td_book.specs.Ready.{is_before, queued_in}
use Rattle.td_book.specs.inner.OutRows.{outs_of}
use Rattle.td_book.proofs.OutRows.{outs_of-rest}
use Rattle.td_book.proofs.book.Book.ready.Goals as goal

pub returns : goal.returns
returns c =
    let t : Table = rows_of c.args.self.now.history in
    let found : List ℕ = c.in_ok-numbers.numbers.items in
    let outs = ap outs_of (ap (λ (s : Inside). s.inner.view) c.self-inside.view_is
    ∙ c.self.invariant) ∙ outs_of-rest (rows_of c.self.inside.inner.books.history)
    ∙ ap (λ (m : BookModel). queued_in (rows_of m.history)) c.self.view_is in
    let rows : c.rows-rows.result.now ≡ t =
    c.rows-rows.ensures.rows
    ∙ ap (λ (s : Inside). rows_of s.inner.books.history) c.self-inside.view_is
    ∙ ap (λ (m : BookModel). rows_of m.history) c.self.view_is in
    record {
      all = IsPermutation-trans _ found _
          (subst (λ xs. IsPermutation xs found) outs c.in_ok-numbers.ensures)
          c.sort_ready.ensures.all;
      order = subst (λ (u : Table). IsSortedBy (is_before u) c.sort_ready.new.numbers.items) rows
          c.sort_ready.ensures.order;
    }
