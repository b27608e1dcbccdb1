-- `Book::waits`: at rest the rows on offer are those that need a build.
use Rattle.std.proofs.Common.{ap, ◌∙◌}
use Rattle.td_core.specs.History.{rows_of}
use Rattle.td_book.specs.declared.book.Book.TheInside.{Inside}
use Rattle.td_book.specs.Desk.{BookModel}
use Rattle.td_book.specs.Ready.{is_any_queued}
use Rattle.td_book.specs.inner.OutRows.{is_any_out}
use Rattle.td_book.proofs.OutRows.{is_any_out-rest}
use Rattle.td_book.proofs.book.Book.waits.Goals as goal

pub returns : goal.returns
returns c =
    c.is_any_out.ensures
    ∙ ap is_any_out (ap (λ (s : Inside). s.inner.view) c.self-inside.view_is ∙ c.self.invariant)
    ∙ is_any_out-rest (rows_of c.self.inside.inner.books.history)
    ∙ ap (λ (m : BookModel). is_any_queued (rows_of m.history)) c.self.view_is
