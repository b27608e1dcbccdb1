-- `Book::has_build`: what it answers.
use Rattle.std.proofs.Common.{ap, sym, ◌∙◌}
use Rattle.td_rows.specs.Keys.{ascending}
use Rattle.td_rows.specs.Table.{keys_of}
use Rattle.td_core.specs.History.{rows_of}
use Rattle.td_book.specs.declared.book.Book.TheInside.{Inside}
use Rattle.td_book.specs.Desk.{BookModel}
use Rattle.td_book.proofs.Ends.{row_of_builder}
use Rattle.td_book.proofs.book.Book.has_build.Goals as goal

pub returns : goal.returns
returns c =
    row_of_builder c.args.self.now.history c.rows.result.now c.args.row c.args.builder
    c.is_built.result
    (c.rows.ensures.rows ∙ ap (λ (s : Inside). rows_of s.inner.books.history) c.self-inside.view_is
    ∙ ap (λ (m : BookModel). rows_of m.history) c.self.view_is)
    (ap (λ (m : BookModel). ascending (keys_of m.history.opening)) (sym c.self.view_is)
    ∙ ap (λ (s : Inside). ascending (keys_of s.inner.books.history.opening))
    (sym c.self-inside.view_is) ∙ c.rows.ensures.rising)
    c.requires.within c.is_built.ensures
