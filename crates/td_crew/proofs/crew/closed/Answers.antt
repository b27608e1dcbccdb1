-- The book with which a desk is closed is one of the desk's.
use Rattle.std.proofs.Common.{ℕ, ap, length, sym, ◌∙◌}
use Rattle.std.proofs.lemmas.List.Sorted.{length_permutation}
use Rattle.td_book.specs.Desk.{BookModel}
use Rattle.td_desk.specs.Changes.{changes}
use Rattle.td_crew.proofs.Endings.{desk_book}
use Rattle.td_crew.proofs.crew.closed.Goals.{in-Ok, in-Err}
use Rattle.td_crew.proofs.crew.closed.Goals as goal

pub returns-clause-of_desk : goal.returns-clause-of_desk
returns-clause-of_desk g c =
    elim c.match-close.branch [
      | in-Ok w ↦ desk_book g.N.Named.table g.N.Named.origin c.match-close.book.0 w.in-Ok.book
          (ap (λ (p : BookModel × ℕ). p.0) w.book-is) w.in-Ok.ensures.table_ok
          w.in-Ok.ensures.origin_ok w.in-Ok.ensures.stock_ok w.in-Ok.ensures.staff_ok
          w.in-Ok.ensures.began_ok c.rows-lawful.ensures.lawful
      | in-Err w ↦ desk_book g.N.Named.table g.N.Named.origin c.match-close.book.0
          w.in-Err.differ.book (ap (λ (p : BookModel × ℕ). p.0) w.book-is)
          w.in-Err.ensures.table_err w.in-Err.ensures.origin_err w.in-Err.ensures.stock_err
          w.in-Err.ensures.staff_err w.in-Err.ensures.began_err c.rows-lawful.ensures.lawful
    ]

-- a permutation is as long; if the receipts differ, the ledger counts them
pub returns-clause-counted : goal.returns-clause-counted
returns-clause-counted g c = λ all.
    let count = λ (p : BookModel × ℕ). length (changes g.N.Named.opened p.0) in
    elim c.match-close.branch [
      | in-Ok w ↦ sym (length_permutation _ _ w.in-Ok.ensures.ok) ∙ sym (ap count w.book-is)
      | in-Err w ↦ w.in-Err.ensures.whole all ∙ sym (ap count w.book-is)
    ]
