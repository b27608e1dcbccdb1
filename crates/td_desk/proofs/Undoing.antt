-- What the book answers to an undo, and what the desk answers then.
use Rattle.std.proofs.Common.{◌≡◌, ℕ, Option, None, Result, sym, subst}
use Rattle.td_book.specs.declared.undoing.UndoRefusal.{UndoRefusal}
use Rattle.td_book.specs.Desk.{BookModel}
use Rattle.td_book.specs.Undoing.{IsUndone, UndoAnswer, undo_stop}

-- an undo that the marks don't refuse
pub standing_answer : (n : ℕ) (old new : BookModel) (result : Result (Unit {0}) UndoRefusal)
    → undo_stop old.history.journal n ≡ None → IsUndone n old new result
    → UndoAnswer (undo_stop old.history.journal n) n old new result
standing_answer n old new result stop is =
    subst (λ (x : Option UndoRefusal). UndoAnswer x n old new result) (sym stop) is
