-- The moves of an undo. This project's own.
use Rattle.std.specs.Prelude.{◌≡◌, ℕ, ◌≤◌, List, [], ◌∷◌, ◌++◌, Option, None, Result, Ok, Err}
use Rattle.std.specs.Prelude.{IsSomeAnd}
use Rattle.td_rows.specs.declared.key.Key.{Key}
use Rattle.td_rows.specs.declared.kind.Kind.{Kind}
use Rattle.td_journal.specs.Entries.{entry_at}
use Rattle.td_core.specs.declared.step.Answer.TheVariants.{Entry, Undone}
use Rattle.td_core.specs.History.{History, rows_of, with_entry, without_entry}
use Rattle.td_core.specs.Worlds.{WorldView}
use Rattle.td_book.specs.Calls.{off_for}
use Rattle.td_book.specs.Desk.{BookModel, claim_of}
use Rattle.td_book.specs.Undoing.{undo_stop, UndoAnswer}
use Rattle.td_book.specs.declared.undoing.UndoRefusal.{UndoRefusal}
use Rattle.td_book.specs.declared.undoing.UndoRefusal.TheVariants.{Blocked}
use Rattle.td_steps.specs.Sees.{Sees, resting}
use Rattle.td_steps.specs.Moves.{Move, lost, note, undo}
use Rattle.td_steps.specs.Runs.{LeadsOn}
use Rattle.td_steps.specs.Parts.{winning, offering, Tells}
use Rattle.td_steps.specs.Tries.{AreMade}

-- entry n, of the kind on these keys, is undone: its rows are withdrawn first, where its kind has
-- their state, and what needs a build then is offered
abbrev pub undo_moves : ℕ → Kind → List Key → History → List Move
undo_moves n kind keys h =
    let off = off_for kind keys in
    winning (rows_of h) off ++ (undo n ∷ offering (rows_of (without_entry h n)) off)

-- a builder was faster at a key, after the rows of others were withdrawn: its claim is noted, and
-- these are offered again
abbrev pub blocked_moves : List Key → Key → ℕ → History → List Move
blocked_moves first k b h =
    winning (rows_of h) first
    ++ (lost k b ∷ note k b ∷ offering (rows_of (with_entry h (claim_of b k))) (first ++ k ∷ []))

-- some builder at one of the keys, at which the undo stops
pub record LostAt (off : List Key) (old : BookModel) (moves : List Move) : Type 0 where
  pub first : List Key
  pub key : Key
  pub rest : List Key
  pub by : ℕ
  pub one : 1 ≤ by
  pub some_builder : by ≤ old.fixed.builders
  pub named : off ≡ first ++ key ∷ rest
  pub moves_are : moves ≡ blocked_moves first key by old.history

-- what an undo that is answered so has made. What only the journal decides makes no move, and
-- neither does one for which memory runs out; else it is undone, or stopped by the entry of a claim
abbrev pub UndoMoves : Option UndoRefusal → ℕ → BookModel → Result (Unit {0}) UndoRefusal
    → List Move → Type 0
UndoMoves None n old (Ok u) moves =
    IsSomeAnd (entry_at old.history.journal n)
    (λ m. moves ≡ undo_moves n m.entry.kind m.entry.keys old.history)
    × Tells (resting old) moves (Undone n)
UndoMoves None n old (Err (Blocked b)) moves =
    IsSomeAnd (entry_at old.history.journal n)
    (λ m. LostAt (off_for m.entry.kind m.entry.keys) old moves)
    × Tells (resting old) moves (Entry b)
UndoMoves stop n old result moves = moves ≡ []

-- whatever a book does of an undo is a list of moves as `UndoMoves` says, from any world that the
-- book sees to one that it sees afterwards
abbrev pub UndosAreSteps : Type 0
UndosAreSteps =
    (w : WorldView) (n : ℕ) (old new : BookModel) (result : Result (Unit {0}) UndoRefusal) →
    Sees w (resting old) → UndoAnswer (undo_stop old.history.journal n) n old new result
    → (moves : List Move) × UndoMoves (undo_stop old.history.journal n) n old result moves
    × AreMade old new moves × LeadsOn w (resting old) moves (resting new)
