-- A watch is no move: it leaves the history and the desk's seat. This project's own.
use Rattle.std.specs.Prelude.{◌≡◌, ◌⊎◌, ℕ, List, [], Option, Some, None, Result, Err, IfErr, OnErr}
use Rattle.td_board.specs.Seats.{DeskModel}
use Rattle.td_rows.specs.declared.key.Key.{Key}
use Rattle.td_core.specs.History.{rows_of}
use Rattle.td_core.specs.Worlds.{WorldView}
use Rattle.td_book.specs.AtRest.{IsAtRest}
use Rattle.td_book.specs.Desk.{BookModel}
use Rattle.td_book.specs.WatchCalls.{WatchOutcome, watch_stop}
use Rattle.td_book.specs.declared.watching.WatchRefusal.{WatchRefusal}
use Rattle.td_book.specs.declared.watching.WatchRefusal.TheVariants.{NoMemory}
use Rattle.td_steps.specs.Sees.{Sees, resting}
use Rattle.td_steps.specs.Moves.{Move}
use Rattle.td_steps.specs.Runs.{LeadsOn}
use Rattle.td_steps.specs.Tries.{AreMade}

-- the history stays, and so does the seat; where the watch is refused the former one stays too
pub record IsAside (old new : BookModel)
    (result : Result (Unit {0}) WatchRefusal) : Type 0 where
  pub history : new.history ≡ old.history
  pub seat : (seat : DeskModel) → IsAtRest seat old → IsAtRest seat new
  pub refused : OnErr result (new ≡ old)

-- every watch, whatever it answers, leaves the history and the seat, and a refused one the former
-- watch
abbrev pub WatchesStayAside : Type 0
WatchesStayAside =
    (groups : ℕ) (given : List (Key × ℕ)) (old new : BookModel)
    (result : Result (Unit {0}) WatchRefusal) → WatchOutcome groups given old new result
    → IsAside old new result

-- a watch that nothing stops is refused only if memory runs out, and one that something stops is
-- refused for it, unless memory runs out before
pub record IsForItsReason (stop : Option WatchRefusal)
    (result : Result (Unit {0}) WatchRefusal) : Type 0 where
  pub free : stop ≡ None → IfErr result (λ r. r ≡ NoMemory)
  pub stopped : (r : WatchRefusal) → stop ≡ Some r → (result ≡ Err r) ⊎ (result ≡ Err NoMemory)

-- every watch is refused for its own reason, or because memory runs out
abbrev pub WatchesAreRefusedForReasons : Type 0
WatchesAreRefusedForReasons =
    (groups : ℕ) (given : List (Key × ℕ)) (old new : BookModel)
    (result : Result (Unit {0}) WatchRefusal) → WatchOutcome groups given old new result
    → IsForItsReason (watch_stop (rows_of old.history) groups given) result

-- a watch makes no move
abbrev pub WatchMoves : List Move → Type 0
WatchMoves moves = moves ≡ []

-- the book sees after a watch what it saw before, whatever builders do meanwhile
abbrev pub WatchesAreSteps : Type 0
WatchesAreSteps =
    (w : WorldView) (groups : ℕ) (given : List (Key × ℕ)) (old new : BookModel)
    (result : Result (Unit {0}) WatchRefusal) →
    Sees w (resting old) → WatchOutcome groups given old new result
    → (moves : List Move) × WatchMoves moves × AreMade old new moves
    × LeadsOn w (resting old) moves (resting new)
