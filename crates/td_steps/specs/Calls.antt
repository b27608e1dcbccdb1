-- Any list of a book's calls is seen, call by call, by the worlds that its moves lead to. This
-- project's own.
use Rattle.std.specs.Prelude.{◌≡◌, true, List, [], ◌∷◌}
use Rattle.td_rows.specs.Keys.{ascending}
use Rattle.td_rows.specs.Table.{Table, keys_of}
use Rattle.td_core.specs.History.{opened}
use Rattle.td_core.specs.Phases.{NoneBuilt}
use Rattle.td_core.specs.Worlds.{WorldView, world_of}
use Rattle.td_book.specs.Desk.{Fixed, BookModel}
use Rattle.td_book.specs.Undoing.{undo_stop}
use Rattle.td_steps.specs.Sees.{Sees, resting}
use Rattle.td_steps.specs.Moves.{Move}
use Rattle.td_steps.specs.Runs.{Runs, Goes}
use Rattle.td_steps.specs.Parts.{offering}
use Rattle.td_steps.specs.Commands.{CommandMoves}
use Rattle.td_steps.specs.Undos.{UndoMoves}
use Rattle.td_steps.specs.Arrivals.{ArriveMoves, SweepMoves}
use Rattle.td_steps.specs.Watches.{WatchMoves}
use Rattle.td_steps.specs.Builds.{StartMoves, FinishMoves}
use Rattle.td_steps.specs.Books.{Call, command, undo, start, finish, arrive, sweep, watch, Does}
use Rattle.td_steps.specs.Books.{DoAll}
use Rattle.td_steps.specs.Tries.{AreMade}
use Rattle.td_steps.specs.Openings.{begun}

-- the moves that a call may have made
abbrev pub MovesOf : Call → BookModel → List Move → Type 0
MovesOf (command c result) old moves = CommandMoves c old result moves
MovesOf (undo n result) old moves = UndoMoves (undo_stop old.history.journal n) n old result moves
MovesOf (start b hand result) old moves = StartMoves hand old result moves
MovesOf (finish o before behind result) old moves =
    FinishMoves before.hand before.number o old result moves
MovesOf (arrive k result) old moves = ArriveMoves k old result moves
MovesOf (sweep result) old moves = SweepMoves old result moves
MovesOf (watch groups given result) old moves = WatchMoves moves

-- each call is a list of moves, and these are what the desk did for it at the board; from every
-- world to which a run of them leads the later calls are such lists too, and the book sees the
-- world at the end
abbrev pub CallsLead : WorldView → List Call → BookModel → BookModel → Type 0
CallsLead w [] old new = Sees w (resting new)
CallsLead w (c ∷ calls) old new =
    (between : BookModel) × Does c old between × (moves : List Move) × MovesOf c old moves
    × AreMade old between moves × ((v : WorldView) → Runs w moves v
    → Goes w (resting old) moves v × Sees v (resting between) × CallsLead v calls between new)

-- any list of calls is lists of moves as `CallsLead` says, from any world that the book sees
abbrev pub CallsAreSteps : Type 0
CallsAreSteps =
    (w : WorldView) (calls : List Call) (old new : BookModel) → Sees w (resting old)
    → DoAll calls old new → CallsLead w calls old new

-- the calls since the opening are lists of moves, from every world to which the offers lead from
-- the world at the opening
abbrev pub BooksAreSteps : Type 0
BooksAreSteps =
    (t : Table) (fixed : Fixed) (calls : List Call) (new : BookModel) → ascending (keys_of t) ≡ true
    → NoneBuilt t → DoAll calls (begun (opened t) fixed) new →
    (v : WorldView) → Runs (world_of t fixed.stock fixed.builders) (offering t (keys_of t)) v
    → CallsLead v calls (begun (opened t) fixed) new
