-- Whatever builders do, the desk's calls go on to the end. This project's own.
use Rattle.std.specs.Prelude.{◌≡◌, ◌⊎◌, ℕ, suc, ◌+◌, ◌≤◌, true, List, [], ◌∷◌, None, Ok, Err}
use Rattle.std.specs.Prelude.{length}
use Rattle.td_rows.specs.declared.key.Key.{Key}
use Rattle.td_rows.specs.Table.{Table, keys_of}
use Rattle.td_wbread.specs.Command.{CommandParts}
use Rattle.td_core.specs.declared.step.Step.{Step}
use Rattle.td_core.specs.Steps.{after, after_all}
use Rattle.td_core.specs.Worlds.{WorldView}
use Rattle.td_book.specs.Calls.{Choices}
use Rattle.td_book.specs.Desk.{BookModel}
use Rattle.td_book.specs.Undoing.{undo_stop}
use Rattle.td_book.specs.declared.undoing.UndoRefusal.TheVariants.{Blocked}
use Rattle.td_steps.specs.Sees.{Sees, resting}
use Rattle.td_steps.specs.Moves.{Move, arrive, step_of, Chosen}
use Rattle.td_steps.specs.Runs.{are_builders, Runs}
use Rattle.td_steps.specs.Arrivals.{sweep_moves}
use Rattle.td_steps.specs.Builds.{notice_moves}
use Rattle.td_steps.specs.Parts.{offering}
use Rattle.td_steps.specs.Commands.{off_in, command_moves}
use Rattle.td_steps.specs.Undos.{UndoMoves}

-- the moves, with these steps of builders: turn 0 before the first move, turn 1 before the next,
-- and so on
abbrev pub RunsWith : (ℕ → List Step) → WorldView → List Move → WorldView → Type 0
RunsWith turn w [] v = v ≡ after_all w (turn 0)
RunsWith turn w (m ∷ ms) v =
    Chosen (after_all w (turn 0)) m
    × RunsWith (λ i. turn (suc i)) (after (after_all w (turn 0)) (step_of m)) ms v

-- each turn is of builders
abbrev pub AreTurns : (ℕ → List Step) → Type 0
AreTurns turn = (i : ℕ) → are_builders (turn i) ≡ true

-- a run with turns of builders' steps is a run
abbrev pub TurnsRun : Type 0
TurnsRun =
    (w v : WorldView) (turn : ℕ → List Step) (moves : List Move) → AreTurns turn
    → RunsWith turn w moves v → Runs w moves v

-- whatever builders do in each turn, the moves of a command go on to the end, with choices that the
-- worlds on the way decide
abbrev pub CommandsGoOn : Type 0
CommandsGoOn =
    (w : WorldView) (turn : ℕ → List Step) (c : CommandParts) (old : BookModel) → AreTurns turn
    → Sees w (resting old) →
    (choices : List ℕ) × Choices old.fixed.builders (off_in c old) choices × (v : WorldView)
    × RunsWith turn w (command_moves c old choices) v

-- whatever builders do in each turn, the moves of a start on any key go on to the end
abbrev pub StartsGoOn : Type 0
StartsGoOn =
    (w : WorldView) (turn : ℕ → List Step) (k : Key) (old : BookModel) → AreTurns turn
    → Sees w (resting old) →
    (by : ℕ) × (by ≤ old.fixed.builders) × (v : WorldView)
    × RunsWith turn w (notice_moves k by old.history) v

-- an undo that the journal doesn't refuse goes on to its end, or stops at a row at which a builder
-- was faster, and goes on from there: that claim is its blocker
abbrev pub UndosGoOn : Type 0
UndosGoOn =
    (w : WorldView) (turn : ℕ → List Step) (n : ℕ) (old : BookModel) → AreTurns turn
    → Sees w (resting old) → undo_stop old.history.journal n ≡ None →
    (moves : List Move) × (v : WorldView) × RunsWith turn w moves v
    × (UndoMoves None n old (Ok tt) moves
    ⊎ UndoMoves None n old (Err (Blocked (length old.history.journal + 1))) moves)

-- the moves of an opening, an arrival and a sweep are decided by no builder: they run from any
-- world
abbrev pub OthersGoOn : Type 0
OthersGoOn = (w : WorldView) (turn : ℕ → List Step) →
    ((t : Table) → (v : WorldView) × RunsWith turn w (offering t (keys_of t)) v)
    × ((k : Key) → (v : WorldView) × RunsWith turn w (arrive k ∷ []) v)
    × ((old : BookModel) → (v : WorldView) × RunsWith turn w (sweep_moves old) v)
