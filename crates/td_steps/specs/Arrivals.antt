-- The moves of an arrival and of a sweep. This project's own.
use Rattle.std.specs.Prelude.{◌≡◌, ℕ, List, [], ◌∷◌, Option, Some, None, Result, Ok, Err}
use Rattle.std.specs.declared.alloc.AllocError.{AllocError}
use Rattle.td_rows.specs.declared.key.Key.{Key}
use Rattle.td_core.specs.declared.step.Answer.TheVariants.{Entry, Nothing}
use Rattle.td_core.specs.History.{rows_of}
use Rattle.td_core.specs.Worlds.{WorldView}
use Rattle.td_book.specs.Desk.{BookModel}
use Rattle.td_book.specs.Arriving.{ArriveOutcome, SweepOutcome, freed_now}
use Rattle.td_book.specs.declared.arriving.ArriveRefusal.{ArriveRefusal}
use Rattle.td_steps.specs.Sees.{Sees, resting}
use Rattle.td_steps.specs.Moves.{Move, arrive, sweep, sweeping}
use Rattle.td_steps.specs.Runs.{LeadsOn}
use Rattle.td_steps.specs.Parts.{offering, Tells}
use Rattle.td_steps.specs.Tries.{AreMade}

-- what an arrival that is answered so has made: only the step itself; a refused one makes none
abbrev pub ArriveMoves : Key → BookModel → Result ℕ ArriveRefusal → List Move → Type 0
ArriveMoves k old (Ok n) moves = (moves ≡ arrive k ∷ []) × Tells (resting old) moves (Entry n)
ArriveMoves k old (Err r) moves = moves ≡ []

-- whatever a book does of an arrival is a list of moves as `ArriveMoves` says
abbrev pub ArrivalsAreSteps : Type 0
ArrivalsAreSteps =
    (w : WorldView) (k : Key) (old new : BookModel) (result : Result ℕ ArriveRefusal) →
    Sees w (resting old) → ArriveOutcome k old new result
    → (moves : List Move) × ArriveMoves k old result moves × AreMade old new moves
    × LeadsOn w (resting old) moves (resting new)

-- a sweep is the step, and the rows that it frees are offered
abbrev pub sweep_moves : BookModel → List Move
sweep_moves old =
    sweep ∷ offering (rows_of (sweeping (resting old) (freed_now old)).history) (freed_now old)

-- what a sweep that is answered so has made: one of its moves is answered with the number of its
-- entry, or that nothing is freed; if memory runs out there is no move
abbrev pub SweepMoves : BookModel → Result (Option ℕ) AllocError → List Move → Type 0
SweepMoves old (Ok (Some n)) moves = (moves ≡ sweep_moves old) × Tells (resting old) moves (Entry n)
SweepMoves old (Ok None) moves = (moves ≡ sweep_moves old) × Tells (resting old) moves Nothing
SweepMoves old (Err e) moves = moves ≡ []

-- whatever a book does of a sweep is a list of moves as `SweepMoves` says
abbrev pub SweepsAreSteps : Type 0
SweepsAreSteps = (w : WorldView) (old new : BookModel) (result : Result (Option ℕ) AllocError) →
    Sees w (resting old) → SweepOutcome old new result
    → (moves : List Move) × SweepMoves old result moves × AreMade old new moves
    × LeadsOn w (resting old) moves (resting new)
