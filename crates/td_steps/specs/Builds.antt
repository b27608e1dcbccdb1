-- The moves of a builder's start and finish. This project's own.
use Rattle.std.specs.Prelude.{◌≡◌, ◌⊎◌, ℕ, ◌≤◌, List, [], ◌∷◌, ◌++◌, Some, Result, Ok, Err}
use Rattle.td_board.specs.declared.views.BuilderView.{BuilderView}
use Rattle.td_board.specs.declared.views.Hand.{Hand}
use Rattle.td_board.specs.declared.views.Hand.TheVariants.{Holding, Finished}
use Rattle.td_rows.specs.declared.key.Key.{Key}
use Rattle.td_rows.specs.declared.kind.Kind.TheVariants.{Outcome as Ended}
use Rattle.td_rows.specs.declared.outcome.Outcome.{Outcome}
use Rattle.td_core.specs.declared.step.Answer.TheVariants.{Entry}
use Rattle.td_core.specs.History.{History, rows_of, with_entry}
use Rattle.td_core.specs.declared.step.Hand.TheVariants as hands
use Rattle.td_core.specs.declared.step.Phase.TheVariants.{Held, Noted}
use Rattle.td_core.specs.Worlds.{WorldView, phase_of, hand_of}
use Rattle.td_book.specs.Calls.{noting_one}
use Rattle.td_book.specs.Desk.{BookModel}
use Rattle.td_book.specs.Building.{StartOutcome}
use Rattle.td_book.specs.Finishing.{IsKeyOf, FinishOutcome}
use Rattle.td_book.specs.declared.finishing.FinishRefusal.{FinishRefusal}
use Rattle.td_book.specs.declared.finishing.FinishRefusal.TheVariants.{Mismatch as NotEnded}
use Rattle.td_book.specs.declared.starting.Job.{Job}
use Rattle.td_book.specs.declared.starting.StartRefusal.{StartRefusal}
use Rattle.td_book.specs.declared.starting.StartRefusal.TheVariants.{Mismatch}
use Rattle.td_steps.specs.Sees.{Sees, resting}
use Rattle.td_steps.specs.Moves.{Move, settle}
use Rattle.td_steps.specs.Runs.{Runs, LeadsOn}
use Rattle.td_steps.specs.Parts.{withdrawing, offering, Tells}
use Rattle.td_steps.specs.Tries.{AreMade}

-- ---- 1. a start

-- the claim of a row is noted, where that wasn't done; where no builder was faster, the row is
-- withdrawn and offered again
abbrev pub notice_moves : Key → ℕ → History → List Move
notice_moves k by h =
    withdrawing h (k ∷ []) (by ∷ []) ++ offering (rows_of (noting_one h k by)) (k ∷ [])

-- the moves by which the claim of the row with this number is noted
pub record Notices (i : ℕ) (old : BookModel) (moves : List Move) : Type 0 where
  pub key : Key
  pub at : IsKeyOf old i key
  pub by : ℕ
  pub some_builder : by ≤ old.fixed.builders
  pub moves_are : moves ≡ notice_moves key by old.history

-- what a start that is answered so has made: with no row in hand, or if memory runs out, no move
abbrev pub StartMoves : Hand → BookModel → Result Job StartRefusal → List Move → Type 0
StartMoves (Holding i) old (Ok job) moves = Notices i old moves
StartMoves (Holding i) old (Err Mismatch) moves = Notices i old moves
StartMoves hand old result moves = moves ≡ []

-- whatever a book does of a start is a list of moves as `StartMoves` says
abbrev pub StartsAreSteps : Type 0
StartsAreSteps =
    (w : WorldView) (b : ℕ) (hand : Hand) (old new : BookModel) (result : Result Job StartRefusal) →
    Sees w (resting old) → StartOutcome b hand old new result
    → (moves : List Move) × StartMoves hand old result moves × AreMade old new moves
    × LeadsOn w (resting old) moves (resting new)

-- ---- 2. a finish

-- the build of the row is settled, and the row offered again where it needs one more
abbrev pub settle_moves : Key → ℕ → Outcome → History → List Move
settle_moves k b o h =
    settle k b o
    ∷ offering (rows_of (with_entry h (record { kind = Ended b o; keys = k ∷ [] }))) (k ∷ [])

-- the claim is noted, where that wasn't done, and then the build is settled
abbrev pub finish_moves : Key → ℕ → ℕ → Outcome → History → List Move
finish_moves k by b o h = notice_moves k by h ++ settle_moves k b o (noting_one h k by)

-- the moves by which the claim of the row with this number is noted and its build settled
pub record Ends (i b : ℕ) (o : Outcome) (old : BookModel) (moves : List Move) : Type 0 where
  pub key : Key
  pub at : IsKeyOf old i key
  pub by : ℕ
  pub some_builder : by ≤ old.fixed.builders
  pub moves_are : moves ≡ finish_moves key by b o old.history

-- the build is settled that had ended before
pub record SettlesAt (i b : ℕ) (o : Outcome) (old : BookModel) (moves : List Move) : Type 0 where
  pub key : Key
  pub at : IsKeyOf old i key
  pub moves_are : moves ≡ settle_moves key b o old.history

-- what a finish that is answered so has made; the builder's own step comes among those of builders,
-- before the build is settled. With nothing in hand, if memory runs out, or if the build ended
-- otherwise, no move
abbrev pub FinishMoves : Hand → ℕ → Outcome → BookModel → Result ℕ FinishRefusal → List Move
    → Type 0
FinishMoves (Holding i) b o old (Ok n) moves =
    Ends i b o old moves × Tells (resting old) moves (Entry n)
FinishMoves (Holding i) b o old (Err NotEnded) moves = Notices i old moves
FinishMoves (Finished i c) b o old (Ok n) moves =
    SettlesAt i b o old moves × Tells (resting old) moves (Entry n)
FinishMoves hand b o old result moves = moves ≡ []

-- whatever a book does of a finish, in each of its branches, is a list of moves as `FinishMoves`
-- says
abbrev pub FinishesAreSteps : Type 0
FinishesAreSteps =
    (w : WorldView) (hand : Hand) (o : Outcome) (before behind : BuilderView) (old new : BookModel)
    (result : Result ℕ FinishRefusal) →
    Sees w (resting old) → FinishOutcome hand o before behind old new result
    → (moves : List Move) × FinishMoves hand before.number o old result moves
    × AreMade old new moves × LeadsOn w (resting old) moves (resting new)

-- ---- 3. such runs exist

-- a builder that holds a row, whose claim is noted or not yet, may end its build so: the moves of
-- its finish run, with the builder's own step before the settling
abbrev pub FinishesRun : Type 0
FinishesRun = (w : WorldView) (b : ℕ) (k : Key) (o : Outcome) (old : BookModel) →
    Sees w (resting old) → hand_of w b ≡ Some (hands.Holding k)
    → (phase_of w k ≡ Some (Held b)) ⊎ (phase_of w k ≡ Some (Noted b)) →
    (by : ℕ) × (by ≤ old.fixed.builders) × (v : WorldView)
    × Runs w (finish_moves k by b o old.history) v
