-- The steps of builders in a run, and what they are at the board. This project's own.
use Rattle.std.specs.Prelude.{◌≡◌, ℕ, Bool, false, ◌==◌, List, [], ◌∷◌, ◌++◌, filter, slice_get}
use Rattle.std.specs.Prelude.{Some}
use Rattle.td_board.specs.declared.views.BuilderTry.{BuilderTry}
use Rattle.td_board.specs.declared.views.BuilderTry.TheVariants.{ClaimWon, ClaimLost, FinishDone}
use Rattle.td_board.specs.declared.views.BuilderTry.TheVariants.{FinishEarly, ReleaseDone}
use Rattle.td_board.specs.declared.views.BuilderTry.TheVariants.{ReleaseEarly}
use Rattle.td_board.specs.declared.views.BuilderView.{BuilderView}
use Rattle.td_board.specs.Steps.{Moment, BuilderKnows}
use Rattle.td_rows.specs.declared.key.Key.{Key}
use Rattle.td_core.specs.declared.step.Step.{Step}
use Rattle.td_core.specs.declared.step.Step.TheVariants.{Claim, Finish, Release}
use Rattle.td_core.specs.Steps.{after}
use Rattle.td_core.specs.Worlds.{WorldView}
use Rattle.td_book.specs.Deeds.{code_of}
use Rattle.td_steps.specs.Moves.{Move, step_of}
use Rattle.td_steps.specs.Runs.{Runs}

-- the steps of builders in a run: those before its first move, before its next, and so on, and
-- those after its last
abbrev pub theirs_in : (w v : WorldView) (ms : List Move) → Runs w ms v → List Step
theirs_in w v [] run = run.theirs
theirs_in w v (m ∷ ms) run = run.1.theirs ++ theirs_in (after run.0 (step_of m)) v ms run.3

-- whether a step is this builder's
abbrev pub is_by : ℕ → Step → Bool
is_by b (Claim c k) = b == c
is_by b (Finish c o) = b == c
is_by b (Release c) = b == c
is_by b s = false

-- the steps that are this builder's, in order
abbrev pub steps_by : ℕ → List Step → List Step
steps_by b ss = filter (is_by b) ss

-- a builder's tries at the board without those that moved nothing
abbrev pub steps_in : List BuilderTry → List BuilderTry
steps_in [] = []
steps_in (ClaimWon r ∷ ts) = ClaimWon r ∷ steps_in ts
steps_in (ClaimLost r ∷ ts) = steps_in ts
steps_in (FinishDone r c ∷ ts) = FinishDone r c ∷ steps_in ts
steps_in (FinishEarly r c ∷ ts) = steps_in ts
steps_in (ReleaseDone r ∷ ts) = ReleaseDone r ∷ steps_in ts
steps_in (ReleaseEarly r ∷ ts) = steps_in ts

-- what a builder did at the board is this step of a world. The board has a row's number for its
-- key, and how a build ended without its text. In a world a finish and a release name no row: they
-- are of the one that the builder has in hand
abbrev pub IsStep : List Key → BuilderTry → Step → Type 0
IsStep keys (ClaimWon r) (Claim b k) = slice_get keys r ≡ Some k
IsStep keys (FinishDone r c) (Finish b o) = code_of o ≡ c
IsStep keys (ReleaseDone r) (Release b) = Unit {0}
IsStep keys t s = ⊥

-- one after the other
abbrev pub AreSteps : List Key → List BuilderTry → List Step → Type 0
AreSteps keys [] [] = Unit {0}
AreSteps keys (t ∷ ts) (s ∷ ss) = IsStep keys t s × AreSteps keys ts ss
AreSteps keys ts ss = ⊥

-- the steps are those that the builders took at the board until the moment: of each that has a
-- seat its own, in order, and of others none
pub record AreTaken (keys : List Key) (m : Moment) (ss : List Step) : Type 0 where
  pub own : (b : ℕ) (v : BuilderView) → BuilderKnows m b v
      → AreSteps keys (steps_in v.tried) (steps_by b ss)
  pub others : (b : ℕ) → ((v : BuilderView) → BuilderKnows m b v → ⊥) → steps_by b ss ≡ []
