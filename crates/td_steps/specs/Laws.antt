-- Each move of the desk is a step of the world, and builders' steps change nothing that the desk
-- knows. This project's own.
use Rattle.std.specs.Prelude.{◌≡◌, true, List}
use Rattle.td_core.specs.declared.step.Step.{Step}
use Rattle.td_core.specs.Steps.{answer_to, after}
use Rattle.td_core.specs.Worlds.{WorldView}
use Rattle.td_steps.specs.Sees.{Desk, Sees}
use Rattle.td_steps.specs.Moves.{Move, step_of, answer_of, moved, May, Chosen}
use Rattle.td_steps.specs.Runs.{is_builders, MayAll, moved_all, LeadsOn}

-- the move's step is answered as `answer_of` says, and the desk sees the world after it
pub record IsStep (w : WorldView) (d : Desk) (m : Move) : Type 0 where
  pub answers : answer_to w (step_of m) ≡ answer_of d m
  pub sees : Sees (after w (step_of m)) (moved d m)

-- each move that the desk may make is a step as `IsStep` says, if builders decided as the move says
abbrev pub MovesAreSteps : Type 0
MovesAreSteps =
    (w : WorldView) (d : Desk) (m : Move) → Sees w d → May d m → Chosen w m → IsStep w d m

-- a desk that sees a world sees the one after a builder's step, taken or refused
abbrev pub BuildersChangeNothing : Type 0
BuildersChangeNothing =
    (w : WorldView) (d : Desk) (step : Step) → is_builders step ≡ true → Sees w d
    → Sees (after w step) d

-- each of the moves, with whatever steps of builders between them, is answered as `answer_of` says,
-- and the desk sees the world at the end
abbrev pub RunsAreSeen : Type 0
RunsAreSeen =
    (w : WorldView) (d : Desk) (moves : List Move) → Sees w d → MayAll d moves
    → LeadsOn w d moves (moved_all d moves)
