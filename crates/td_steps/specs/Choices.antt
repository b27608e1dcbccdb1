-- Who is first at a row is decided by the world, and some choice always fits it: so a command's
-- runs exist. This project's own.
use Rattle.std.specs.Prelude.{◌≡◌, ℕ, true, List, [], ◌∷◌, Some, if◌then◌else◌, length, map}
use Rattle.td_rows.specs.declared.key.Key.{Key}
use Rattle.td_wbread.specs.Command.{CommandParts}
use Rattle.td_core.specs.declared.step.Phase.{Phase}
use Rattle.td_core.specs.declared.step.Phase.TheVariants.{Open, Held}
use Rattle.td_core.specs.History.{rows_of}
use Rattle.td_core.specs.Refusals.{is_queued_at}
use Rattle.td_core.specs.Steps.{after_all}
use Rattle.td_core.specs.Worlds.{WorldView, phase_of}
use Rattle.td_book.specs.Calls.{is_lost, Choices}
use Rattle.td_book.specs.Desk.{BookModel}
use Rattle.td_steps.specs.Sees.{Sees, resting}
use Rattle.td_steps.specs.Moves.{step_of}
use Rattle.td_steps.specs.Runs.{Runs}
use Rattle.td_steps.specs.Commands.{off_in, command_moves}

-- the phase of a row that needs a build, by who was first at it: the desk, or builder b
abbrev pub first_at : ℕ → Phase
first_at b = if is_lost b then Held b else Open

-- the choices are those of the world, at each key whose row needs a build
abbrev pub Decided : WorldView → List Key → List ℕ → Type 0
Decided w [] choices = Unit {0}
Decided w (k ∷ ks) [] = ⊥
Decided w (k ∷ ks) (b ∷ choices) =
    (is_queued_at (rows_of w.history) k ≡ true → phase_of w k ≡ Some (first_at b))
    × Decided w ks choices

-- each world that a book sees decides at any keys, and names its own builders
abbrev pub WorldsDecide : Type 0
WorldsDecide =
    (w : WorldView) (old : BookModel) (off : List Key) → Sees w (resting old)
    → (choices : List ℕ) × Choices old.fixed.builders off choices × Decided w off choices

-- from a world that a book sees, with the world's choices, a command's moves run one after the
-- other
abbrev pub DecidedCommandsRun : Type 0
DecidedCommandsRun = (w : WorldView) (c : CommandParts) (old : BookModel) (choices : List ℕ) →
    Sees w (resting old) → length choices ≡ length (off_in c old) → Decided w (off_in c old) choices
    → Runs w (command_moves c old choices)
    (after_all w (map step_of (command_moves c old choices)))
