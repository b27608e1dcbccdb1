-- Lists of moves, with steps of builders anywhere between them. This project's own.
use Rattle.std.specs.Prelude.{◌≡◌, Bool, true, false, ◌&&◌, List, [], ◌∷◌}
use Rattle.td_core.specs.declared.step.Step.{Step}
use Rattle.td_core.specs.declared.step.Step.TheVariants.{Claim, Finish, Release}
use Rattle.td_core.specs.Steps.{answer_to, after, after_all}
use Rattle.td_core.specs.Worlds.{WorldView}
use Rattle.td_steps.specs.Sees.{Desk, Sees}
use Rattle.td_steps.specs.Moves.{Move, step_of, answer_of, moved, May, Chosen}

-- the desk may make each of the moves, after those before it
abbrev pub MayAll : Desk → List Move → Type 0
MayAll d [] = Unit {0}
MayAll d (m ∷ ms) = May d m × MayAll (moved d m) ms

-- what the desk knows after all of the moves
abbrev pub moved_all : Desk → List Move → Desk
moved_all d [] = d
moved_all d (m ∷ ms) = moved_all (moved d m) ms

-- whether a step is a builder's
abbrev pub is_builders : Step → Bool
is_builders (Claim b k) = true
is_builders (Finish b o) = true
is_builders (Release b) = true
is_builders s = false

-- whether all of the steps are builders'
abbrev pub are_builders : List Step → Bool
are_builders [] = true
are_builders (s ∷ ss) = is_builders s && are_builders ss

-- steps of builders, taken or refused, lead from a world to a world
pub record Meanwhile (w v : WorldView) : Type 0 where
  pub theirs : List Step
  pub all : are_builders theirs ≡ true
  pub to : v ≡ after_all w theirs

-- the desk makes the moves in order, with any steps of builders before, between and after them; at
-- each move these have decided as it says
abbrev pub Runs : WorldView → List Move → WorldView → Type 0
Runs w [] v = Meanwhile w v
Runs w (m ∷ ms) v = (u : WorldView) × Meanwhile w u × Chosen u m × Runs (after u (step_of m)) ms v

-- the desk makes the moves in order, with any steps of builders before, between and after them, and
-- each move's step is answered as `answer_of` says
abbrev pub Goes : WorldView → Desk → List Move → WorldView → Type 0
Goes w d [] v = Meanwhile w v
Goes w d (m ∷ ms) v =
    (u : WorldView) × Meanwhile w u × (answer_to u (step_of m) ≡ answer_of d m)
    × Goes (after u (step_of m)) (moved d m) ms v

-- every run of the moves from the world is answered as `answer_of` says of the first desk, and
-- leads to a world that the other desk sees
abbrev pub LeadsOn : WorldView → Desk → List Move → Desk → Type 0
LeadsOn w d ms to = (v : WorldView) → Runs w ms v → Goes w d ms v × Sees v to
