-- The parts of a call: rows are withdrawn, an entry is made, rows are offered. This project's own.
use Rattle.std.specs.Prelude.{◌≡◌, ℕ, List, [], ◌∷◌, ◌++◌, if◌then◌else◌}
use Rattle.td_rows.specs.declared.key.Key.{Key}
use Rattle.td_rows.specs.declared.kind.Kind.{Kind}
use Rattle.td_rows.specs.Table.{Table}
use Rattle.td_core.specs.declared.step.Answer.{Answer}
use Rattle.td_core.specs.History.{History, rows_of}
use Rattle.td_core.specs.Refusals.{is_queued_at}
use Rattle.td_book.specs.Calls.{is_lost, noting_one}
use Rattle.td_steps.specs.Sees.{Desk}
use Rattle.td_steps.specs.Moves.{Move, offer, won, lost, note, commit, answer_of}
use Rattle.td_steps.specs.Runs.{moved_all}

-- the row of a key is withdrawn, where it needs a build; or builder b was faster, and its claim is
-- noted
abbrev pub withdrawing_one : History → Key → ℕ → List Move
withdrawing_one h k b =
    if is_queued_at (rows_of h) k
    then (if is_lost b then lost k b ∷ note k b ∷ [] else won k ∷ []) else []

-- the rows of the keys that need a build are withdrawn, in order; the list says which builder was
-- faster at each, and 0 that none was
abbrev pub withdrawing : History → List Key → List ℕ → List Move
withdrawing h [] bs = []
withdrawing h (k ∷ ks) [] = []
withdrawing h (k ∷ ks) (b ∷ bs) = withdrawing_one h k b ++ withdrawing (noting_one h k b) ks bs

-- a row is withdrawn, where it needs a build, and no builder was faster
abbrev pub winning_one : Table → Key → List Move
winning_one t k = if is_queued_at t k then won k ∷ [] else []

-- the rows of the keys that need a build are withdrawn, in order, and no builder was faster
abbrev pub winning : Table → List Key → List Move
winning t [] = []
winning t (k ∷ ks) = winning_one t k ++ winning t ks

-- a row is offered, where it needs a build
abbrev pub offering_one : Table → Key → List Move
offering_one t k = if is_queued_at t k then offer k ∷ [] else []

-- the rows of the keys that need a build are offered, in order
abbrev pub offering : Table → List Key → List Move
offering t [] = []
offering t (k ∷ ks) = offering_one t k ++ offering t ks

-- an entry of the kind on the keys, if there are any
abbrev pub committing : Kind → List Key → List Move
committing kind [] = []
committing kind (k ∷ ks) = commit kind (k ∷ ks) ∷ []

-- one of the moves has this answer
pub record Tells (d : Desk) (moves : List Move) (a : Answer) : Type 0 where
  pub before : List Move
  pub move : Move
  pub behind : List Move
  pub parts : moves ≡ before ++ move ∷ behind
  pub told : answer_of (moved_all d before) move ≡ a
