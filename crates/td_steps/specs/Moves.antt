-- The moves of the desk, each with its step of the world, and what it may know beforehand. This
-- project's own.
use Rattle.std.specs.Prelude.{◌≡◌, ℕ, ◌+◌, true, List, [], ◌∷◌, length, Some, None}
use Rattle.td_board.specs.declared.views.RowView.TheVariants as views
use Rattle.td_rows.specs.declared.key.Key.{Key}
use Rattle.td_rows.specs.declared.row.Row.{Row}
use Rattle.td_rows.specs.declared.kind.Kind.{Kind}
use Rattle.td_rows.specs.declared.kind.Kind.TheVariants as kinds
use Rattle.td_rows.specs.declared.outcome.Outcome.{Outcome}
use Rattle.td_rows.specs.Keys.{names}
use Rattle.td_rows.specs.Kinds.{cells}
use Rattle.td_rows.specs.Meaning.{applies}
use Rattle.td_rows.specs.Table.{row_of, AppliesOn}
use Rattle.td_journal.specs.Entries.{is_command, CanBeUndone}
use Rattle.td_journal.specs.Touching.{blocker}
use Rattle.td_core.specs.declared.step.Phase.TheVariants as phases
use Rattle.td_core.specs.declared.step.Answer.{Answer}
use Rattle.td_core.specs.declared.step.Answer.TheVariants as answers
use Rattle.td_core.specs.declared.step.Refusal.TheVariants.{NotOpen}
use Rattle.td_core.specs.declared.step.Step.{Step}
use Rattle.td_core.specs.declared.step.Step.TheVariants as steps
use Rattle.td_core.specs.History.{rows_of, without_entry}
use Rattle.td_core.specs.Offers.{supply_now, freed}
use Rattle.td_core.specs.Refusals.{is_queued_at, are_keys}
use Rattle.td_core.specs.Worlds.{WorldView, phase_of}
use Rattle.td_steps.specs.Sees.{Desk, view_of, with_view, entering, is_off}

-- a withdrawal is won, or lost to the builder with the number; a settled build has its builder and
-- how it ended; the others are as their steps
pub data Move : Type 0 where
  offer : Key → Move
  won : Key → Move
  lost : Key → ℕ → Move
  note : Key → ℕ → Move
  commit : Kind → List Key → Move
  undo : ℕ → Move
  settle : Key → ℕ → Outcome → Move
  arrive : Key → Move
  sweep : Move

-- the step that a move is
abbrev pub step_of : Move → Step
step_of (offer k) = steps.Offer k
step_of (won k) = steps.Withdraw k
step_of (lost k b) = steps.Withdraw k
step_of (note k b) = steps.Note k
step_of (commit kind keys) = steps.Commit kind keys
step_of (undo n) = steps.Undo n
step_of (settle k b o) = steps.Settle k
step_of (arrive k) = steps.Arrive k
step_of sweep = steps.Sweep

-- the keys of the rows that a sweep frees
abbrev pub freed_by : Desk → List Key
freed_by d = freed (supply_now d.stock d.history) (rows_of d.history)

-- the number of the next entry
abbrev pub next_no : Desk → ℕ
next_no d = length d.history.journal + 1

-- the answer to a sweep of these keys
abbrev pub swept_as : Desk → List Key → Answer
swept_as d [] = answers.Nothing
swept_as d (k ∷ keys) = answers.Entry (next_no d)

-- the answer to a move: a withdrawal that is lost is refused, since the row isn't on offer any
-- more, and nothing else is; an entry is answered with its number
abbrev pub answer_of : Desk → Move → Answer
answer_of d (offer k) = answers.Done
answer_of d (won k) = answers.Done
answer_of d (lost k b) = answers.Refused NotOpen
answer_of d (note k b) = answers.Entry (next_no d)
answer_of d (commit kind keys) = answers.Entry (next_no d)
answer_of d (undo n) = answers.Undone n
answer_of d (settle k b o) = answers.Entry (next_no d)
answer_of d (arrive k) = answers.Entry (next_no d)
answer_of d sweep = swept_as d (freed_by d)

-- the sweep's entry on these keys, if there are any
abbrev pub sweeping : Desk → List Key → Desk
sweeping d [] = d
sweeping d (k ∷ keys) = entering d kinds.Sweep (k ∷ keys)

-- what the desk knows after a move
abbrev pub moved : Desk → Move → Desk
moved d (offer k) = with_view d k views.Out
moved d (won k) = with_view d k views.In
moved d (lost k b) = with_view d k (views.Seen b)
moved d (note k b) = with_view (entering d (kinds.Claim b) (k ∷ [])) k (views.Known b)
moved d (commit kind keys) = entering d kind keys
moved d (undo n) = record d { history = without_entry d.history n }
moved d (settle k b o) = with_view (entering d (kinds.Outcome b o) (k ∷ [])) k views.In
moved d (arrive k) = entering d kinds.Arrive (k ∷ [])
moved d sweep = sweeping d (freed_by d)

-- a command on keys that rise, on whose rows it applies, and which are withdrawn where its kind has
-- the state
pub record MayCommit (d : Desk) (kind : Kind) (keys : List Key) : Type 0 where
  pub command : is_command kind ≡ true
  pub rise : are_keys keys ≡ true
  pub applies : AppliesOn (rows_of d.history) kind keys
  pub off : (cells kind).state ≡ true → (k : Key) → names keys k ≡ true
      → is_off (view_of d k) ≡ true

-- an undo of a standing command that no later entry blocks, whose rows are withdrawn where its kind
-- has the state
pub record MayUndo (d : Desk) (n : ℕ) : Type 0 where
  pub stands : CanBeUndone d.history.journal n
  pub free : blocker d.history.journal n ≡ None
  pub off : (cells stands.marked.entry.kind).state ≡ true → (k : Key)
      → names stands.marked.entry.keys k ≡ true → is_off (view_of d k) ≡ true

-- what the desk must know before a move
abbrev pub May : Desk → Move → Type 0
May d (offer k) = (view_of d k ≡ Some views.In) × (is_queued_at (rows_of d.history) k ≡ true)
May d (won k) = view_of d k ≡ Some views.Out
May d (lost k b) = view_of d k ≡ Some views.Out
May d (note k b) = view_of d k ≡ Some (views.Seen b)
May d (commit kind keys) = MayCommit d kind keys
May d (undo n) = MayUndo d n
May d (settle k b o) = view_of d k ≡ Some (views.Known b)
May d (arrive k) =
    (row : Row) × (row_of (rows_of d.history) k ≡ Some row) × (applies kinds.Arrive row ≡ true)
May d sweep = Unit {0}

-- what it can't know, since builders decide it: who was first at a row, and how a build ended
abbrev pub Chosen : WorldView → Move → Type 0
Chosen w (won k) = phase_of w k ≡ Some phases.Open
Chosen w (lost k b) = phase_of w k ≡ Some (phases.Held b)
Chosen w (settle k b o) = phase_of w k ≡ Some (phases.Done b o)
Chosen w m = Unit {0}
