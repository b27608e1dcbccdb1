-- Why a step is refused: its tests in order, each over all keys before the next.
-- This project's own.
use Rattle.std.specs.Prelude.{ℕ, Bool, false, not, List, [], ◌∷◌, Option, Some, None, is_none, find}
use Rattle.std.specs.Prelude.{if◌then◌else◌}
use Rattle.std.specs.Bool.{◌==◌}
use Rattle.td_rows.specs.declared.key.Key.{Key}
use Rattle.td_rows.specs.declared.kind.Kind.{Kind}
use Rattle.td_rows.specs.declared.kind.Kind.TheVariants.{Arrive}
use Rattle.td_rows.specs.declared.row.Row.{Row}
use Rattle.td_rows.specs.Keys.{ascending}
use Rattle.td_rows.specs.Kinds.{cells}
use Rattle.td_rows.specs.Meaning.{applies}
use Rattle.td_rows.specs.Table.{Table, row_of, fits}
use Rattle.td_rows.specs.States.{is_queued}
use Rattle.td_journal.specs.declared.entry.Mark.{Mark}
use Rattle.td_journal.specs.declared.entry.Mark.TheVariants.{Standing, Undone}
use Rattle.td_journal.specs.declared.entry.Marked.{Marked}
use Rattle.td_journal.specs.Entries.{is_command, entry_at}
use Rattle.td_journal.specs.Touching.{blocker}
use Rattle.td_core.specs.declared.step.Phase.{Phase}
use Rattle.td_core.specs.declared.step.Phase.TheVariants.{Closed, Open, Held, Noted, Done as Ended}
use Rattle.td_core.specs.declared.step.Hand.{Hand}
use Rattle.td_core.specs.declared.step.Hand.TheVariants.{Free, Holding, Finished}
use Rattle.td_core.specs.declared.step.Refusal.{Refusal}
use Rattle.td_core.specs.declared.step.Refusal.TheVariants.{NoSuchRow, NotClosed, NotQueued}
use Rattle.td_core.specs.declared.step.Refusal.TheVariants.{NotOpen, NoSuchBuilder, NotFree}
use Rattle.td_core.specs.declared.step.Refusal.TheVariants.{NotHeld, NotACommand, NoKeys}
use Rattle.td_core.specs.declared.step.Refusal.TheVariants.{DoesNotApply, NotPinned, NoSuchEntry}
use Rattle.td_core.specs.declared.step.Refusal.TheVariants.{AlreadyUndone, Blocked, NothingHeld}
use Rattle.td_core.specs.declared.step.Refusal.TheVariants.{NotNoted, NotDone, NotFinished}
use Rattle.td_core.specs.declared.step.Refusal.TheVariants.{NotSettled}
use Rattle.td_core.specs.History.{rows_of}
use Rattle.td_core.specs.Phases.{is_pinned}
use Rattle.td_core.specs.Worlds.{WorldView, phase_of}

-- the refusal where the test holds, and else what comes next
abbrev pub refused_if : Bool → Refusal → Option Refusal → Option Refusal
refused_if b r rest = if b then Some r else rest

-- whether the key's row is Needs-Build
abbrev pub is_queued_at : Table → Key → Bool
is_queued_at t k = elim (row_of t k) [ Some row ↦ is_queued row.state | None ↦ false ]

-- an offer of a row in the phase, which is or isn't Needs-Build
abbrev pub offer_refusal : Bool → Option Phase → Option Refusal
offer_refusal queued None = Some (NoSuchRow None)
offer_refusal queued (Some Closed) = refused_if (not queued) NotQueued None
offer_refusal queued (Some p) = Some NotClosed

-- a withdrawal of a row in the phase
abbrev pub withdraw_refusal : Option Phase → Option Refusal
withdraw_refusal None = Some (NoSuchRow None)
withdraw_refusal (Some Open) = None
withdraw_refusal (Some p) = Some NotOpen

-- a claim by a builder with the hand, of a row in the phase
abbrev pub claim_refusal : Option Hand → Option Phase → Option Refusal
claim_refusal h None = Some (NoSuchRow None)
claim_refusal None (Some p) = Some NoSuchBuilder
claim_refusal (Some Free) (Some Open) = None
claim_refusal (Some Free) (Some p) = Some NotOpen
claim_refusal (Some h) (Some p) = Some NotFree

-- a note of a row in the phase
abbrev pub note_refusal : Option Phase → Option Refusal
note_refusal None = Some (NoSuchRow None)
note_refusal (Some (Held b)) = None
note_refusal (Some p) = Some NotHeld

-- a non-empty list of keys that strictly rise
abbrev pub are_keys : List Key → Bool
are_keys [] = false
are_keys (k ∷ keys) = ascending (k ∷ keys)

-- the key has no row
abbrev pub is_missing : Table → Key → Bool
is_missing t k = is_none (row_of t k)

-- the kind doesn't apply on the key's row
abbrev pub is_unfit : Table → Kind → Key → Bool
is_unfit t kind k = not (fits t kind k)

-- the key's row is offered or held
abbrev pub is_unpinned : WorldView → Key → Bool
is_unpinned w k = elim (phase_of w k) [ Some p ↦ not (is_pinned p) | None ↦ false ]

-- the first key that passes a test is refused, and else what comes next
abbrev pub first_refused : Option Key → (Key → Refusal) → Option Refusal → Option Refusal
first_refused (Some k) r rest = Some (r k)
first_refused None r rest = rest

-- the first of the keys whose row must be pinned for the kind and isn't:
-- only what reads or writes the state needs it
abbrev pub first_unpinned : WorldView → Kind → List Key → Option Key
first_unpinned w kind keys = if (cells kind).state then find (is_unpinned w) keys else None

-- a command of the kind on the keys
abbrev pub commit_refusal : WorldView → Kind → List Key → Option Refusal
commit_refusal w kind keys =
    refused_if (not (is_command kind)) NotACommand
    (refused_if (not (are_keys keys)) NoKeys
    (first_refused (find (is_missing (rows_of w.history)) keys) (λ k. NoSuchRow (Some k))
    (first_refused (find (is_unfit (rows_of w.history) kind) keys) (λ k. DoesNotApply k)
    (first_refused (first_unpinned w kind keys) (λ k. NotPinned (Some k)) None))))

-- an entry that is found, with its blocker
abbrev pub mark_refusal : WorldView → Marked → Mark → Option ℕ → Option Refusal
mark_refusal w m Undone b = Some AlreadyUndone
mark_refusal w m Standing (Some b) = Some (Blocked b)
mark_refusal w m Standing None = first_refused (first_unpinned w m.entry.kind m.entry.keys)
    (λ k. NotPinned None) None

-- the undo of entry n
abbrev pub undo_refusal : WorldView → ℕ → Option Refusal
undo_refusal w n = elim (entry_at w.history.journal n) [
  | Some m ↦ refused_if (not (is_command m.entry.kind)) NotACommand
      (mark_refusal w m m.mark (blocker w.history.journal n))
  | None ↦ Some NoSuchEntry
]

-- whether the builder's claim of a row in the phase is journalled, and its build goes on
abbrev pub is_noted_by : ℕ → Option Phase → Bool
is_noted_by b (Some (Noted c)) = b == c
is_noted_by b p = false

-- the end of a build by a builder with the hand
abbrev pub finish_refusal : WorldView → ℕ → Option Hand → Option Refusal
finish_refusal w b None = Some NoSuchBuilder
finish_refusal w b (Some (Holding k)) = refused_if
    (not (is_noted_by b (phase_of w k))) NotNoted None
finish_refusal w b (Some h) = Some NothingHeld

-- a settlement of a row in the phase
abbrev pub settle_refusal : Option Phase → Option Refusal
settle_refusal None = Some (NoSuchRow None)
settle_refusal (Some (Ended b o)) = None
settle_refusal (Some p) = Some NotDone

-- whether the builder's build of a row in the phase ended, and isn't settled
abbrev pub is_done_by : ℕ → Option Phase → Bool
is_done_by b (Some (Ended c o)) = b == c
is_done_by b p = false

-- a release by a builder with the hand
abbrev pub release_refusal : WorldView → ℕ → Option Hand → Option Refusal
release_refusal w b None = Some NoSuchBuilder
release_refusal w b (Some (Finished k o)) = refused_if (is_done_by b (phase_of w k)) NotSettled None
release_refusal w b (Some h) = Some NotFinished

-- an arrival on the key's row, if it has one
abbrev pub arrive_refusal : Key → Option Row → Option Refusal
arrive_refusal k None = Some (NoSuchRow None)
arrive_refusal k (Some row) = refused_if (not (applies Arrive row)) (DoesNotApply k) None
