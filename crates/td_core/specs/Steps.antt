-- What each step answers and does. This project's own.
use Rattle.std.specs.Prelude.{ℕ, ◌+◌, Bool, true, false, List, [], ◌∷◌, length, Option, Some, None}
use Rattle.td_rows.specs.declared.key.Key.{Key}
use Rattle.td_rows.specs.declared.kind.Kind.TheVariants.{Claim as Claimed, Outcome as Ended}
use Rattle.td_rows.specs.declared.kind.Kind.TheVariants.{Arrive as Arrived, Sweep as Swept}
use Rattle.td_rows.specs.declared.outcome.Outcome.{Outcome}
use Rattle.td_core.specs.declared.step.Phase.{Phase}
use Rattle.td_core.specs.declared.step.Phase.TheVariants as phases
use Rattle.td_core.specs.declared.step.Hand.{Hand}
use Rattle.td_core.specs.declared.step.Hand.TheVariants as hands
use Rattle.td_core.specs.declared.step.Step.{Step}
use Rattle.td_core.specs.declared.step.Step.TheVariants.{Offer, Withdraw, Claim, Note, Commit, Undo}
use Rattle.td_core.specs.declared.step.Step.TheVariants.{Finish, Settle, Release, Arrive, Sweep}
use Rattle.td_core.specs.declared.step.Refusal.{Refusal}
use Rattle.td_core.specs.declared.step.Answer.{Answer}
use Rattle.td_core.specs.declared.step.Answer.TheVariants as answers
use Rattle.td_rows.specs.Table.{row_of}
use Rattle.td_supply.specs.Supply.{SupplyView}
use Rattle.td_core.specs.History.{rows_of, without_entry}
use Rattle.td_core.specs.Offers.{supply_now, freed}
use Rattle.td_core.specs.Worlds.{WorldView, phase_of, with_phase, hand_of, with_hand, journaled}
use Rattle.td_core.specs.Refusals.{is_queued_at, offer_refusal, withdraw_refusal, claim_refusal}
use Rattle.td_core.specs.Refusals.{note_refusal, commit_refusal, undo_refusal, finish_refusal}
use Rattle.td_core.specs.Refusals.{settle_refusal, release_refusal, arrive_refusal}

-- the refusal of a step, if any
abbrev pub refusal : WorldView → Step → Option Refusal
refusal w (Offer k) = offer_refusal (is_queued_at (rows_of w.history) k) (phase_of w k)
refusal w (Withdraw k) = withdraw_refusal (phase_of w k)
refusal w (Claim b k) = claim_refusal (hand_of w b) (phase_of w k)
refusal w (Note k) = note_refusal (phase_of w k)
refusal w (Commit kind keys) = commit_refusal w kind keys
refusal w (Undo n) = undo_refusal w n
refusal w (Finish b o) = finish_refusal w b (hand_of w b)
refusal w (Settle k) = settle_refusal (phase_of w k)
refusal w (Release b) = release_refusal w b (hand_of w b)
refusal w (Arrive k) = arrive_refusal k (row_of (rows_of w.history) k)
refusal w Sweep = None

-- a held row's claim is journalled
abbrev pub noted : WorldView → Key → Option Phase → WorldView
noted w k (Some (phases.Held b)) = with_phase (journaled w (Claimed b) (k ∷ [])) k (phases.Noted b)
noted w k p = w

-- how a build ended is journalled
abbrev pub settled : WorldView → Key → Option Phase → WorldView
settled w k (Some (phases.Done b o)) = with_phase (journaled w (Ended b o) (k ∷ [])) k phases.Closed
settled w k p = w

-- a builder ends the build in its hand
abbrev pub finished : WorldView → ℕ → Outcome → Option Hand → WorldView
finished w b o (Some (hands.Holding k)) = with_hand (with_phase w k (phases.Done b o)) b
    (hands.Finished k o)
finished w b o h = w

-- the offers of a world
abbrev pub supply_of : WorldView → SupplyView
supply_of w = supply_now w.supply w.history

-- the keys of the rows that a sweep frees now
abbrev pub swept_now : WorldView → List Key
swept_now w = freed (supply_of w) (rows_of w.history)

-- a sweep of the keys is journalled, if there are any
abbrev pub swept : WorldView → List Key → WorldView
swept w [] = w
swept w (k ∷ keys) = journaled w Swept (k ∷ keys)

-- the world after a step that is not refused
abbrev pub accepted : WorldView → Step → WorldView
accepted w (Offer k) = with_phase w k phases.Open
accepted w (Withdraw k) = with_phase w k phases.Closed
accepted w (Claim b k) = with_hand (with_phase w k (phases.Held b)) b (hands.Holding k)
accepted w (Note k) = noted w k (phase_of w k)
accepted w (Commit kind keys) = journaled w kind keys
accepted w (Undo n) = record w { history = without_entry w.history n }
accepted w (Finish b o) = finished w b o (hand_of w b)
accepted w (Settle k) = settled w k (phase_of w k)
accepted w (Release b) = with_hand w b hands.Free
accepted w (Arrive k) = journaled w Arrived (k ∷ [])
accepted w Sweep = swept w (swept_now w)

-- the answer to a sweep of the keys
abbrev pub sweep_answer : WorldView → List Key → Answer
sweep_answer w [] = answers.Nothing
sweep_answer w (k ∷ keys) = answers.Entry (length w.history.journal + 1)

-- the answer to it: of what is journalled, the entry's number
abbrev pub done : WorldView → Step → Answer
done w (Note k) = answers.Entry (length w.history.journal + 1)
done w (Commit kind keys) = answers.Entry (length w.history.journal + 1)
done w (Settle k) = answers.Entry (length w.history.journal + 1)
done w (Arrive k) = answers.Entry (length w.history.journal + 1)
done w Sweep = sweep_answer w (swept_now w)
done w (Undo n) = answers.Undone n
done w s = answers.Done

-- the answer to a step
abbrev pub answer_to : WorldView → Step → Answer
answer_to w s = elim (refusal w s) [ Some r ↦ answers.Refused r | None ↦ done w s ]

-- the world after a step, which a refused one leaves as it was
abbrev pub after : WorldView → Step → WorldView
after w s = elim (refusal w s) [ Some r ↦ w | None ↦ accepted w s ]

-- the answers to steps, one after the other
abbrev pub answers_to : WorldView → List Step → List Answer
answers_to w [] = []
answers_to w (s ∷ steps) = answer_to w s ∷ answers_to (after w s) steps

-- the world after all of the steps
abbrev pub after_all : WorldView → List Step → WorldView
after_all w [] = w
after_all w (s ∷ steps) = after_all (after w s) steps

-- whether a step may want memory: it journals an entry, or copies an outcome
abbrev pub takes_memory : Step → Bool
takes_memory (Note k) = true
takes_memory (Commit kind keys) = true
takes_memory (Finish b o) = true
takes_memory (Settle k) = true
takes_memory (Arrive k) = true
takes_memory Sweep = true
takes_memory s = false
