-- A builder that holds a row may end its build: the moves of its finish run.
use Rattle.std.proofs.Common.{◌≡◌, ℕ, zero, suc, ◌≤◌, Bool, true, false, not, ◌&&◌, List, [], ◌∷◌}
use Rattle.std.proofs.Common.{◌++◌, Option, Some, None, if◌then◌else◌, ap, refl, sym, subst, ◌∙◌}
use Rattle.std.proofs.Common.{inl, inr, arith, eq-eqb}
use Rattle.td_rows.specs.declared.key.Key.{Key}
use Rattle.td_rows.specs.declared.row.Row.{Row}
use Rattle.td_rows.specs.declared.state.State.{State}
use Rattle.td_rows.specs.declared.kind.Kind.TheVariants as kinds
use Rattle.td_rows.specs.declared.outcome.Outcome.{Outcome}
use Rattle.td_rows.specs.States.{is_queued}
use Rattle.td_rows.specs.Table.{row_of}
use Rattle.td_change.specs.Saved.{number_of}
use Rattle.td_core.specs.declared.step.Hand.TheVariants as hands
use Rattle.td_core.specs.declared.step.Phase.{Phase}
use Rattle.td_core.specs.declared.step.Phase.TheVariants as phases
use Rattle.td_core.specs.declared.step.Refusal.TheVariants.{NotNoted, NotOpen}
use Rattle.td_core.specs.declared.step.Step.TheVariants as steps
use Rattle.td_core.specs.History.{History, rows_of, with_entry}
use Rattle.td_core.specs.Refusals.{is_queued_at, finish_refusal, is_noted_by, refused_if}
use Rattle.td_core.specs.Refusals.{withdraw_refusal, note_refusal}
use Rattle.td_core.specs.Steps.{refusal, after, noted}
use Rattle.td_core.specs.Worlds.{WorldView, IsWorld, phase_of, with_phase, hand_of, with_hand}
use Rattle.td_core.specs.Worlds.{journaled}
use Rattle.td_core.proofs.Phases.{slice_get-set-here}
use Rattle.td_core.proofs.Promises.{builders_are_there}
use Rattle.td_core.proofs.Worlds.{row-there}
use Rattle.td_core.proofs.WorldSteps.{IsWorld-after, after-accepted, after-refused, after-finish}
use Rattle.td_book.specs.Calls.{noting_one}
use Rattle.td_book.specs.Desk.{BookModel, claim_of}
use Rattle.td_steps.specs.Sees.{Sees, resting}
use Rattle.td_steps.specs.Moves.{Move, offer, won, lost, note}
use Rattle.td_steps.specs.Runs.{Runs}
use Rattle.td_steps.specs.Parts.{offering}
use Rattle.td_steps.specs.Builds.{notice_moves, settle_moves, FinishesRun}
use Rattle.td_steps.proofs.Turns.{free-run, free-offering, turns_run}

-- what the row of a key is needs no build, or needs one, by its phase
state-queued : (t : Option Row) (row : Row) (s : State) → t ≡ Some row → row.state ≡ s
    → (elim t as (λ _. Bool) [ Some r ↦ is_queued r.state | None ↦ false ]) ≡ is_queued s
state-queued t row s found is =
    ap (λ (x : Option Row). elim x as (λ _. Bool) [ Some r ↦ is_queued r.state | None ↦ false ])
    found ∙ ap is_queued is

noted-idle : (w : WorldView) (k : Key) (b : ℕ) → IsWorld w → phase_of w k ≡ Some (phases.Noted b)
    → is_queued_at (rows_of w.history) k ≡ false
noted-idle w k b sound phase =
    let r = row-there w k (phases.Noted b) sound phase in
    state-queued (row_of (rows_of w.history) k) r.0 _ r.1
    (sound.suits k (phases.Noted b) r.0 phase r.1)

held-queued : (w : WorldView) (k : Key) (b : ℕ) → IsWorld w → phase_of w k ≡ Some (phases.Held b)
    → is_queued_at (rows_of w.history) k ≡ true
held-queued w k b sound phase =
    let r = row-there w k (phases.Held b) sound phase in
    state-queued (row_of (rows_of w.history) k) r.0 _ r.1
    (sound.suits k (phases.Held b) r.0 phase r.1)

-- a run to somewhere
abbrev Runs-on : WorldView → List Move → Type 0
Runs-on w ms = (v : WorldView) × Runs w ms v

-- once the claim is noted: the builder's own step, and the settling
settles-on : (w : WorldView) (b : ℕ) (k : Key) (o : Outcome) (h : History)
    → hand_of w b ≡ Some (hands.Holding k) → phase_of w k ≡ Some (phases.Noted b)
    → Runs-on w (settle_moves k b o h)
settles-on w b k o h hand phase =
    let fine : refusal w (steps.Finish b o) ≡ None =
    ap (finish_refusal w b) hand
    ∙ ap (λ (p : Option Phase). refused_if (not (is_noted_by b p)) NotNoted None) phase
    ∙ ap (λ v. refused_if (not v) NotNoted None) (eq-eqb b b refl) in
    let u = after w (steps.Finish b o) in
    let to : with_hand (with_phase w k (phases.Done b o)) b (hands.Finished k o) ≡ u =
    after-finish w w b o k refl fine hand in
    let ended : phase_of u k ≡ Some (phases.Done b o) =
    ap (λ (x : WorldView). phase_of x k) (sym to)
    ∙ slice_get-set-here w.phases (number_of w.history.opening k) (phases.Noted b)
    (phases.Done b o) phase in
    let ms = offering (rows_of (with_entry h (record { kind = kinds.Outcome b o; keys = k ∷ [] })))
    (k ∷ []) in
    let x = after u (steps.Settle k) in
    let rest = free-run (λ i. []) x ms
    (free-offering (rows_of (with_entry h (record { kind = kinds.Outcome b o; keys = k ∷ [] })))
    (k ∷ [])) in (
      rest.0,
      (
        u,
        record { theirs = steps.Finish b o ∷ []; all = refl; to = refl },
        ended,
        turns_run x rest.0 (λ i. []) ms (λ i. refl) rest.1,
      ),
    )

-- of a noted claim nothing is left to note
idle-moves : (k : Key) (b : ℕ) (o : Outcome) (h : History) → is_queued_at (rows_of h) k ≡ false
    → notice_moves k 0 h ++ settle_moves k b o (noting_one h k 0) ≡ settle_moves k b o h
idle-moves k b o h idle =
    (λ j. (((if idle j then won k ∷ [] else []) ++ [])
    ++ offering (rows_of (if idle j && false then with_entry h (claim_of 0 k) else h)) (k ∷ []))
    ++ settle_moves k b o (if idle j && false then with_entry h (claim_of 0 k) else h))
    ∙ ap (λ v. ((if v then offer k ∷ [] else []) ++ []) ++ settle_moves k b o h) idle

claim-moves : (k : Key) (c : ℕ) (o : Outcome) (h : History) → is_queued_at (rows_of h) k ≡ true
    → is_queued_at (rows_of (with_entry h (claim_of (suc c) k))) k ≡ false
    → notice_moves k (suc c) h ++ settle_moves k (suc c) o (noting_one h k (suc c))
    ≡ lost k (suc c) ∷ note k (suc c) ∷ settle_moves k (suc c) o (with_entry h (claim_of (suc c) k))
claim-moves k c o h queued idle =
    let new = with_entry h (claim_of (suc c) k) in
    (λ j. (((if queued j then lost k (suc c) ∷ note k (suc c) ∷ [] else []) ++ [])
    ++ offering (rows_of (if queued j && true then new else h)) (k ∷ []))
    ++ settle_moves k (suc c) o (if queued j && true then new else h))
    ∙ ap (λ v. lost k (suc c) ∷ note k (suc c)
    ∷ (((if v then offer k ∷ [] else []) ++ []) ++ settle_moves k (suc c) o new)) idle

-- what a finish may run from
module _ (w : WorldView) (k : Key) (o : Outcome) (old : BookModel)
    (sees : Sees w (resting old)) where
  noted-runs : (b : ℕ) → hand_of w b ≡ Some (hands.Holding k) → phase_of w k ≡ Some (phases.Noted b)
      → (by : ℕ) × (by ≤ old.fixed.builders) × (v : WorldView)
      × Runs w (notice_moves k by old.history ++ settle_moves k b o (noting_one old.history k by)) v
  noted-runs b hand phase =
      let idle : is_queued_at (rows_of old.history) k ≡ false =
      ap (λ (h : History). is_queued_at (rows_of h) k) (sym sees.history)
      ∙ noted-idle w k b sees.sound phase in
      let run = settles-on w b k o old.history hand phase in (
        0,
        omega arith,
        run.0,
        subst (λ (ms : List Move). Runs w ms run.0) (sym (idle-moves k b o old.history idle)) run.1,
      )

  held-runs : (c : ℕ) → suc c ≤ old.fixed.builders → hand_of w (suc c) ≡ Some (hands.Holding k)
      → phase_of w k ≡ Some (phases.Held (suc c))
      → (by : ℕ) × (by ≤ old.fixed.builders) × (v : WorldView)
      × Runs w (notice_moves k by old.history
      ++ settle_moves k (suc c) o (noting_one old.history k by)) v
  held-runs c bound hand phase =
      let b = suc c in
      let h = old.history in
      let y : WorldView = with_phase (journaled w (kinds.Claim b) (k ∷ [])) k (phases.Noted b) in
      let still : after w (steps.Withdraw k) ≡ w =
      after-refused w (steps.Withdraw k) NotOpen (ap withdraw_refusal phase) in
      let next : after w (steps.Note k) ≡ y =
      after-accepted w (steps.Note k) (ap note_refusal phase) ∙ ap (noted w k) phase in
      let sound : IsWorld y = subst IsWorld next (IsWorld-after w (steps.Note k) sees.sound) in
      let there : phase_of y k ≡ Some (phases.Noted b) =
      slice_get-set-here w.phases (number_of w.history.opening k) (phases.Held b)
      (phases.Noted b) phase in
      let queued : is_queued_at (rows_of h) k ≡ true =
      ap (λ (x : History). is_queued_at (rows_of x) k) (sym sees.history)
      ∙ held-queued w k b sees.sound phase in
      let idle : is_queued_at (rows_of (with_entry h (claim_of b k))) k ≡ false =
      ap (λ (x : History). is_queued_at (rows_of (with_entry x (claim_of b k))) k)
      (sym sees.history) ∙ noted-idle y k b sound there in
      let ms = settle_moves k b o (with_entry h (claim_of b k)) in
      let run = settles-on y b k o (with_entry h (claim_of b k)) hand there in
      let last : Runs (after (after w (steps.Withdraw k)) (steps.Note k)) ms run.0 =
      subst (λ (x : WorldView). Runs x ms run.0)
      (sym (ap (λ (x : WorldView). after x (steps.Note k)) still ∙ next)) run.1 in
      let all : Runs w (lost k b ∷ note k b ∷ ms) run.0 = (
        w,
        record { theirs = []; all = refl; to = refl },
        phase,
        (after w (steps.Withdraw k), record { theirs = []; all = refl; to = refl }, tt, last),
      ) in (
        b,
        bound,
        run.0,
        subst (λ (x : List Move). Runs w x run.0) (sym (claim-moves k c o h queued idle)) all,
      )

pub finishes_run : FinishesRun
finishes_run w b k o old sees hand (inr phase) = noted-runs w k o old sees b hand phase
finishes_run w zero k o old sees hand (inl phase) =
    absurd (let r = builders_are_there w k (phases.Held 0) 0 sees.sound phase refl in
    omega (arith, r.0))
finishes_run w (suc c) k o old sees hand (inl phase) =
    held-runs w k o old sees c
    (let r = builders_are_there w k (phases.Held (suc c)) (suc c) sees.sound phase refl in
    subst (λ (n : ℕ). suc c ≤ n) sees.builders r.1) hand phase
