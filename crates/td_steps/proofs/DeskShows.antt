-- A move of the desk in a world that is as the board is.
use Rattle.std.proofs.Common.{◌≡◌, ◌≢◌, ℕ, true, List, [], ◌∷◌, Option, Some, None, set, slice_get}
use Rattle.std.proofs.Common.{ap, refl, sym, subst, ◌∙◌}
use Rattle.td_board.specs.declared.outcome.OutcomeCode.{OutcomeCode}
use Rattle.td_board.specs.declared.views.RowView.TheVariants as views
use Rattle.td_board.specs.declared.views.DeskTry.TheVariants.{Offered, WithdrawalWon}
use Rattle.td_board.specs.declared.views.DeskTry.TheVariants.{WithdrawalLost}
use Rattle.td_board.specs.declared.views.DeskTry.TheVariants.{ClaimNoted, SettleDone}
use Rattle.td_board.specs.declared.views.DeskView.{DeskView}
use Rattle.td_board.specs.declared.views.View.TheVariants.{Desk as DeskSeat}
use Rattle.td_board.specs.Phase.{Phase as BoardPhase, closed, opened, held, noted, done}
use Rattle.td_board.specs.Steps.{Moment, IsAt, learned, moved}
use Rattle.td_rows.specs.declared.key.Key.{Key}
use Rattle.td_rows.specs.declared.kind.Kind.TheVariants as kinds
use Rattle.td_rows.specs.declared.outcome.Outcome.{Outcome}
use Rattle.td_rows.specs.Table.{Table}
use Rattle.td_change.specs.Saved.{number_of}
use Rattle.td_core.specs.declared.step.Phase.TheVariants.{Closed, Open, Noted, Done}
use Rattle.td_core.specs.declared.step.Refusal.{Refusal}
use Rattle.td_core.specs.declared.step.Refusal.TheVariants.{NotOpen}
use Rattle.td_core.specs.declared.step.Step.{Step}
use Rattle.td_core.specs.declared.step.Step.TheVariants as steps
use Rattle.td_core.specs.History.{History, rows_of}
use Rattle.td_core.specs.Refusals.{is_queued_at, offer_refusal, withdraw_refusal, note_refusal}
use Rattle.td_core.specs.Refusals.{settle_refusal}
use Rattle.td_core.specs.Steps.{refusal, accepted, after, noted as noted_now, settled, swept}
use Rattle.td_core.specs.Steps.{swept_now}
use Rattle.td_core.specs.Worlds.{WorldView, phase_of, with_phase, journaled}
use Rattle.td_core.proofs.WorldSteps.{after-accepted, after-refused}
use Rattle.td_book.specs.Deeds.{code_of}
use Rattle.td_steps.specs.Sees.{Desk, Sees}
use Rattle.td_steps.specs.Moves.{Move, offer, won, lost, note, commit, undo, settle, arrive, sweep}
use Rattle.td_steps.specs.Moves.{step_of, May, Chosen}
use Rattle.td_steps.specs.Tries.{tries_of}
use Rattle.td_steps.proofs.Showing.{phase_as, Agrees, agrees-moved, agrees-learned}

-- ---- 1. the move that a step at the board is

pub is-offer : (o : Table) (x : Move) (r : ℕ) → tries_of o x ≡ Offered r ∷ []
    → (k : Key) × (x ≡ offer k) × (number_of o k ≡ r)
is-offer o (offer k) r h =
    let e : Offered (number_of o k) ∷ [] ≡ Offered r ∷ [] = h in (k, refl, cc)
is-offer o (won k) r h = absurd (cc)
is-offer o (lost k b) r h = absurd (cc)
is-offer o (note k b) r h = absurd (cc)
is-offer o (commit kind keys) r h = absurd (cc)
is-offer o (undo n) r h = absurd (cc)
is-offer o (settle k b e) r h = absurd (cc)
is-offer o (arrive k) r h = absurd (cc)
is-offer o sweep r h = absurd (cc)

pub is-won : (o : Table) (x : Move) (r : ℕ) → tries_of o x ≡ WithdrawalWon r ∷ []
    → (k : Key) × (x ≡ won k) × (number_of o k ≡ r)
is-won o (offer k) r h = absurd (cc)
is-won o (won k) r h =
    let e : WithdrawalWon (number_of o k) ∷ [] ≡ WithdrawalWon r ∷ [] = h in (k, refl, cc)
is-won o (lost k b) r h = absurd (cc)
is-won o (note k b) r h = absurd (cc)
is-won o (commit kind keys) r h = absurd (cc)
is-won o (undo n) r h = absurd (cc)
is-won o (settle k b e) r h = absurd (cc)
is-won o (arrive k) r h = absurd (cc)
is-won o sweep r h = absurd (cc)

pub is-lost : (o : Table) (x : Move) (r a : ℕ) → tries_of o x ≡ WithdrawalLost r a ∷ []
    → (k : Key) × (x ≡ lost k a) × (number_of o k ≡ r)
is-lost o (offer k) r a h = absurd (cc)
is-lost o (won k) r a h = absurd (cc)
is-lost o (lost k b) r a h =
    let e : WithdrawalLost (number_of o k) b ∷ [] ≡ WithdrawalLost r a ∷ [] = h in
    let same : b ≡ a = cc in (k, ap (lost k) same, cc)
is-lost o (note k b) r a h = absurd (cc)
is-lost o (commit kind keys) r a h = absurd (cc)
is-lost o (undo n) r a h = absurd (cc)
is-lost o (settle k b e) r a h = absurd (cc)
is-lost o (arrive k) r a h = absurd (cc)
is-lost o sweep r a h = absurd (cc)

pub is-note : (o : Table) (x : Move) (r a : ℕ) → tries_of o x ≡ ClaimNoted r a ∷ []
    → (k : Key) × (x ≡ note k a) × (number_of o k ≡ r)
is-note o (offer k) r a h = absurd (cc)
is-note o (won k) r a h = absurd (cc)
is-note o (lost k b) r a h = absurd (cc)
is-note o (note k b) r a h =
    let e : ClaimNoted (number_of o k) b ∷ [] ≡ ClaimNoted r a ∷ [] = h in let same : b ≡ a = cc in
    (k, ap (note k) same, cc)
is-note o (commit kind keys) r a h = absurd (cc)
is-note o (undo n) r a h = absurd (cc)
is-note o (settle k b e) r a h = absurd (cc)
is-note o (arrive k) r a h = absurd (cc)
is-note o sweep r a h = absurd (cc)

pub is-settle : (o : Table) (x : Move) (r : ℕ) (c : OutcomeCode)
    → tries_of o x ≡ SettleDone r c ∷ []
    → (k : Key) × (a : ℕ) × (end : Outcome) × (x ≡ settle k a end) × (number_of o k ≡ r)
    × (code_of end ≡ c)
is-settle o (offer k) r c h = absurd (cc)
is-settle o (won k) r c h = absurd (cc)
is-settle o (lost k b) r c h = absurd (cc)
is-settle o (note k b) r c h = absurd (cc)
is-settle o (commit kind keys) r c h = absurd (cc)
is-settle o (undo n) r c h = absurd (cc)
is-settle o (settle k b e) r c h =
    let s : SettleDone (number_of o k) (code_of e) ∷ [] ≡ SettleDone r c ∷ [] = h in
    (k, b, e, refl, cc, cc)
is-settle o (arrive k) r c h = absurd (cc)
is-settle o sweep r c h = absurd (cc)

-- ---- 2. what it does

pub phase-there : (o : Table) (n : ℕ) (g : ℕ → Outcome) (m : Moment) (v : WorldView) (k : Key)
    (r : ℕ)
    (p : BoardPhase) → Agrees o n g m v → number_of o k ≡ r → IsAt m r p
    → phase_of v k ≡ Some (phase_as (g r) p)
phase-there o n g m v k r p a num at =
    ap (λ (t : Table). slice_get v.phases (number_of t k)) a.opening
    ∙ ap (slice_get v.phases) num ∙ a.phases r p at

pub number-there : (o : Table) (n : ℕ) (g : ℕ → Outcome) (m : Moment) (v : WorldView) (k : Key)
    (r : ℕ)
    → Agrees o n g m v → number_of o k ≡ r → number_of v.history.opening k ≡ r
number-there o n g m v k r a num = ap (λ (t : Table). number_of t k) a.opening ∙ num

-- in a world that is as the board is, and that the desk sees, builders have decided as the move
-- says, and the world after it is as the board after the step
abbrev pub Simulates : Table → ℕ → (ℕ → Outcome) → (ℕ → Outcome) → Moment → Moment → Move → Type 0
Simulates o n g' g m m' x =
    (v : WorldView) (d : Desk) → Sees v d → May d x → Agrees o n g' m v
    → Chosen v x × Agrees o n g m' (after v (step_of x))

module _ (o : Table) (n : ℕ) (g : ℕ → Outcome) (m : Moment) (r : ℕ) (seat : DeskView) (k : Key)
    (num : number_of o k ≡ r) where
  pub offer-shows : IsAt m r closed
      → Simulates o n g g m (moved r opened 0 (DeskSeat seat) m) (offer k)
  offer-shows at v d sees may a =
      let phase = phase-there o n g m v k r closed a num at in
      let queued : is_queued_at (rows_of v.history) k ≡ true =
      ap (λ (h : History). is_queued_at (rows_of h) k) sees.history ∙ may.1 in
      let none : refusal v (steps.Offer k) ≡ None = λ j. offer_refusal (queued j) (phase j) in (
        tt,
        subst (Agrees o n g (moved r opened 0 (DeskSeat seat) m))
            (sym (after-accepted v (steps.Offer k) none))
            (agrees-moved o n g g m v (with_phase v k Open) a a.opening r closed opened Open seat at
            (λ s _. refl) refl
            (ap (λ i. set v.phases i Open) (number-there o n g m v k r a num)) refl),
      )

  pub won-shows : IsAt m r opened
      → Simulates o n g g m (moved r closed 0 (DeskSeat seat) m) (won k)
  won-shows at v d sees may a =
      let phase = phase-there o n g m v k r opened a num at in
      let none : refusal v (steps.Withdraw k) ≡ None = ap withdraw_refusal phase in (
        phase,
        subst (Agrees o n g (moved r closed 0 (DeskSeat seat) m))
            (sym (after-accepted v (steps.Withdraw k) none))
            (agrees-moved o n g g m v (with_phase v k Closed) a a.opening r opened closed Closed
            seat at (λ s _. refl) refl
            (ap (λ i. set v.phases i Closed) (number-there o n g m v k r a num)) refl),
      )

  pub lost-shows : (b : ℕ) → IsAt m r (held b)
      → Simulates o n g g m (learned 0 (DeskSeat seat) m) (lost k b)
  lost-shows b at v d sees may a =
      let phase = phase-there o n g m v k r (held b) a num at in
      let refused : refusal v (steps.Withdraw k) ≡ Some NotOpen = ap withdraw_refusal phase in (
        phase,
        subst (Agrees o n g (learned 0 (DeskSeat seat) m))
            (sym (after-refused v (steps.Withdraw k) NotOpen refused))
            (agrees-learned o n g g m v v a a.opening seat (λ s. refl) refl refl),
      )

  pub note-shows : (b : ℕ) → IsAt m r (held b)
      → Simulates o n g g m (moved r (noted b) 0 (DeskSeat seat) m) (note k b)
  note-shows b at v d sees may a =
      let phase = phase-there o n g m v k r (held b) a num at in
      let none : refusal v (steps.Note k) ≡ None = ap note_refusal phase in
      let u : WorldView = with_phase (journaled v (kinds.Claim b) (k ∷ [])) k (Noted b) in (
        tt,
        subst (Agrees o n g (moved r (noted b) 0 (DeskSeat seat) m))
            (sym (after-accepted v (steps.Note k) none ∙ ap (noted_now v k) phase))
            (agrees-moved o n g g m v u a a.opening r (held b) (noted b) (Noted b) seat at
            (λ s _. refl) refl
            (ap (λ i. set v.phases i (Noted b)) (number-there o n g m v k r a num)) refl),
      )

  -- the builder whom the desk knows to have the row is the one who ended its build
  pub settle-shows : (g' : ℕ → Outcome) (a b : ℕ) (c : OutcomeCode) (end : Outcome)
      → IsAt m r (done b c) → g' r ≡ end → ((s : ℕ) → s ≢ r → g' s ≡ g s)
      → Simulates o n g' g m (moved r closed 0 (DeskSeat seat) m) (settle k a end)
  settle-shows g' a b c end at here beside v d sees may agrees =
      let phase = phase-there o n g' m v k r (done b c) agrees num at
      ∙ ap (λ (x : Outcome). Some (Done b x)) here in
      let own : a ≡ b = sees.fits (number_of v.history.opening k) (views.Known a) (Done b end)
      (ap (λ (h : History). slice_get d.view (number_of h.opening k)) sees.history ∙ may) phase in
      let none : refusal v (steps.Settle k) ≡ None = ap settle_refusal phase in
      let u : WorldView =
      with_phase (journaled v (kinds.Outcome b end) (k ∷ [])) k Closed in (
        phase ∙ ap (λ i. Some (Done i end)) (sym own),
        subst (Agrees o n g (moved r closed 0 (DeskSeat seat) m))
            (sym (after-accepted v (steps.Settle k) none ∙ ap (settled v k) phase))
            (agrees-moved o n g' g m v u agrees agrees.opening r (done b c) closed Closed seat at
            beside refl
            (ap (λ i. set v.phases i Closed) (number-there o n g' m v k r agrees num)) refl),
      )

-- ---- 3. entries alone

-- rows and hands are the same
pub record Alike (v u : WorldView) : Type 0 where
  pub opening : u.history.opening ≡ v.history.opening
  pub phases : u.phases ≡ v.phases
  pub hands : u.hands ≡ v.hands

alike-after : (v : WorldView) (s : Step) → Alike v (accepted v s) → Alike v (after v s)
alike-after v s is = at (refusal v s) refl
  where
    at : (r : Option Refusal) → refusal v s ≡ r → Alike v (after v s)
    at None none = subst (Alike v) (sym (after-accepted v s none)) is
    at (Some r) refused =
        subst (Alike v) (sym (after-refused v s r refused))
        (record { opening = refl; phases = refl; hands = refl })

alike-swept : (v : WorldView) (keys : List Key) → Alike v (swept v keys)
alike-swept v [] = record { opening = refl; phases = refl; hands = refl }
alike-swept v (k ∷ keys) = record { opening = refl; phases = refl; hands = refl }

pub quiet : (o : Table) (x : Move) (v : WorldView) → tries_of o x ≡ []
    → Chosen v x × Alike v (after v (step_of x))
quiet o (commit kind keys) v none = (
  tt,
  alike-after v (steps.Commit kind keys)
      (record { opening = refl; phases = refl; hands = refl }),
)
quiet o (undo n) v none =
    (tt, alike-after v (steps.Undo n) (record { opening = refl; phases = refl; hands = refl }))
quiet o (arrive k) v none =
    (tt, alike-after v (steps.Arrive k) (record { opening = refl; phases = refl; hands = refl }))
quiet o sweep v none = (tt, alike-after v steps.Sweep (alike-swept v (swept_now v)))
quiet o (offer k) v none = absurd (cc)
quiet o (won k) v none = absurd (cc)
quiet o (lost k b) v none = absurd (cc)
quiet o (note k b) v none = absurd (cc)
quiet o (settle k b e) v none = absurd (cc)
