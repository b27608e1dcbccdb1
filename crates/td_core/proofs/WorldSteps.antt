-- Each accepted step leaves a world in which all holds that holds of every world.
use Rattle.std.proofs.Common.{◌≡◌, ℕ, zero, suc, ◌-◌, Bool, true, false, List, [], ◌∷◌}
use Rattle.std.proofs.Common.{Option, Some, None, if◌then◌else◌, length}
use Rattle.std.proofs.Common.{replicate, slice_get, set, not, ap, refl, sym, subst}
use Rattle.std.proofs.Common.{◌∙◌, arith}
use Rattle.std.proofs.lemmas.Bool.{eq-eqb, eqb-true, not-false}
use Rattle.std.proofs.lemmas.List.{length-replicate}
use Rattle.td_change.specs.Saved.{number_of}
use Rattle.td_rows.specs.declared.key.Key.{Key}
use Rattle.td_rows.specs.declared.row.Row.{Row}
use Rattle.td_rows.specs.declared.state.State.{State}
use Rattle.td_rows.specs.declared.state.State.TheVariants.{NeedsBuild, Building, Built, Uploaded}
use Rattle.td_rows.specs.declared.state.State.TheVariants.{Installed, DepWait, BdUninstallable}
use Rattle.td_rows.specs.declared.state.State.TheVariants.{BuildAttempted, Failed, NotForUs}
use Rattle.td_rows.specs.declared.kind.Kind.{Kind}
use Rattle.td_rows.specs.declared.kind.Kind.TheVariants.{Claim as Claimed, Outcome as Ended}
use Rattle.td_rows.specs.declared.kind.Kind.TheVariants.{Arrive as Arrived, Sweep as Swept}
use Rattle.td_rows.specs.declared.outcome.Outcome.{Outcome}
use Rattle.td_rows.specs.declared.outcome.Outcome.TheVariants.{Built as WasBuilt, Attempted}
use Rattle.td_rows.specs.declared.outcome.Outcome.TheVariants.{GivenBack, Waits}
use Rattle.td_rows.specs.Keys.{same_key, ascending}
use Rattle.td_rows.specs.Meaning.{applies, means}
use Rattle.td_rows.specs.States.{is_queued, is_building_by}
use Rattle.td_rows.specs.Table.{Table, row_of, keys_of, fits, AppliesOn}
use Rattle.td_rows.proofs.Keys.{same_key-true}
use Rattle.td_rows.proofs.Tables.{applies-fits}
use Rattle.td_journal.specs.IsKeys.{IsKeys}
use Rattle.td_journal.proofs.Undoing.{replay-none}
use Rattle.td_core.specs.declared.step.Phase.{Phase}
use Rattle.td_core.specs.declared.step.Phase.TheVariants.{Closed, Open, Held, Noted, Done}
use Rattle.td_core.specs.declared.step.Hand.{Hand}
use Rattle.td_core.specs.declared.step.Hand.TheVariants.{Free, Holding, Finished}
use Rattle.td_core.specs.declared.step.Step.{Step}
use Rattle.td_core.specs.declared.step.Step.TheVariants.{Offer, Withdraw, Claim, Note, Commit, Undo}
use Rattle.td_core.specs.declared.step.Step.TheVariants.{Finish, Settle, Release, Arrive, Sweep}
use Rattle.td_core.specs.declared.step.Refusal.{Refusal}
use Rattle.td_core.specs.declared.step.Refusal.TheVariants.{NotNoted, NotSettled, DoesNotApply}
use Rattle.td_core.specs.declared.step.Answer.{Answer}
use Rattle.td_core.specs.declared.step.Answer.TheVariants.{Refused}
use Rattle.td_core.specs.History.{rows_of}
use Rattle.td_core.specs.Phases.{Suits, NoneBuilt}
use Rattle.td_rows.specs.States.{is_building}
use Rattle.td_core.specs.Worlds.{WorldView, phase_of, hand_of, with_phase, with_hand, journaled}
use Rattle.td_core.specs.Worlds.{world_of, InHand, IsWorld}
use Rattle.td_core.specs.Refusals.{is_queued_at, offer_refusal, withdraw_refusal, claim_refusal}
use Rattle.td_core.specs.Refusals.{note_refusal, finish_refusal, settle_refusal, release_refusal}
use Rattle.td_core.specs.Refusals.{arrive_refusal, is_noted_by, is_done_by}
use Rattle.td_core.specs.Steps.{refusal, accepted, noted, settled, finished, swept, swept_now}
use Rattle.td_core.specs.Steps.{supply_of, done, answer_to, after}
use Rattle.td_core.proofs.Phases.{keys_of-rows_of}
use Rattle.td_core.proofs.Refusing.{commits, undoes, not_refused}
use Rattle.td_supply.specs.Supply.{Stock}
use Rattle.td_core.proofs.Freeing.{suits-arrive, suits-sweep, AppliesOn-freed, ascending-freed}
use Rattle.td_core.proofs.Hands.{NotHis, InHand-moved, InHand-put, hand_in-put}
use Rattle.td_core.proofs.Hands.{free-not_his, holding-not_his}
use Rattle.td_core.proofs.Worlds.{IsWorld-commit, IsWorld-journaled, IsWorld-moved, IsWorld-undo}
use Rattle.td_core.proofs.Worlds.{IsWorld-with_hands, IsWorld-with_phase, IsWorld-with_phase_hands}
use Rattle.td_core.proofs.Worlds.{one_key, row-there}

-- a kind that applies on the row of the one key
pub AppliesOn-one : (t : Table) (kind : Kind) (k : Key) (row : Row) → row_of t k ≡ Some row
    → applies kind row ≡ true → AppliesOn t kind (k ∷ [])
AppliesOn-one t kind k row found fit q named =
    elim (same_key q k) as (λ b.
    same_key q k ≡ b → (if b then true else false) ≡ true → fits t kind q ≡ true) [
      | true ↦
          λ is _. ap (fits t kind) (same_key-true q k is)
          ∙ ap (λ (o : Option Row).
          elim o as (λ _. Bool) [ Some r ↦ applies kind r | None ↦ false ]) found ∙ fit
      | false ↦ λ _ h. cc
    ] refl named

queued-state : (s : State) → is_queued s ≡ true → s ≡ NeedsBuild
queued-state NeedsBuild h = refl
queued-state (Building b) h = cc
queued-state Built h = cc
queued-state Uploaded h = cc
queued-state Installed h = cc
queued-state DepWait h = cc
queued-state BdUninstallable h = cc
queued-state BuildAttempted h = cc
queued-state Failed h = cc
queued-state NotForUs h = cc

offers : (queued : Bool) (p : Option Phase) → offer_refusal queued p ≡ None → queued ≡ true
offers queued None h = cc
offers true (Some Closed) h = refl
offers false (Some Closed) h = cc
offers queued (Some Open) h = cc
offers queued (Some (Held b)) h = cc
offers queued (Some (Noted b)) h = cc
offers queued (Some (Done b o)) h = cc

pub withdraws : (p : Option Phase) → withdraw_refusal p ≡ None → p ≡ Some Open
withdraws None h = cc
withdraws (Some Closed) h = cc
withdraws (Some Open) h = refl
withdraws (Some (Held b)) h = cc
withdraws (Some (Noted b)) h = cc
withdraws (Some (Done b o)) h = cc

pub claims : (h : Option Hand) (p : Option Phase) → claim_refusal h p ≡ None
    → (h ≡ Some Free) × (p ≡ Some Open)
claims None None e = cc
claims (Some h) None e = cc
claims None (Some p) e = cc
claims (Some Free) (Some Closed) e = cc
claims (Some Free) (Some Open) e = (refl, refl)
claims (Some Free) (Some (Held b)) e = cc
claims (Some Free) (Some (Noted b)) e = cc
claims (Some Free) (Some (Done b o)) e = cc
claims (Some (Holding k)) (Some p) e = cc
claims (Some (Finished k o)) (Some p) e = cc

pub notes : (p : Option Phase) → note_refusal p ≡ None → (b : ℕ) × (p ≡ Some (Held b))
notes None h = cc
notes (Some Closed) h = cc
notes (Some Open) h = cc
notes (Some (Held b)) h = (b, refl)
notes (Some (Noted b)) h = cc
notes (Some (Done b o)) h = cc

pub settles : (p : Option Phase) → settle_refusal p ≡ None
    → (b : ℕ) × ((o : Outcome) × (p ≡ Some (Done b o)))
settles None h = cc
settles (Some Closed) h = cc
settles (Some Open) h = cc
settles (Some (Held b)) h = cc
settles (Some (Noted b)) h = cc
settles (Some (Done b o)) h = (b, (o, refl))

noted_by : (b : ℕ) (p : Option Phase) → is_noted_by b p ≡ true → p ≡ Some (Noted b)
noted_by b None h = cc
noted_by b (Some Closed) h = cc
noted_by b (Some Open) h = cc
noted_by b (Some (Held c)) h = cc
noted_by b (Some (Noted c)) h = ap (λ (x : ℕ). Some (Noted x)) (sym (eqb-true b c h))
noted_by b (Some (Done c o)) h = cc

pub finishes : (w : WorldView) (b : ℕ) (h : Option Hand) → finish_refusal w b h ≡ None
    → (k : Key) × ((h ≡ Some (Holding k)) × (phase_of w k ≡ Some (Noted b)))
finishes w b None e = cc
finishes w b (Some Free) e = cc
finishes w b (Some (Finished k o)) e = cc
finishes w b (Some (Holding k)) e = (
  k,
  (
    refl,
    noted_by b (phase_of w k)
        (not-false (is_noted_by b (phase_of w k))
        (not_refused (not (is_noted_by b (phase_of w k))) NotNoted None e).0),
  ),
)

pub releases : (w : WorldView) (b : ℕ) (h : Option Hand) → release_refusal w b h ≡ None → (k : Key)
    × ((o : Outcome) × ((h ≡ Some (Finished k o)) × (is_done_by b (phase_of w k) ≡ false)))
releases w b None e = cc
releases w b (Some Free) e = cc
releases w b (Some (Holding k)) e = cc
releases w b (Some (Finished k o)) e =
    (k, (o, (refl, (not_refused (is_done_by b (phase_of w k)) NotSettled None e).0)))

idle-ended : (b : ℕ) (o : Outcome) (row : Row) → is_building (means (Ended b o) row).state ≡ false
idle-ended b WasBuilt row = refl
idle-ended b Attempted row = refl
idle-ended b GivenBack row = refl
idle-ended b (Waits t) row = refl

IsWorld-offer : (w : WorldView) (k : Key) → IsWorld w → refusal w (Offer k) ≡ None
    → IsWorld (accepted w (Offer k))
IsWorld-offer w k i none = IsWorld-with_phase w k Open i tt (λ row found.
    queued-state row.state
    (sym (ap (λ (o : Option Row).
    elim o as (λ _. Bool) [ Some r ↦ is_queued r.state | None ↦ false ]) found)
    ∙ offers (is_queued_at (rows_of w.history) k) (phase_of w k) none))

IsWorld-withdraw : (w : WorldView) (k : Key) → IsWorld w → refusal w (Withdraw k) ≡ None
    → IsWorld (accepted w (Withdraw k))
IsWorld-withdraw w k i none =
    IsWorld-with_phase w k Closed i tt (λ row found.
    ap is_building (i.suits k Open row (withdraws (phase_of w k) none) found))

IsWorld-claim : (w : WorldView) (b : ℕ) (k : Key) → IsWorld w → refusal w (Claim b k) ≡ None
    → IsWorld (accepted w (Claim b k))
IsWorld-claim w b k i none =
    let c = claims (hand_of w b) (phase_of w k) none in
    let here = hand_in-put w.hands b Free (Holding k) c.0 in
    IsWorld-with_phase_hands w k (Held b) (set w.hands (b - 1) (Holding k)) i
    (λ row found. i.suits k Open row c.1 found)
    (InHand-moved w k (Held b) _ i.sized here (λ q x _ phase.
    InHand-put w.hands b Free (Holding k) q x c.0 (free-not_his b q x) (i.held q x phase)))

pub IsWorld-noted : (w : WorldView) (k : Key) (b : ℕ) → IsWorld w → phase_of w k ≡ Some (Held b)
    → AppliesOn (rows_of w.history) (Claimed b) (k ∷ [])
    × IsWorld (with_phase (journaled w (Claimed b) (k ∷ [])) k (Noted b))
IsWorld-noted w k b i phase =
    let row = row-there w k (Held b) i phase in
    let applies = AppliesOn-one (rows_of w.history) (Claimed b) k row.0 row.1
    (ap is_queued (i.suits k (Held b) row.0 phase row.1)) in (
      applies,
      IsWorld-moved w (Claimed b) k (Noted b) i applies (i.held k (Held b) phase) (λ r found. refl),
    )

pub IsWorld-settled : (w : WorldView) (k : Key) (b : ℕ) (o : Outcome) → IsWorld w
    → phase_of w k ≡ Some (Done b o) → AppliesOn (rows_of w.history) (Ended b o) (k ∷ [])
    × IsWorld (with_phase (journaled w (Ended b o) (k ∷ [])) k Closed)
IsWorld-settled w k b o i phase =
    let row = row-there w k (Done b o) i phase in
    let applies = AppliesOn-one (rows_of w.history) (Ended b o) k row.0 row.1
    (ap (is_building_by b) (i.suits k (Done b o) row.0 phase row.1) ∙ eq-eqb b b refl) in
    (applies, IsWorld-moved w (Ended b o) k Closed i applies tt (λ r found. idle-ended b o r))

pub IsWorld-finished : (w : WorldView) (b : ℕ) (o : Outcome) (k : Key) → IsWorld w
    → hand_of w b ≡ Some (Holding k) → phase_of w k ≡ Some (Noted b)
    → IsWorld (with_hand (with_phase w k (Done b o)) b (Finished k o))
IsWorld-finished w b o k i hand phase =
    let here = hand_in-put w.hands b (Holding k) (Finished k o) hand in
    IsWorld-with_phase_hands w k (Done b o) (set w.hands (b - 1) (Finished k o)) i
    (λ row found. i.suits k (Noted b) row phase found)
    (InHand-moved w k (Done b o) _ i.sized here (λ q x is there.
    InHand-put w.hands b (Holding k) (Finished k o) q x hand (holding-not_his b k q x is)
    (i.held q x there)))

-- the ended build that its builder lets go of is settled, or another's
let_go : (w : WorldView) (b : ℕ) (k q : Key) (o : Outcome) (p : Phase)
    → is_done_by b (phase_of w k) ≡ false → phase_of w q ≡ Some p → NotHis b (Finished k o) q p
let_go w b k q o p settled there = record {
  held = λ e. cc;
  ended = λ x is e.
      let same : k ≡ q = cc in
      let done : phase_of w k ≡ Some (Done b x) =
      ap (phase_of w) same ∙ there ∙ ap (λ (y : Phase). Some y) is in
      let yes : is_done_by b (phase_of w k) ≡ true = ap (is_done_by b) done ∙ eq-eqb b b refl in
      (let no = sym yes ∙ settled in cc);
}

IsWorld-release : (w : WorldView) (b : ℕ) → IsWorld w → refusal w (Release b) ≡ None
    → IsWorld (accepted w (Release b))
IsWorld-release w b i none =
    let r = releases w b (hand_of w b) none in
    let k = r.0 in
    let o = r.1.0 in
    IsWorld-with_hands w (set w.hands (b - 1) Free) i
    (λ q p phase. InHand-put w.hands b (Finished k o) Free q p r.1.1.0
    (let_go w b k q o p r.1.1.1 phase) (i.held q p phase))

pub arrives : (k : Key) (o : Option Row) → arrive_refusal k o ≡ None
    → (row : Row) × ((o ≡ Some row) × (applies Arrived row ≡ true))
arrives k None h = cc
arrives k (Some row) h = (
  row,
  (
    refl,
    not-false (applies Arrived row)
        (not_refused (not (applies Arrived row)) (DoesNotApply k) None h).0,
  ),
)

pub IsWorld-arrived : (w : WorldView) (k : Key) (row : Row) → IsWorld w
    → row_of (rows_of w.history) k ≡ Some row → applies Arrived row ≡ true
    → AppliesOn (rows_of w.history) Arrived (k ∷ []) × IsWorld (journaled w Arrived (k ∷ []))
IsWorld-arrived w k row i found fit =
    let applies = AppliesOn-one (rows_of w.history) Arrived k row found fit in (
      applies,
      IsWorld-journaled w Arrived (k ∷ []) i (one_key k) applies (λ q p r named phase there.
          suits-arrive p r.state
          (applies-fits (rows_of w.history) Arrived q r there (applies q named))
          (i.suits q p r phase there)),
    )

pub IsWorld-swept : (w : WorldView) (keys : List Key) → IsWorld w → IsKeys keys
    → AppliesOn (rows_of w.history) Swept keys → IsWorld (journaled w Swept keys)
IsWorld-swept w keys i are applies =
    IsWorld-journaled w Swept keys i are applies (λ q p r named phase there.
    suits-sweep p r.state (applies-fits (rows_of w.history) Swept q r there (applies q named))
    (i.suits q p r phase there))

pub AppliesOn-swept_now : (w : WorldView) → IsWorld w
    → AppliesOn (rows_of w.history) Swept (swept_now w)
AppliesOn-swept_now w i =
    AppliesOn-freed (supply_of w) (rows_of w.history)
    (ap ascending (keys_of-rows_of w.history) ∙ i.rising)

pub rising-swept_now : (w : WorldView) → IsWorld w → ascending (swept_now w) ≡ true
rising-swept_now w i =
    ascending-freed (supply_of w) (rows_of w.history)
    (ap ascending (keys_of-rows_of w.history) ∙ i.rising)

IsWorld-sweep : (w : WorldView) (keys : List Key) → IsWorld w → ascending keys ≡ true
    → AppliesOn (rows_of w.history) Swept keys → IsWorld (swept w keys)
IsWorld-sweep w [] i rising applies = i
IsWorld-sweep w (k ∷ keys) i rising applies =
    IsWorld-swept w (k ∷ keys) i (record { rising = rising; some = omega arith }) applies

-- each step that isn't refused
pub IsWorld-accepted : (w : WorldView) (s : Step) → IsWorld w → refusal w s ≡ None
    → IsWorld (accepted w s)
IsWorld-accepted w (Offer k) i none = IsWorld-offer w k i none
IsWorld-accepted w (Withdraw k) i none = IsWorld-withdraw w k i none
IsWorld-accepted w (Claim b k) i none = IsWorld-claim w b k i none
IsWorld-accepted w (Note k) i none =
    let p = notes (phase_of w k) none in
    subst (λ (x : Option Phase). IsWorld (noted w k x)) (sym p.1) (IsWorld-noted w k p.0 i p.1).1
IsWorld-accepted w (Commit kind keys) i none =
    IsWorld-commit w kind keys i (commits w kind keys none)
IsWorld-accepted w (Undo n) i none = IsWorld-undo w n i (undoes w n none)
IsWorld-accepted w (Finish b o) i none =
    let f = finishes w b (hand_of w b) none in
    subst (λ (x : Option Hand). IsWorld (finished w b o x)) (sym f.1.0)
    (IsWorld-finished w b o f.0 i f.1.0 f.1.1)
IsWorld-accepted w (Settle k) i none =
    let p = settles (phase_of w k) none in
    subst (λ (x : Option Phase). IsWorld (settled w k x)) (sym p.1.1)
    (IsWorld-settled w k p.0 p.1.0 i p.1.1).1
IsWorld-accepted w (Release b) i none = IsWorld-release w b i none
IsWorld-accepted w (Arrive k) i none =
    let a = arrives k (row_of (rows_of w.history) k) none in
    (IsWorld-arrived w k a.0 i a.1.0 a.1.1).1
IsWorld-accepted w Sweep i none =
    IsWorld-sweep w (swept_now w) i (rising-swept_now w i) (AppliesOn-swept_now w i)

-- each step
pub IsWorld-after : (w : WorldView) (s : Step) → IsWorld w → IsWorld (after w s)
IsWorld-after w s i =
    elim (refusal w s) as (λ r.
    refusal w s ≡ r → IsWorld (elim r as (λ _. WorldView) [ Some x ↦ w | None ↦ accepted w s ])) [
      | Some x ↦ λ _. i
      | None ↦ λ none. IsWorld-accepted w s i none
    ] refl

pub slice_get-replicate : {A : Type 0} (n i : ℕ) (x y : A) → slice_get (replicate n x) i ≡ Some y
    → y ≡ x
slice_get-replicate zero zero x y h = cc
slice_get-replicate zero (suc i) x y h = cc
slice_get-replicate (suc n) zero x y h = cc
slice_get-replicate (suc n) (suc i) x y h = slice_get-replicate n i x y h

-- the world at its opening
pub IsWorld-open : (t : Table) (s : Stock) (builders : ℕ) → ascending (keys_of t) ≡ true
    → NoneBuilt t → IsWorld (world_of t s builders)
IsWorld-open t s builders rising idle = record {
  rising = rising;
  lawful = tt;
  sized = length-replicate (length t) Closed;
  suits = λ k p row phase found.
      subst (λ (x : Phase). Suits x row.state)
      (sym (slice_get-replicate (length t) (number_of t k) Closed p phase))
      (idle k row (sym (ap (λ (u : Table). row_of u k) (replay-none t)) ∙ found));
  keys = tt;
  held = λ k p phase. subst (InHand (replicate builders Free) k)
      (sym (slice_get-replicate (length t) (number_of t k) Closed p phase)) tt;
}

pub answer_to-refused : (w : WorldView) (s : Step) (r : Refusal) → refusal w s ≡ Some r
    → answer_to w s ≡ Refused r
answer_to-refused w s r h =
    ap (λ (x : Option Refusal). elim x as (λ _. Answer) [ Some y ↦ Refused y | None ↦ done w s ]) h

pub after-refused : (w : WorldView) (s : Step) (r : Refusal) → refusal w s ≡ Some r → after w s ≡ w
after-refused w s r h =
    ap (λ (x : Option Refusal). elim x as (λ _. WorldView) [ Some y ↦ w | None ↦ accepted w s ]) h

pub answer_to-accepted : (w : WorldView) (s : Step) → refusal w s ≡ None → answer_to w s ≡ done w s
answer_to-accepted w s h =
    ap (λ (x : Option Refusal). elim x as (λ _. Answer) [ Some y ↦ Refused y | None ↦ done w s ]) h

pub after-accepted : (w : WorldView) (s : Step) → refusal w s ≡ None → after w s ≡ accepted w s
after-accepted w s h =
    ap (λ (x : Option Refusal). elim x as (λ _. WorldView) [ Some y ↦ w | None ↦ accepted w s ]) h

-- a build that its builder ends
pub after-finish : (w v : WorldView) (b : ℕ) (o : Outcome) (k : Key) → w ≡ v
    → refusal v (Finish b o) ≡ None → hand_of w b ≡ Some (Holding k)
    → with_hand (with_phase w k (Done b o)) b (Finished k o) ≡ after v (Finish b o)
after-finish w v b o k same none hand =
    ap (finished w b o) (sym hand) ∙ (λ j. finished (same j) b o (hand_of (same j) b))
    ∙ sym (after-accepted v (Finish b o) none)
