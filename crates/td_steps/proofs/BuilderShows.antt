-- A builder's step in a world that is as the board is.
use Rattle.std.proofs.Common.{◌≡◌, ◌≢◌, ℕ, ◌<◌, true, false, not, List, Some, None, length}
use Rattle.std.proofs.Common.{set, slice_get, ap, refl, sym, subst, ◌∙◌, arith, eq-eqb, ne_eqb}
use Rattle.td_board.specs.declared.outcome.OutcomeCode.{OutcomeCode}
use Rattle.td_board.specs.declared.views.BuilderView.{BuilderView}
use Rattle.td_board.specs.declared.views.Hand.TheVariants as board
use Rattle.td_board.specs.declared.views.View.TheVariants.{Builder}
use Rattle.td_board.specs.Phase.{Phase as BoardPhase, closed, opened, held, noted, done}
use Rattle.td_board.specs.Knowledge.{with_claim, with_finish, with_free_hand}
use Rattle.td_board.specs.Steps.{Moment, IsAt, BuilderKnows, learned, moved}
use Rattle.td_board.proofs.Lists.{at_less}
use Rattle.td_rows.specs.declared.key.Key.{Key}
use Rattle.td_rows.specs.declared.outcome.Outcome.{Outcome}
use Rattle.td_rows.specs.Keys.{ascending}
use Rattle.td_rows.specs.Table.{Table, keys_of}
use Rattle.td_change.specs.Saved.{number_of}
use Rattle.td_core.specs.declared.step.Phase.TheVariants.{Held, Done}
use Rattle.td_core.specs.declared.step.Hand.{Hand}
use Rattle.td_core.specs.declared.step.Hand.TheVariants.{Free, Holding, Finished}
use Rattle.td_core.specs.declared.step.Refusal.TheVariants.{NotNoted, NotSettled}
use Rattle.td_core.specs.declared.step.Step.TheVariants as steps
use Rattle.td_core.specs.Refusals.{refused_if, claim_refusal, is_noted_by, finish_refusal}
use Rattle.td_core.specs.Refusals.{is_done_by, release_refusal}
use Rattle.td_core.specs.Steps.{refusal, after, finished}
use Rattle.td_core.specs.Worlds.{WorldView, phase_of, with_phase, hand_of, with_hand, IsWorld}
use Rattle.td_core.proofs.WorldSteps.{after-accepted}
use Rattle.td_book.specs.Deeds.{code_of}
use Rattle.td_book.proofs.Steps.{some_at}
use Rattle.td_naming.proofs.Numbered.{key_of}
use Rattle.td_steps.specs.Schedules.{SameHand}
use Rattle.td_steps.proofs.Tries.{numbered}
use Rattle.td_steps.proofs.Showing.{phase_as, Agrees, builder-moved, builder-learned}
use Rattle.td_steps.proofs.DeskShows.{phase-there, number-there}

-- ---- 1. hands

free-hand : (keys : List Key) (x : Hand) → SameHand keys board.Free x → x ≡ Free
free-hand keys Free same = refl
free-hand keys (Holding k) same = absurd same
free-hand keys (Finished k e) same = absurd same

holding-hand : (keys : List Key) (r : ℕ) (x : Hand) → SameHand keys (board.Holding r) x
    → (k : Key) × (x ≡ Holding k) × (slice_get keys r ≡ Some k)
holding-hand keys r Free same = absurd same
holding-hand keys r (Holding k) same = (k, refl, same)
holding-hand keys r (Finished k e) same = absurd same

finished-hand : (keys : List Key) (r : ℕ) (c : OutcomeCode) (x : Hand)
    → SameHand keys (board.Finished r c) x
    → (k : Key) × (e : Outcome) × (x ≡ Finished k e) × (slice_get keys r ≡ Some k)
    × (code_of e ≡ c)
finished-hand keys r c Free same = absurd same
finished-hand keys r c (Holding k) same = absurd same
finished-hand keys r c (Finished k e) same = (k, e, refl, same.0, same.1)

module _ (o : Table) (n : ℕ) (g : ℕ → Outcome) (m : Moment) (v : WorldView) (r b : ℕ)
    (y : BuilderView) (a : Agrees o n g m v) (up : ascending (keys_of o) ≡ true) (one : 0 < b)
    (seat : BuilderKnows m b y) where
  -- ---- 2. a claim

  pub claim-shows : length v.phases ≡ length o → y.hand ≡ board.Free → IsAt m r opened
      → (k : Key) × (slice_get (keys_of o) r ≡ Some k)
      × Agrees o n g (moved r (held b) b (Builder (with_claim r y)) m) (after v (steps.Claim b k))
  claim-shows sized free at =
      let within : r < length m.phases = at_less m.phases r opened at in
      let inside : r < length o = omega (arith, within, a.sized, sized) in
      let row = some_at o r inside in
      let k = row.0 in
      let there = key_of o r k row.1 row.2 in
      let num : number_of o k ≡ r = sym (numbered o r k up there) in
      let x = a.hands b y seat in
      let is : x.0 ≡ Free =
      free-hand (keys_of o) x.0 (subst (λ h. SameHand (keys_of o) h x.0) free x.2) in
      let hand : hand_of v b ≡ Some Free = x.1 ∙ ap (λ (h : Hand). Some h) is in
      let phase = phase-there o n g m v k r opened a num at in
      let none : refusal v (steps.Claim b k) ≡ None = λ j. claim_refusal (hand j) (phase j) in
      let u : WorldView = with_hand (with_phase v k (Held b)) b (Holding k) in (
        k,
        there,
        subst (Agrees o n g (moved r (held b) b (Builder (with_claim r y)) m))
            (sym (after-accepted v (steps.Claim b k) none))
            (builder-moved o n g m v u a a.opening b y (with_claim r y) one seat Free (Holding k)
            hand there refl r opened (held b) (Held b) at refl
            (ap (λ i. set v.phases i (Held b)) (number-there o n g m v k r a num))),
      )

  -- ---- 3. the end of a build

  pub finish-shows : (c : OutcomeCode) → y.hand ≡ board.Holding r → IsAt m r (noted b)
      → code_of (g r) ≡ c
      → Agrees o n g (moved r (done b c) b (Builder (with_finish r c y)) m)
      (after v (steps.Finish b (g r)))
  finish-shows c holds at code =
      let x = a.hands b y seat in
      let h = holding-hand (keys_of o) r x.0
      (subst (λ z. SameHand (keys_of o) z x.0) holds x.2) in
      let k = h.0 in
      let num : number_of o k ≡ r = sym (numbered o r k up h.2) in
      let hand : hand_of v b ≡ Some (Holding k) = x.1 ∙ ap (λ (z : Hand). Some z) h.1 in
      let phase = phase-there o n g m v k r (noted b) a num at in
      let none : refusal v (steps.Finish b (g r)) ≡ None =
      ap (finish_refusal v b) hand
      ∙ ap (λ p. refused_if (not (is_noted_by b p)) NotNoted None) phase
      ∙ ap (λ z. refused_if (not z) NotNoted None) (eq-eqb b b refl) in
      let u : WorldView = with_hand (with_phase v k (Done b (g r))) b (Finished k (g r)) in
      subst (Agrees o n g (moved r (done b c) b (Builder (with_finish r c y)) m))
      (sym (after-accepted v (steps.Finish b (g r)) none ∙ ap (finished v b (g r)) hand))
      (builder-moved o n g m v u a a.opening b y (with_finish r c y) one seat (Holding k)
      (Finished k (g r)) hand (h.2, code) refl r (noted b) (done b c) (Done b (g r)) at refl
      (ap (λ i. set v.phases i (Done b (g r))) (number-there o n g m v k r a num)))

  -- ---- 4. a release

  pub release-shows : (c : OutcomeCode) (p : BoardPhase) → IsWorld v
      → y.hand ≡ board.Finished r c → IsAt m r p → p ≢ done b c
      → ((a : ℕ) (d : OutcomeCode) → IsAt m r (done a d) → code_of (g r) ≡ d)
      → Agrees o n g (learned b (Builder (with_free_hand y)) m) (after v (steps.Release b))
  release-shows c p sound ended at other fitting =
      let x = a.hands b y seat in
      let h = finished-hand (keys_of o) r c x.0
      (subst (λ z. SameHand (keys_of o) z x.0) ended x.2) in
      let k = h.0 in
      let num : number_of o k ≡ r = sym (numbered o r k up h.3) in
      let hand : hand_of v b ≡ Some (Finished k h.1) = x.1 ∙ ap (λ (z : Hand). Some z) h.2 in
      let phase = phase-there o n g m v k r p a num at in
      let none : refusal v (steps.Release b) ≡ None =
      ap (release_refusal v b) hand
      ∙ ap (λ z. refused_if (is_done_by b z) NotSettled None) phase
      ∙ ap (λ z. refused_if z NotSettled None) (not-done k h.1 hand h.4 p at other phase) in
      subst (Agrees o n g (learned b (Builder (with_free_hand y)) m))
      (sym (after-accepted v (steps.Release b) none))
      (builder-learned o n g m v (with_hand v b Free) a a.opening b y (with_free_hand y) one seat
      (Finished k h.1) Free hand tt refl refl)
    where
      not-done : (k : Key) (e : Outcome) → hand_of v b ≡ Some (Finished k e) → code_of e ≡ c
          → (p : BoardPhase) → IsAt m r p → p ≢ done b c
          → phase_of v k ≡ Some (phase_as (g r) p)
          → is_done_by b (Some (phase_as (g r) p)) ≡ false
      not-done k e hand code closed at other phase = refl
      not-done k e hand code opened at other phase = refl
      not-done k e hand code (held i) at other phase = refl
      not-done k e hand code (noted i) at other phase = refl
      not-done k e hand code (done i d) at other phase =
          ne_eqb b i (λ own.
          let his : hand_of v i ≡ Some (Finished k (g r)) =
          sound.held k (Done i (g r)) phase in
          let two : Some (Finished k e) ≡ Some (Finished k (g r)) =
          sym hand ∙ ap (hand_of v) own ∙ his in
          let same : e ≡ g r = cc in
          let codes : c ≡ d = sym code ∙ ap code_of same ∙ fitting i d at in
          other (λ j. done (sym own j) (sym codes j)))
