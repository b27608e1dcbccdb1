-- What the desk sees of a world in which one phase changes.
use Rattle.std.proofs.Common.{◌≡◌, ℕ, zero, suc, true, false, ◌==◌, List, [], ◌∷◌, Some, length}
use Rattle.std.proofs.Common.{slice_get, set, ap, refl, sym, subst, ◌∙◌, arith, true≢false, eq-eqb}
use Rattle.std.proofs.Common.{eqb-true}
use Rattle.std.proofs.lemmas.List.{length-set}
use Rattle.std.proofs.lemmas.Option.{same_Some}
use Rattle.td_board.specs.declared.views.RowView.{RowView}
use Rattle.td_board.specs.declared.views.RowView.TheVariants.{In, Out, Seen, Known}
use Rattle.td_rows.specs.declared.key.Key.{Key}
use Rattle.td_rows.specs.declared.outcome.Outcome.{Outcome}
use Rattle.td_change.specs.Saved.{number_of}
use Rattle.td_core.specs.declared.step.Phase.{Phase}
use Rattle.td_core.specs.declared.step.Phase.TheVariants.{Closed, Open, Held, Noted, Done}
use Rattle.td_core.specs.declared.step.Hand.{Hand}
use Rattle.td_core.specs.History.{History}
use Rattle.td_core.specs.Phases.{is_pinned}
use Rattle.td_core.specs.Worlds.{WorldView, phase_of, with_phase, with_hand, IsWorld}
use Rattle.td_core.proofs.Phases.{slice_get-set, slice_get-set-other}
use Rattle.td_steps.specs.Sees.{Desk, view_of, with_view, Fits, FitAll, Sees, is_off}

-- ---- 1. views and phases, row by row

-- lists of one length have items at the same places
pub paired : {A B : Type 0} (xs : List A) (ys : List B) (i : ℕ) (x : A) → length xs ≡ length ys
    → slice_get xs i ≡ Some x → (y : B) × (slice_get ys i ≡ Some y)
paired [] ys i x e at = absurd (cc)
paired (z ∷ xs) [] i x e at = absurd (cc)
paired (z ∷ xs) (y ∷ ys) zero x e at = (y, refl)
paired (z ∷ xs) (y ∷ ys) (suc i) x e at =
    paired xs ys i x (let s : suc (length xs) ≡ suc (length ys) = e in omega (arith, s)) at

-- a row of which the phase and what is known of it change
pub fit-both : (vs : List RowView) (ps : List Phase) (i : ℕ) (v : RowView) (p : Phase) → Fits v p
    → FitAll vs ps → FitAll (set vs i v) (set ps i p)
fit-both vs ps i v p here all j x q view phase = elim (i == j) as (λ b. (i == j) ≡ b → Fits x q) [
  | true ↦ λ e.
      let same = eqb-true i j e in
      let v_is : v ≡ x = slice_get-set vs i v x (ap (slice_get (set vs i v)) same ∙ view) in
      let p_is : p ≡ q = slice_get-set ps i p q (ap (slice_get (set ps i p)) same ∙ phase) in
      subst (λ (y : Phase). Fits x y) p_is (subst (λ (y : RowView). Fits y p) v_is here)
  | false ↦ λ e.
      let apart : i ≡ j → ⊥ = λ s. true≢false (sym (eq-eqb i j s) ∙ e) in
      all j x q (sym (slice_get-set-other vs i j v apart) ∙ view)
      (sym (slice_get-set-other ps i j p apart) ∙ phase)
] refl

fit-view : (vs : List RowView) (ps : List Phase) (i : ℕ) (v : RowView) (p : Phase)
    → slice_get ps i ≡ Some p → Fits v p → FitAll vs ps → FitAll (set vs i v) ps
fit-view vs ps i v p there here all j x q view phase =
    elim (i == j) as (λ b. (i == j) ≡ b → Fits x q) [
      | true ↦ λ e.
          let same = eqb-true i j e in
          let v_is : v ≡ x = slice_get-set vs i v x (ap (slice_get (set vs i v)) same ∙ view) in
          let p_is : p ≡ q = same_Some p q (sym there ∙ ap (slice_get ps) same ∙ phase) in
          subst (λ (y : Phase). Fits x y) p_is (subst (λ (y : RowView). Fits y p) v_is here)
      | false ↦ λ e.
          let apart : i ≡ j → ⊥ = λ s. true≢false (sym (eq-eqb i j s) ∙ e) in
          all j x q (sym (slice_get-set-other vs i j v apart) ∙ view) phase
    ] refl

fit-phase : (vs : List RowView) (ps : List Phase) (i : ℕ) (p q : Phase) → slice_get ps i ≡ Some p
    → ((v : RowView) → Fits v p → Fits v q) → FitAll vs ps → FitAll vs (set ps i q)
fit-phase vs ps i p q there more all j x y view phase =
    elim (i == j) as (λ b. (i == j) ≡ b → Fits x y) [
      | true ↦ λ e.
          let same = eqb-true i j e in
          let q_is : q ≡ y = slice_get-set ps i q y (ap (slice_get (set ps i q)) same ∙ phase) in
          subst (λ (z : Phase). Fits x z) q_is
          (more x (all j x p view (ap (slice_get ps) (sym same) ∙ there)))
      | false ↦ λ e.
          let apart : i ≡ j → ⊥ = λ s. true≢false (sym (eq-eqb i j s) ∙ e) in
          all j x y view (sym (slice_get-set-other ps i j q apart) ∙ phase)
    ] refl

-- ---- 2. of a desk and a world

pub numbers_alike : (w : WorldView) (d : Desk) (k : Key) → Sees w d
    → number_of d.history.opening k ≡ number_of w.history.opening k
numbers_alike w d k i = ap (λ (h : History). number_of h.opening k) (sym i.history)

-- the phase of a row of which the desk knows something
pub phase_seen : (w : WorldView) (d : Desk) (k : Key) (v : RowView) → Sees w d
    → view_of d k ≡ Some v → (p : Phase) × (phase_of w k ≡ Some p) × Fits v p
phase_seen w d k v i view =
    let at : slice_get d.view (number_of w.history.opening k) ≡ Some v =
    ap (slice_get d.view) (sym (numbers_alike w d k i)) ∙ view in
    let there = paired d.view w.phases (number_of w.history.opening k) v i.sized at in
    (there.0, there.1, i.fits (number_of w.history.opening k) v there.0 at there.1)

-- what the desk knows of a row with a phase
pub view_seen : (w : WorldView) (d : Desk) (k : Key) (p : Phase) → Sees w d → phase_of w k ≡ Some p
    → (v : RowView) × (view_of d k ≡ Some v) × Fits v p
view_seen w d k p i phase =
    let there = paired w.phases d.view (number_of w.history.opening k) p (sym i.sized) phase in (
      there.0,
      ap (slice_get d.view) (numbers_alike w d k i) ∙ there.1,
      i.fits (number_of w.history.opening k) there.0 p there.1 phase,
    )

-- the phase of a row and what is known of it change
pub both_seen : (w : WorldView) (d : Desk) (k : Key) (v : RowView) (p : Phase) → Sees w d
    → IsWorld (with_phase w k p) → Fits v p → Sees (with_phase w k p) (with_view d k v)
both_seen w d k v p i sound here = record {
  sound = sound;
  history = i.history;
  supply = i.supply;
  builders = i.builders;
  sized = length-set d.view _ v ∙ i.sized ∙ sym (length-set w.phases _ p);
  fits = subst (λ (n : ℕ). FitAll (set d.view n v) (set w.phases (number_of w.history.opening k) p))
      (sym (numbers_alike w d k i))
      (fit-both d.view w.phases (number_of w.history.opening k) v p here i.fits);
}

-- what is known of it alone
pub one_seen : (w : WorldView) (d : Desk) (k : Key) (v : RowView) (p : Phase) → Sees w d
    → phase_of w k ≡ Some p → Fits v p → Sees w (with_view d k v)
one_seen w d k v p i phase here = record {
  sound = i.sound;
  history = i.history;
  supply = i.supply;
  builders = i.builders;
  sized = length-set d.view _ v ∙ i.sized;
  fits = subst (λ (n : ℕ). FitAll (set d.view n v) w.phases) (sym (numbers_alike w d k i))
      (fit-view d.view w.phases (number_of w.history.opening k) v p phase here i.fits);
}

-- a builder's hand, and the row's phase to another that fits what is known of it
pub taken_seen : (w : WorldView) (d : Desk) (k : Key) (p q : Phase) (b : ℕ) (h : Hand) → Sees w d
    → IsWorld (with_hand (with_phase w k q) b h) → phase_of w k ≡ Some p
    → ((v : RowView) → Fits v p → Fits v q) → Sees (with_hand (with_phase w k q) b h) d
taken_seen w d k p q b h i sound phase more = record {
  sound = sound;
  history = i.history;
  supply = i.supply;
  builders = length-set w.hands _ h ∙ i.builders;
  sized = i.sized ∙ sym (length-set w.phases _ q);
  fits = fit-phase d.view w.phases (number_of w.history.opening k) p q phase more i.fits;
}

-- a builder's hand alone
pub hand_changed : (w : WorldView) (d : Desk) (b : ℕ) (h : Hand) → Sees w d
    → IsWorld (with_hand w b h) → Sees (with_hand w b h) d
hand_changed w d b h i sound = record {
  sound = sound;
  history = i.history;
  supply = i.supply;
  builders = length-set w.hands _ h ∙ i.builders;
  sized = i.sized;
  fits = i.fits;
}

-- ---- 3. what goes with what

pub fits-in : (p : Phase) → Fits In p → p ≡ Closed
fits-in Closed h = refl
fits-in Open h = elim h [ ]
fits-in (Held b) h = elim h [ ]
fits-in (Noted b) h = elim h [ ]
fits-in (Done b o) h = elim h [ ]

pub fits-seen : (b : ℕ) (p : Phase) → Fits (Seen b) p → p ≡ Held b
fits-seen b Closed h = elim h [ ]
fits-seen b Open h = elim h [ ]
fits-seen b (Held c) h = ap (λ (x : ℕ). Held x) (sym h)
fits-seen b (Noted c) h = elim h [ ]
fits-seen b (Done c o) h = elim h [ ]

pub fits-off : (v : RowView) (p : Phase) → Fits v p → is_off (Some v) ≡ true → is_pinned p ≡ true
fits-off v Closed h off = refl
fits-off In Open h off = elim h [ ]
fits-off Out Open h off = cc
fits-off (Seen b) Open h off = cc
fits-off (Known b) Open h off = elim h [ ]
fits-off In (Held c) h off = elim h [ ]
fits-off Out (Held c) h off = cc
fits-off (Seen b) (Held c) h off = cc
fits-off (Known b) (Held c) h off = elim h [ ]
fits-off v (Noted c) h off = refl
fits-off v (Done c o) h off = refl

pub open-held : (b : ℕ) (v : RowView) → Fits v Open → Fits v (Held b)
open-held b In h = elim h [ ]
open-held b Out h = tt
open-held b (Seen c) h = elim h [ ]
open-held b (Known c) h = elim h [ ]

pub noted-done : (b : ℕ) (o : Outcome) (v : RowView) → Fits v (Noted b) → Fits v (Done b o)
noted-done b o In h = elim h [ ]
noted-done b o Out h = elim h [ ]
noted-done b o (Seen c) h = elim h [ ]
noted-done b o (Known c) h = h
