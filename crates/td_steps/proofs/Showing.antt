-- A world that is as the board is stays so, step by step.
use Rattle.std.proofs.Common.{◌≡◌, ◌≢◌, ℕ, zero, suc, ◌-◌, ◌==◌, ◌<◌, ◌≤◌, List, [], ◌∷◌, ◌++◌}
use Rattle.std.proofs.Common.{Option, Some, None, if◌then◌else◌, length, set, slice_get, ap, refl}
use Rattle.std.proofs.Common.{sym, subst, ◌∙◌, ⊎_elim, arith, length-set, length-append}
use mathlib.Core.Option.{some, some-ne-none}
use lib.ListN.{get_elem?}
use Rattle.atomic_table.proofs.Lists.{at_set, at_longer}
use Rattle.td_board.specs.declared.views.BuilderView.{BuilderView}
use Rattle.td_board.specs.declared.views.DeskView.{DeskView}
use Rattle.td_board.specs.declared.views.View.{View}
use Rattle.td_board.specs.declared.views.View.TheVariants.{Desk as DeskSeat, Builder}
use Rattle.td_board.specs.Phase.{Phase as BoardPhase, closed, opened, held, noted, done}
use Rattle.td_board.specs.Knowledge.{new_desk, with_builder, new_builder}
use Rattle.td_board.specs.Steps.{Moment, IsAt, DeskKnows, BuilderKnows, new_board, seated, learned}
use Rattle.td_board.specs.Steps.{moved}
use Rattle.td_board.proofs.Lists.{at_less, one_at, there_is, at_snoc_or_end}
use Rattle.td_board.proofs.RowLaws.{not_both, same_builder}
use Rattle.td_rows.specs.Table.{Table, keys_of}
use Rattle.td_rows.specs.declared.outcome.Outcome.{Outcome}
use Rattle.td_core.specs.declared.step.Phase.{Phase}
use Rattle.td_core.specs.declared.step.Phase.TheVariants.{Closed, Open, Held, Noted, Done}
use Rattle.td_core.specs.declared.step.Hand.{Hand}
use Rattle.td_core.specs.declared.step.Hand.TheVariants.{Free}
use Rattle.td_core.specs.Worlds.{WorldView, hand_in}
use Rattle.td_core.proofs.Hands.{hand_in-put}
use Rattle.td_core.proofs.Phases.{slice_get-set-here, slice_get-set-other}
use Rattle.td_steps.specs.Schedules.{SameHand}

-- a row's phase in a world, by its phase at the board, with the text of its outcome
abbrev pub phase_as : Outcome → BoardPhase → Phase
phase_as o closed = Closed
phase_as o opened = Open
phase_as o (held b) = Held b
phase_as o (noted b) = Noted b
phase_as o (done b c) = Done b o

-- the world is as the board is at the moment, with these outcomes by row, over the opening rows and
-- with so many hands; a builder without a seat yet has nothing in hand
pub record Agrees (o : Table) (n : ℕ) (g : ℕ → Outcome) (m : Moment)
    (w : WorldView) : Type 0 where
  pub opening : w.history.opening ≡ o
  pub sized : length w.phases ≡ length m.phases
  pub crew : length w.hands ≡ n
  pub phases : (r : ℕ) (p : BoardPhase) → IsAt m r p
      → slice_get w.phases r ≡ Some (phase_as (g r) p)
  pub hands : (b : ℕ) (v : BuilderView) → BuilderKnows m b v
      → (x : Hand) × (hand_in w.hands b ≡ Some x) × SameHand (keys_of o) v.hand x
  pub spare : (b : ℕ) → length m.views ≤ b → 0 < b → b ≤ n → hand_in w.hands b ≡ Some Free

-- ---- 1. one phase changes

pub phases-put : (xs : List Phase) (ps : List BoardPhase) (g g' : ℕ → Outcome) (r : ℕ)
    (p₀ p : BoardPhase) (q : Phase)
    → ((s : ℕ) (x : BoardPhase) → get_elem? ps s ≡ some x
    → slice_get xs s ≡ Some (phase_as (g s) x))
    → get_elem? ps r ≡ some p₀ → ((s : ℕ) → s ≢ r → g s ≡ g' s) → q ≡ phase_as (g' r) p
    → (s : ℕ) (x : BoardPhase) → get_elem? (set ps r p) s ≡ some x
    → slice_get (set xs r q) s ≡ Some (phase_as (g' s) x)
phases-put xs ps g g' r p₀ p q old at beside is s x e =
    ⊎_elim
    (λ (t : (s ≡ r) × (p ≡ x)).
    ap (slice_get (set xs r q)) t.0
    ∙ slice_get-set-here xs r (phase_as (g r) p₀) q (old r p₀ at)
    ∙ ap (λ (y : Phase). Some y) (is ∙ (λ j. phase_as (g' (sym t.0 j)) (t.1 j))))
    (λ (t : (s ≢ r) × (get_elem? ps s ≡ some x)).
    slice_get-set-other xs r s q (λ h. t.0 (sym h)) ∙ old s x t.1
    ∙ ap (λ (y : Outcome). Some (phase_as y x)) (beside s t.0))
    (at_set ps r s p x e)

-- on a new board no builder has a seat
pub nobody : (rows b : ℕ) (v : BuilderView) → BuilderKnows (new_board rows) b v → ⊥
nobody rows zero v at =
    not_both (new_desk rows 0) v
    (one_at (DeskSeat (new_desk rows 0) ∷ []) 0 (DeskSeat (new_desk rows 0)) (Builder v) refl at)
nobody rows (suc b) v at = some-ne-none (Builder v) (sym at)

-- what holds of each builder's view holds after a step of the desk
pub desk-hands : (P : ℕ → BuilderView → Type 0) (views : List View) (d : DeskView)
    → ((b : ℕ) (v : BuilderView) → get_elem? views b ≡ some (Builder v) → P b v)
    → (b : ℕ) (v : BuilderView) → get_elem? (set views 0 (DeskSeat d)) b ≡ some (Builder v) → P b v
desk-hands P views d old b v e =
    ⊎_elim
    (λ (t : (b ≡ 0) × (DeskSeat d ≡ Builder v)). absurd (not_both d v t.1))
    (λ (t : (b ≢ 0) × (get_elem? views b ≡ some (Builder v))). old b v t.1)
    (at_set views 0 b (DeskSeat d) (Builder v) e)

module _ (o : Table) (n : ℕ) (g g' : ℕ → Outcome) (m : Moment) (w u : WorldView)
    (a : Agrees o n g m w) (opening : u.history.opening ≡ o) where
  -- a step of the desk that changes a phase
  pub agrees-moved : (r : ℕ) (p₀ p : BoardPhase) (q : Phase) (d : DeskView) → IsAt m r p₀
      → ((s : ℕ) → s ≢ r → g s ≡ g' s) → q ≡ phase_as (g' r) p → u.phases ≡ set w.phases r q
      → u.hands ≡ w.hands → Agrees o n g' (moved r p 0 (DeskSeat d) m) u
  agrees-moved r p₀ p q d at beside is phases hands = record {
    opening = opening;
    sized = ap length phases ∙ length-set w.phases r q ∙ a.sized
        ∙ sym (length-set m.phases r p);
    crew = ap length hands ∙ a.crew;
    phases = λ s x e. ap (λ (l : List Phase). slice_get l s) phases
        ∙ phases-put w.phases m.phases g g' r p₀ p q a.phases at beside is s x e;
    hands = desk-hands
        (λ b v. (x : Hand) × (hand_in u.hands b ≡ Some x) × SameHand (keys_of o) v.hand x) m.views d
        (λ b v e. let t = a.hands b v e in
        (t.0, ap (λ (l : List Hand). hand_in l b) hands ∙ t.1, t.2));
    spare = λ b long pos few. ap (λ (l : List Hand). hand_in l b) hands
        ∙ a.spare b (subst (λ i. i ≤ b) (length-set m.views 0 (DeskSeat d)) long) pos few;
  }

  -- a step of the desk that changes none
  pub agrees-learned : (d : DeskView) → ((s : ℕ) → g s ≡ g' s) → u.phases ≡ w.phases
      → u.hands ≡ w.hands → Agrees o n g' (learned 0 (DeskSeat d) m) u
  agrees-learned d beside phases hands = record {
    opening = opening;
    sized = ap length phases ∙ a.sized;
    crew = ap length hands ∙ a.crew;
    phases = λ s x e. ap (λ (l : List Phase). slice_get l s) phases ∙ a.phases s x e
        ∙ ap (λ (y : Outcome). Some (phase_as y x)) (beside s);
    hands = desk-hands
        (λ b v. (x : Hand) × (hand_in u.hands b ≡ Some x) × SameHand (keys_of o) v.hand x) m.views d
        (λ b v e. let t = a.hands b v e in
        (t.0, ap (λ (l : List Hand). hand_in l b) hands ∙ t.1, t.2));
    spare = λ b long pos few. ap (λ (l : List Hand). hand_in l b) hands
        ∙ a.spare b (subst (λ i. i ≤ b) (length-set m.views 0 (DeskSeat d)) long) pos few;
  }

  -- no step at the board
  pub agrees-quiet : ((s : ℕ) → g s ≡ g' s) → u.phases ≡ w.phases → u.hands ≡ w.hands
      → Agrees o n g' m u
  agrees-quiet beside phases hands = record {
    opening = opening;
    sized = ap length phases ∙ a.sized;
    crew = ap length hands ∙ a.crew;
    phases = λ s x e. ap (λ (l : List Phase). slice_get l s) phases ∙ a.phases s x e
        ∙ ap (λ (y : Outcome). Some (phase_as y x)) (beside s);
    hands = λ b v e. let t = a.hands b v e in
        (t.0, ap (λ (l : List Hand). hand_in l b) hands ∙ t.1, t.2);
    spare = λ b long pos few. ap (λ (l : List Hand). hand_in l b) hands ∙ a.spare b long pos few;
  }

-- ---- 2. a builder's step

pos_hand : (hands : List Hand) (c : ℕ) (x : Hand) → hand_in hands c ≡ Some x → 0 < c
pos_hand hands zero x h = cc
pos_hand hands (suc c) x h = omega arith

hand-else : (hands : List Hand) (b c : ℕ) (y : Hand) → 0 < b → 0 < c → c ≢ b
    → hand_in (set hands (b - 1) y) c ≡ hand_in hands c
hand-else hands b c y one two apart =
    ap (λ (l : Option Hand). if c == 0 then None else l)
    (slice_get-set-other hands (b - 1) (c - 1) y (λ e. apart (omega (arith, e))))

module _ (o : Table) (n : ℕ) (g : ℕ → Outcome) (m : Moment) (w u : WorldView)
    (a : Agrees o n g m w) (opening : u.history.opening ≡ o) (b : ℕ) (v v' : BuilderView)
    (one : 0 < b) (seat : BuilderKnows m b v) where
  -- it has another thing in hand
  module _ (x x' : Hand) (had : hand_in w.hands b ≡ Some x) (has : SameHand (keys_of o) v'.hand x')
      (hands : u.hands ≡ set w.hands (b - 1) x') where
    builder-hands : (c : ℕ) (y : BuilderView)
        → get_elem? (set m.views b (Builder v')) c ≡ some (Builder y)
        → (h : Hand) × (hand_in u.hands c ≡ Some h) × SameHand (keys_of o) y.hand h
    builder-hands c y e =
        ⊎_elim
        (λ (t : (c ≡ b) × (Builder v' ≡ Builder y)). (
          x',
          ap (λ (l : List Hand). hand_in l c) hands
              ∙ ap (hand_in (set w.hands (b - 1) x')) t.0 ∙ hand_in-put w.hands b x x' had,
          subst (λ (z : BuilderView). SameHand (keys_of o) z.hand x') (same_builder v' y t.1) has,
        ))
        (λ (t : (c ≢ b) × (get_elem? m.views c ≡ some (Builder y))).
        let h = a.hands c y t.1 in (
          h.0,
          ap (λ (l : List Hand). hand_in l c) hands
              ∙ hand-else w.hands b c x' one (pos_hand w.hands c h.0 h.1) t.0 ∙ h.1,
          h.2,
        ))
        (at_set m.views b c (Builder v') (Builder y) e)

    builder-spare : (c : ℕ) → length (set m.views b (Builder v')) ≤ c → 0 < c → c ≤ n
        → hand_in u.hands c ≡ Some Free
    builder-spare c long pos few =
        let long' : length m.views ≤ c =
        subst (λ i. i ≤ c) (length-set m.views b (Builder v')) long in
        let within : b < length m.views = at_less m.views b (Builder v) seat in
        ap (λ (l : List Hand). hand_in l c) hands
        ∙ hand-else w.hands b c x' one pos (λ e. omega (arith, long', within, e))
        ∙ a.spare c long' pos few

    pub builder-moved : (r : ℕ) (p₀ p : BoardPhase) (q : Phase) → IsAt m r p₀
        → q ≡ phase_as (g r) p → u.phases ≡ set w.phases r q
        → Agrees o n g (moved r p b (Builder v') m) u
    builder-moved r p₀ p q at is phases = record {
      opening = opening;
      sized = ap length phases ∙ length-set w.phases r q ∙ a.sized
          ∙ sym (length-set m.phases r p);
      crew = ap length hands ∙ length-set w.hands (b - 1) x' ∙ a.crew;
      phases = λ s y e. ap (λ (l : List Phase). slice_get l s) phases
          ∙ phases-put w.phases m.phases g g r p₀ p q a.phases at (λ i _. refl) is s y e;
      hands = builder-hands;
      spare = builder-spare;
    }

    pub builder-learned : u.phases ≡ w.phases → Agrees o n g (learned b (Builder v') m) u
    builder-learned phases = record {
      opening = opening;
      sized = ap length phases ∙ a.sized;
      crew = ap length hands ∙ length-set w.hands (b - 1) x' ∙ a.crew;
      phases = λ s y e. ap (λ (l : List Phase). slice_get l s) phases ∙ a.phases s y e;
      hands = builder-hands;
      spare = builder-spare;
    }

-- a try of a builder's that moves nothing
pub agrees-tried : (o : Table) (n : ℕ) (g : ℕ → Outcome) (m : Moment) (w : WorldView)
    (b : ℕ) (v v' : BuilderView) → Agrees o n g m w → BuilderKnows m b v → v'.hand ≡ v.hand
    → Agrees o n g (learned b (Builder v') m) w
agrees-tried o n g m w b v v' a seat same = record {
  opening = a.opening;
  sized = a.sized;
  crew = a.crew;
  phases = a.phases;
  hands = λ c y e.
      ⊎_elim
      (λ (t : (c ≡ b) × (Builder v' ≡ Builder y)).
      let h = a.hands b v seat in (
        h.0,
        ap (hand_in w.hands) t.0 ∙ h.1,
        subst (λ z. SameHand (keys_of o) z h.0)
            (sym same ∙ ap (λ (z : BuilderView). z.hand) (same_builder v' y t.1)) h.2,
      ))
      (λ (t : (c ≢ b) × (get_elem? m.views c ≡ some (Builder y))). a.hands c y t.1)
      (at_set m.views b c (Builder v') (Builder y) e);
  spare = λ c long pos few.
      a.spare c (subst (λ i. i ≤ c) (length-set m.views b (Builder v')) long) pos few;
}

-- ---- 3. a seat more

pub agrees-seated : (o : Table) (n : ℕ) (g : ℕ → Outcome) (m : Moment) (w : WorldView)
    (d : DeskView) → Agrees o n g m w → DeskKnows m d → length m.views ≤ n
    → Agrees o n g (seated d m) w
agrees-seated o n g m w d a seat few =
    let d' : DeskView = with_builder d in
    let vs : List View = set m.views 0 (DeskSeat d') in
    let new : BuilderView = new_builder (suc (length d.noted)) in
    let same : length vs ≡ length m.views = length-set m.views 0 (DeskSeat d') in
    let some_views : 0 < length m.views = at_less m.views 0 (DeskSeat d) seat in
    record {
      opening = a.opening;
      sized = a.sized;
      crew = a.crew;
      phases = a.phases;
      hands = λ c y e.
          ⊎_elim
          (λ (h : c < length vs).
          let t = there_is vs c h in
          let is : Builder y ≡ t.0 = one_at (vs ++ Builder new ∷ []) c (Builder y) t.0 e
          (at_longer vs (Builder new ∷ []) c t.0 t.1) in
          desk-hands
          (λ c v. (x : Hand) × (hand_in w.hands c ≡ Some x) × SameHand (keys_of o) v.hand x) m.views
          d' a.hands c y (t.1 ∙ ap some (sym is)))
          (λ (t : (c ≡ length vs) × (Builder new ≡ Builder y)).
          let at : c ≡ length m.views = t.0 ∙ same in (
            Free,
            a.spare c (omega (arith, at)) (omega (arith, at, some_views)) (omega (arith, at, few)),
            subst (λ (z : BuilderView). SameHand (keys_of o) z.hand Free)
                (same_builder new y t.1) tt,
          ))
          (at_snoc_or_end vs (Builder new) (Builder y) c e);
      spare = λ c long pos least.
          let more = length-append vs (Builder new ∷ []) in
          a.spare c (omega (arith, long, more, same)) pos least;
    }
