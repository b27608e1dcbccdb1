-- A step on one row keeps the rule, as far as the other rows, hands and lists go.
use Rattle.std.proofs.Common.{◌≡◌, ◌≢◌, ℕ, zero, suc, List, length, set, sym, refl, ap, ◌∙◌, subst}
use Rattle.std.proofs.Common.{⊎_elim, inl, inr, arith, length-set}
use mathlib.Core.Logic.{dite}
use mathlib.Core.Option.{some}
use native.Mathlib.Decide.{ℕ_discrete}
use lib.ListN.{get_elem?}
use Rattle.atomic_table.proofs.Lists.{at_set, set_here, set_else}
use Rattle.td_board.specs.declared.views.RowView.{RowView}
use Rattle.td_board.specs.declared.views.RowView.TheVariants.{In, Out, Seen}
use Rattle.td_board.specs.declared.views.Deed.{Deed}
use Rattle.td_board.specs.declared.views.DeskTry.{DeskTry}
use Rattle.td_board.specs.declared.views.Hand.{Hand}
use Rattle.td_board.specs.declared.views.Hand.TheVariants.{Free, Holding, Finished}
use Rattle.td_board.specs.declared.views.DeskView.{DeskView}
use Rattle.td_board.specs.declared.views.BuilderView.{BuilderView}
use Rattle.td_board.specs.declared.views.View.{View}
use Rattle.td_board.specs.declared.views.View.TheVariants.{Desk, Builder}
use Rattle.td_board.specs.Phase.{Phase, closed, opened, held, noted, done, builder_of}
use Rattle.td_board.specs.Rule.{RowFits, HasHand, HandFits, ListFits, BuilderFits, Fits}
use Rattle.td_board.proofs.Lists.{at_less, one_at, there_is}

-- another row's phase stays
stays : (phases : List Phase) (r₀ : ℕ) (p₀ p₁ : Phase) (r : ℕ) (q : Phase)
    → get_elem? phases r₀ ≡ some p₀ → builder_of p₀ ≢ builder_of q → get_elem? phases r ≡ some q
    → get_elem? (set phases r₀ p₁) r ≡ some q
stays phases r₀ p₀ p₁ r q at apart e =
    set_else phases r₀ r p₁
    (λ h. apart (ap builder_of
    (one_at phases r₀ p₀ q at (subst (λ i. get_elem? phases i ≡ some q) h e)))) ∙ e

-- a builder that neither the phase before nor the phase after names is not touched
pub untouched : (phases : List Phase) (r₀ : ℕ) (p₀ p₁ : Phase) (b : ℕ) (hand : Hand)
    (known mine : List Deed) → get_elem? phases r₀ ≡ some p₀ → builder_of p₀ ≢ b → builder_of p₁ ≢ b
    → ListFits phases b hand known mine → ListFits (set phases r₀ p₁) b hand known mine
untouched phases r₀ p₀ p₁ b Free known mine at before after fits = fits
untouched phases r₀ p₀ p₁ b (Holding r) known mine at before after (inl t) =
    inl (stays phases r₀ p₀ p₁ r (held b) at before t.0, t.1)
untouched phases r₀ p₀ p₁ b (Holding r) known mine at before after (inr t) =
    inr (stays phases r₀ p₀ p₁ r (noted b) at before t.0, t.1)
untouched phases r₀ p₀ p₁ b (Finished r c) known mine at before after (inl t) =
    inl (stays phases r₀ p₀ p₁ r (done b c) at before t.0, t.1)
untouched phases r₀ p₀ p₁ b (Finished r c) known mine at before after (inr t) =
    dite (ℕ_discrete r r₀)
    (λ e. inr (
      p₁,
      (ap (get_elem? (set phases r₀ p₁)) e ∙ set_here phases r₀ p₁ (at_less phases r₀ p₀ at)),
      (λ (h : p₁ ≡ done b c). after (ap builder_of h)),
      t.3,
    ))
    (λ ne. inr (t.0, (set_else phases r₀ r p₁ ne ∙ t.1), t.2, t.3))

-- the seat i is not the one that the phase names
abbrev pub Avoids : ℕ → Phase → Type 0
Avoids i closed = Unit {0}
Avoids i opened = Unit {0}
Avoids i (held b) = b ≢ i
Avoids i (noted b) = b ≢ i
Avoids i (done b c) = b ≢ i

-- another seat's view changes, and the hand stays
pub hand_stays : (views : List View) (i : ℕ) (w : View) (b : ℕ) (h : Hand) → b ≢ i
    → HasHand views b h → HasHand (set views i w) b h
hand_stays views i w b h apart t = (t.0, set_else views i b w apart ∙ t.1, t.2)

-- the same for the hand that a phase names
pub hands_after : (views : List View) (i : ℕ) (w : View) (r : ℕ) (p : Phase) → Avoids i p
    → HandFits views r p → HandFits (set views i w) r p
hands_after views i w r closed a f = tt
hands_after views i w r opened a f = tt
hands_after views i w r (held b) a f = hand_stays views i w b (Holding r) a f
hands_after views i w r (noted b) a f = hand_stays views i w b (Holding r) a f
hands_after views i w r (done b c) a f = hand_stays views i w b (Finished r c) a f

-- a seat is the desk's or a builder's
pub not_both : (d : DeskView) (v : BuilderView) → Desk d ≡ Builder v → ⊥
not_both d v e = cc

-- no phase names the desk's seat
pub not_desk : (views : List View) (d : DeskView) (r : ℕ) (p : Phase)
    → get_elem? views 0 ≡ some (Desk d) → HandFits views r p → Avoids 0 p
not_desk views d r closed at f = tt
not_desk views d r opened at f = tt
not_desk views d r (held b) at f =
    λ e. not_both d f.0 (one_at views 0 (Desk d) (Builder f.0) at
    (subst (λ i. get_elem? views i ≡ some (Builder f.0)) e f.1))
not_desk views d r (noted b) at f =
    λ e. not_both d f.0 (one_at views 0 (Desk d) (Builder f.0) at
    (subst (λ i. get_elem? views i ≡ some (Builder f.0)) e f.1))
not_desk views d r (done b c) at f =
    λ e. not_both d f.0 (one_at views 0 (Desk d) (Builder f.0) at
    (subst (λ i. get_elem? views i ≡ some (Builder f.0)) e f.1))

-- a step of the desk on one row
pub desk_moves : (rows : ℕ) (phases : List Phase) (d : DeskView) (views : List View) (r₀ : ℕ)
    (p₀ p₁ : Phase) (x₁ : RowView) (lists : List (List Deed)) (tries : List DeskTry)
    → Fits rows phases d views → get_elem? phases r₀ ≡ some p₀ → RowFits x₁ p₁
    → HandFits views r₀ p₁ → length lists ≡ length d.noted
    → ((k : ℕ) (w : View) → get_elem? views (suc k) ≡ some w → BuilderFits phases d.noted k w
    → BuilderFits (set phases r₀ p₁) lists k w)
    → let d' : DeskView = record { rows = set d.rows r₀ x₁; noted = lists; tried = tries } in
    Fits rows (set phases r₀ p₁) d' (set views 0 (Desk d'))
desk_moves rows phases d views r₀ p₀ p₁ x₁ lists tries f at row hand same builders =
    let d' : DeskView = record { rows = set d.rows r₀ x₁; noted = lists; tried = tries } in
    let many = f.many in
    record {
      long = length-set phases r₀ p₁ ∙ f.long;
      wide = length-set d.rows r₀ x₁ ∙ f.wide;
      first = set_here views 0 (Desk d') (omega arith);
      many = length-set views 0 (Desk d') ∙ (f.many ∙ ap suc (sym same));
      each_row = λ r p x a e. ⊎_elim
          (λ (t : (r ≡ r₀) × (p₁ ≡ p)). ⊎_elim
          (λ (u : (r ≡ r₀) × (x₁ ≡ x)).
          subst (λ (z : RowView × Phase). RowFits z.0 z.1) (λ i. (u.1 i, t.1 i)) row)
          (λ (u : (r ≢ r₀) × (get_elem? d.rows r ≡ some x)). absurd (u.0 t.0))
          (at_set d.rows r₀ r x₁ x e))
          (λ (t : (r ≢ r₀) × (get_elem? phases r ≡ some p)). ⊎_elim
          (λ (u : (r ≡ r₀) × (x₁ ≡ x)). absurd (t.0 u.0))
          (λ (u : (r ≢ r₀) × (get_elem? d.rows r ≡ some x)). f.each_row r p x t.1 u.1)
          (at_set d.rows r₀ r x₁ x e))
          (at_set phases r₀ r p₁ p a);
      each_hand = λ r p a.
          let now : HandFits views r p = ⊎_elim
          (λ (t : (r ≡ r₀) × (p₁ ≡ p)).
          subst (λ (z : ℕ × Phase). HandFits views z.0 z.1) (λ i. (sym t.0 i, t.1 i)) hand)
          (λ (t : (r ≢ r₀) × (get_elem? phases r ≡ some p)). f.each_hand r p t.1)
          (at_set phases r₀ r p₁ p a) in
          hands_after views 0 (Desk d') r p (not_desk views d r p f.first now) now;
      each_builder = λ k w e.
          let was : get_elem? views (suc k) ≡ some w =
          sym (set_else views 0 (suc k) (Desk d') (λ h. omega arith)) ∙ e in
          builders k w was (f.each_builder k w was);
    }

-- a builder's view is in its seat's
pub same_builder : (v u : BuilderView) → Builder v ≡ Builder u → v ≡ u
same_builder v u e = cc

-- the desk's view is in its seat's
pub same_desk : (d e : DeskView) → Desk d ≡ Desk e → d ≡ e
same_desk d e h = cc

-- a builder has one hand
pub same_hand : (views : List View) (b : ℕ) (v : BuilderView) (h : Hand)
    → get_elem? views b ≡ some (Builder v) → HasHand views b h → v.hand ≡ h
same_hand views b v h at t =
    ap (λ (u : BuilderView). u.hand)
    (same_builder v t.0 (one_at views b (Builder v) (Builder t.0) at t.1)) ∙ t.2

-- a step of builder k + 1 on one row
pub builder_moves : (rows : ℕ) (phases : List Phase) (d : DeskView) (views : List View) (r₀ : ℕ)
    (p₀ p₁ : Phase) (k : ℕ) (v v' : BuilderView)
    → Fits rows phases d views → get_elem? phases r₀ ≡ some p₀
    → get_elem? views (suc k) ≡ some (Builder v) → v'.number ≡ v.number
    → ((x : RowView) → RowFits x p₀ → RowFits x p₁)
    → HandFits (set views (suc k) (Builder v')) r₀ p₁
    → ((r : ℕ) (p : Phase) → r ≢ r₀ → get_elem? phases r ≡ some p → Avoids (suc k) p)
    → ((j : ℕ) (h : Hand) (known mine : List Deed) → j ≢ k → ListFits phases (suc j) h known mine
    → ListFits (set phases r₀ p₁) (suc j) h known mine)
    → ((known : List Deed) → ListFits phases (suc k) v.hand known v.mine
    → ListFits (set phases r₀ p₁) (suc k) v'.hand known v'.mine)
    → Fits rows (set phases r₀ p₁) d (set views (suc k) (Builder v'))
builder_moves rows phases d views r₀ p₀ p₁ k v v' f at seat same row hand apart others mine =
    record {
      long = length-set phases r₀ p₁ ∙ f.long;
      wide = f.wide;
      first = set_else views (suc k) 0 (Builder v') (λ h. omega arith) ∙ f.first;
      many = length-set views (suc k) (Builder v') ∙ f.many;
      each_row = λ r p x a e. ⊎_elim
          (λ (t : (r ≡ r₀) × (p₁ ≡ p)).
          subst (RowFits x) t.1
          (row x (f.each_row r₀ p₀ x at (subst (λ i. get_elem? d.rows i ≡ some x) t.0 e))))
          (λ (t : (r ≢ r₀) × (get_elem? phases r ≡ some p)). f.each_row r p x t.1 e)
          (at_set phases r₀ r p₁ p a);
      each_hand = λ r p a. ⊎_elim
          (λ (t : (r ≡ r₀) × (p₁ ≡ p)).
          subst (λ (z : ℕ × Phase). HandFits (set views (suc k) (Builder v')) z.0 z.1)
          (λ i. (sym t.0 i, t.1 i)) hand)
          (λ (t : (r ≢ r₀) × (get_elem? phases r ≡ some p)).
          hands_after views (suc k) (Builder v') r p (apart r p t.0 t.1) (f.each_hand r p t.1))
          (at_set phases r₀ r p₁ p a);
      each_builder = λ j w e. ⊎_elim
          (λ (t : (suc j ≡ suc k) × (Builder v' ≡ w)).
          let old = f.each_builder k (Builder v) seat in
          let is : v ≡ old.view = same_builder v old.view old.is in
          let here : k ≡ j = omega arith in
          let fits : BuilderFits (set phases r₀ p₁) d.noted k (Builder v') = record {
            view = v';
            known = old.known;
            is = refl;
            at = old.at;
            number = same ∙ (ap (λ (u : BuilderView). u.number) is ∙ old.number);
            listed = mine old.known
                (subst (λ (u : BuilderView). ListFits phases (suc k) u.hand old.known u.mine)
                (sym is) old.listed);
          } in
          subst (λ (z : ℕ × View). BuilderFits (set phases r₀ p₁) d.noted z.0 z.1)
          (λ i. (here i, t.1 i)) fits)
          (λ (t : (suc j ≢ suc k) × (get_elem? views (suc j) ≡ some w)).
          let old = f.each_builder j w t.1 in
          record {
            view = old.view;
            known = old.known;
            is = old.is;
            at = old.at;
            number = old.number;
            listed =
                others j old.view.hand old.known old.view.mine (λ h. t.0 (ap suc h)) old.listed;
          })
          (at_set views (suc k) (suc j) (Builder v') w e);
    }

-- the desk's seat is the first one
pub desk_seat : (rows : ℕ) (phases : List Phase) (d₀ : DeskView) (views : List View) (i : ℕ)
    (d : DeskView) → Fits rows phases d₀ views → get_elem? views i ≡ some (Desk d)
    → (i ≡ 0) × (d₀ ≡ d)
desk_seat rows phases d₀ views zero d f at =
    (refl, same_desk d₀ d (one_at views 0 (Desk d₀) (Desk d) f.first at))
desk_seat rows phases d₀ views (suc k) d f at =
    let old = f.each_builder k (Desk d) at in absurd (not_both d old.view old.is)

-- a builder's seat has its number
pub builder_seat : (rows : ℕ) (phases : List Phase) (d₀ : DeskView) (views : List View) (i : ℕ)
    (v : BuilderView) → Fits rows phases d₀ views → get_elem? views i ≡ some (Builder v)
    → (k : ℕ) × (i ≡ suc k) × (v.number ≡ suc k)
builder_seat rows phases d₀ views zero v f at =
    absurd (not_both d₀ v (one_at views 0 (Desk d₀) (Builder v) f.first at))
builder_seat rows phases d₀ views (suc k) v f at =
    let old = f.each_builder k (Builder v) at in
    (k, refl, ap (λ (u : BuilderView). u.number) (same_builder v old.view old.is) ∙ old.number)

-- the phases that fit what the desk knows
pub in_closed : (p : Phase) → RowFits In p → p ≡ closed
in_closed closed f = refl
in_closed opened f = absurd f
in_closed (held b) f = absurd f
in_closed (noted b) f = absurd f
in_closed (done b c) f = absurd f

-- the phase of a row that is Out
pub data OutPhase (p : Phase) : Type 0 where
  is_open : p ≡ opened → OutPhase p
  is_held : (b : ℕ) → p ≡ held b → OutPhase p

-- it is open or held
pub out_phase : (p : Phase) → RowFits Out p → OutPhase p
out_phase closed f = absurd f
out_phase opened f = is_open refl
out_phase (held b) f = is_held b refl
out_phase (noted b) f = absurd f
out_phase (done b c) f = absurd f

-- the phase of a row that is Seen
pub seen_held : (a : ℕ) (p : Phase) → RowFits (Seen a) p → p ≡ held a
seen_held a closed f = absurd f
seen_held a opened f = absurd f
seen_held a (held b) f = ap held (sym f)
seen_held a (noted b) f = absurd f
seen_held a (done b c) f = absurd f

-- a row that the desk knows is in a phase that fits
pub phase_at : (rows : ℕ) (phases : List Phase) (d : DeskView) (views : List View) (r : ℕ)
    (x : RowView) → Fits rows phases d views → get_elem? d.rows r ≡ some x
    → (p : Phase) × (get_elem? phases r ≡ some p) × RowFits x p
phase_at rows phases d views r x f e =
    let long = f.long in let wide = f.wide in let h = at_less d.rows r x e in
    let t = there_is phases r (omega arith) in
    (t.0, t.1, f.each_row r t.0 x t.1 e)
