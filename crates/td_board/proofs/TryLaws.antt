-- A try that moves nothing keeps the rule: its seat's view has one try more, and nothing else.
use Rattle.std.proofs.Common.{◌≡◌, ◌≢◌, ℕ, suc, List, set, sym, ap, ◌∙◌, subst}
use Rattle.std.proofs.Common.{⊎_elim, arith, length-set}
use mathlib.Core.Logic.{dite}
use mathlib.Core.Option.{some}
use native.Mathlib.Decide.{ℕ_discrete}
use lib.ListN.{get_elem?}
use Rattle.atomic_table.proofs.Lists.{at_set, set_here, set_else}
use Rattle.td_board.specs.declared.views.DeskTry.{DeskTry}
use Rattle.td_board.specs.declared.views.BuilderTry.{BuilderTry}
use Rattle.td_board.specs.declared.views.Hand.{Hand}
use Rattle.td_board.specs.declared.views.Hand.TheVariants.{Holding, Finished}
use Rattle.td_board.specs.declared.views.DeskView.{DeskView}
use Rattle.td_board.specs.declared.views.BuilderView.{BuilderView}
use Rattle.td_board.specs.declared.views.View.{View}
use Rattle.td_board.specs.declared.views.View.TheVariants.{Desk, Builder}
use Rattle.td_board.specs.Phase.{Phase, closed, opened, held, noted, done}
use Rattle.td_board.specs.Knowledge.{desk_tried, builder_tried}
use Rattle.td_board.specs.Rule.{HasHand, HandFits, ListFits, Fits}
use Rattle.td_board.proofs.Lists.{at_less}
use Rattle.td_board.proofs.RowLaws.{hand_stays, hands_after, not_desk, same_builder, same_hand}
use Rattle.td_board.proofs.RowLaws.{builder_seat}

-- a try of the desk's
pub desk_try_keeps : (rows : ℕ) (phases : List Phase) (d : DeskView) (views : List View)
    (e : DeskTry) → Fits rows phases d views
    → Fits rows phases (desk_tried e d) (set views 0 (Desk (desk_tried e d)))
desk_try_keeps rows phases d views e f =
    let d' : DeskView = desk_tried e d in
    let many = f.many in
    record {
      long = f.long;
      wide = f.wide;
      first = set_here views 0 (Desk d') (omega arith);
      many = length-set views 0 (Desk d') ∙ f.many;
      each_row = f.each_row;
      each_hand = λ r p a.
          hands_after views 0 (Desk d') r p (not_desk views d r p f.first (f.each_hand r p a))
          (f.each_hand r p a);
      each_builder = λ k w h.
          f.each_builder k w (sym (set_else views 0 (suc k) (Desk d') (λ z. omega arith)) ∙ h);
    }

-- the hand of each builder stays
hand_tried : (views : List View) (i : ℕ) (v : BuilderView) (e : BuilderTry) (b : ℕ) (h : Hand)
    → get_elem? views i ≡ some (Builder v) → HasHand views b h
    → HasHand (set views i (Builder (builder_tried e v))) b h
hand_tried views i v e b h seat t =
    let v' : BuilderView = builder_tried e v in
    dite (ℕ_discrete b i)
    (λ (same : b ≡ i). (
      v',
      ap (get_elem? (set views i (Builder v'))) same
          ∙ set_here views i (Builder v') (at_less views i (Builder v) seat),
      same_hand views i v h seat (subst (λ j. HasHand views j h) same t),
    ))
    (λ (ne : b ≢ i). hand_stays views i (Builder v') b h ne t)

-- so does the one that a phase names
hands_tried : (views : List View) (i : ℕ) (v : BuilderView) (e : BuilderTry) (r : ℕ) (p : Phase)
    → get_elem? views i ≡ some (Builder v) → HandFits views r p
    → HandFits (set views i (Builder (builder_tried e v))) r p
hands_tried views i v e r closed seat f = tt
hands_tried views i v e r opened seat f = tt
hands_tried views i v e r (held b) seat f = hand_tried views i v e b (Holding r) seat f
hands_tried views i v e r (noted b) seat f = hand_tried views i v e b (Holding r) seat f
hands_tried views i v e r (done b c) seat f = hand_tried views i v e b (Finished r c) seat f

-- a try of a builder's
pub builder_try_keeps : (rows : ℕ) (phases : List Phase) (d : DeskView) (views : List View) (i : ℕ)
    (v : BuilderView) (e : BuilderTry) → Fits rows phases d views
    → get_elem? views i ≡ some (Builder v)
    → Fits rows phases d (set views i (Builder (builder_tried e v)))
builder_try_keeps rows phases d views i v e f seat =
    let v' : BuilderView = builder_tried e v in
    let place = builder_seat rows phases d views i v f seat in
    let named : i ≡ suc place.0 = place.1 in
    record {
      long = f.long;
      wide = f.wide;
      first = set_else views i 0 (Builder v') (λ h. omega arith) ∙ f.first;
      many = length-set views i (Builder v') ∙ f.many;
      each_row = f.each_row;
      each_hand = λ r p a. hands_tried views i v e r p seat (f.each_hand r p a);
      each_builder = λ j w h. ⊎_elim
          (λ (t : (suc j ≡ i) × (Builder v' ≡ w)).
          let old = f.each_builder j (Builder v)
          (subst (λ x. get_elem? views x ≡ some (Builder v)) (sym t.0) seat) in
          let is : v ≡ old.view = same_builder v old.view old.is in
          record {
            view = v';
            known = old.known;
            is = sym t.1;
            at = old.at;
            number = ap (λ (u : BuilderView). u.number) is ∙ old.number;
            listed = subst (λ (u : BuilderView). ListFits phases (suc j) u.hand old.known u.mine)
                (sym is) old.listed;
          })
          (λ (t : (suc j ≢ i) × (get_elem? views (suc j) ≡ some w)). f.each_builder j w t.1)
          (at_set views i (suc j) (Builder v') w h);
    }
