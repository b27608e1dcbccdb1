-- The desk's kinds of step keep the rule, over phases and views as plain data.
use Rattle.std.proofs.Common.{◌≡◌, ◌≢◌, ℕ, suc, ◌-◌, ◌<◌, List, [], ◌∷◌, ◌++◌, length, replicate}
use Rattle.std.proofs.Common.{set, sym, refl, ap, ◌∙◌, subst, ⊎_elim, inr, arith, length-set}
use Rattle.std.proofs.Common.{length-append}
use mathlib.Core.Logic.{dite}
use mathlib.Core.Option.{some, some-ne-none}
use native.Mathlib.Decide.{ℕ_discrete}
use lib.ListN.{get_elem?, length-replicate}
use Rattle.atomic_table.proofs.Lists.{set_here, set_else, set_again, at_longer, at_last}
use Rattle.td_board.specs.declared.outcome.OutcomeCode.{OutcomeCode}
use Rattle.td_board.specs.declared.views.RowView.{RowView}
use Rattle.td_board.specs.declared.views.RowView.TheVariants.{In, Seen, Known}
use Rattle.td_board.specs.declared.views.Deed.{Deed}
use Rattle.td_board.specs.declared.views.Deed.TheVariants.{Claim, Finish}
use Rattle.td_board.specs.declared.views.DeskTry.{DeskTry}
use Rattle.td_board.specs.declared.views.DeskTry.TheVariants.{WithdrawalLost, SettleDone}
use Rattle.td_board.specs.declared.views.DeskTry.TheVariants.{ClaimNoted}
use Rattle.td_board.specs.declared.views.Hand.{Hand}
use Rattle.td_board.specs.declared.views.Hand.TheVariants.{Holding, Finished}
use Rattle.td_board.specs.declared.views.DeskView.{DeskView}
use Rattle.td_board.specs.declared.views.BuilderView.{BuilderView}
use Rattle.td_board.specs.declared.views.View.{View}
use Rattle.td_board.specs.declared.views.View.TheVariants.{Desk, Builder}
use Rattle.td_board.specs.Phase.{Phase, closed, opened, held, noted, done, builder_of}
use Rattle.td_board.specs.Knowledge.{new_desk, with_builder, with_row, with_deed, list_at}
use Rattle.td_board.specs.Knowledge.{new_builder, desk_tried}
use Rattle.td_board.specs.Rule.{RowFits, HasHand, HandFits, ListFits, BuilderFits, Fits}
use Rattle.td_board.proofs.Lists.{at_less, one_at, there_is, at_replicate, at_snoc_or_end}
use Rattle.td_board.proofs.Lists.{list_at-at}
use Rattle.td_board.proofs.RowLaws.{untouched, hands_after, not_desk, desk_moves, same_hand}
use Rattle.td_board.proofs.RowLaws.{builder_seat}

-- the making of the board
pub make_keeps : (rows : ℕ)
    → Fits rows (replicate rows closed) (new_desk rows 0) (Desk (new_desk rows 0) ∷ [])
make_keeps rows = record {
  long = length-replicate rows closed;
  wide = length-replicate rows In;
  first = refl;
  many = refl;
  each_row = λ r p x a e.
      subst (λ (z : RowView × Phase). RowFits z.0 z.1)
      (λ i. (at_replicate rows r In x e i, at_replicate rows r closed p a i)) tt;
  each_hand =
      λ r p a. subst (HandFits (Desk (new_desk rows 0) ∷ []) r) (at_replicate rows r closed p a) tt;
  each_builder = λ k w e. absurd (some-ne-none w (sym e));
}

-- a seat more, and the hands stay
hands_longer : (views : List View) (w : View) (r : ℕ) (p : Phase) → HandFits views r p
    → HandFits (views ++ w ∷ []) r p
hands_longer views w r closed f = tt
hands_longer views w r opened f = tt
hands_longer views w r (held b) f = (f.0, at_longer views (w ∷ []) b (Builder f.0) f.1, f.2)
hands_longer views w r (noted b) f = (f.0, at_longer views (w ∷ []) b (Builder f.0) f.1, f.2)
hands_longer views w r (done b c) f = (f.0, at_longer views (w ∷ []) b (Builder f.0) f.1, f.2)

-- the split of a builder's seat
pub seat_keeps : (rows : ℕ) (phases : List Phase) (d : DeskView) (views : List View)
    → Fits rows phases d views
    → Fits rows phases (with_builder d)
    (set views 0 (Desk (with_builder d)) ++ Builder (new_builder (suc (length d.noted))) ∷ [])
seat_keeps rows phases d views f =
    let d' : DeskView = with_builder d in
    let vs : List View = set views 0 (Desk d') in
    let n : ℕ = length d.noted in
    let v : BuilderView = new_builder (suc n) in
    let many = f.many in
    let long_vs : length vs ≡ length views = length-set views 0 (Desk d') in
    record {
      long = f.long;
      wide = f.wide;
      first = at_longer vs (Builder v ∷ []) 0 (Desk d') (set_here views 0 (Desk d') (omega arith));
      many = omega (arith, length-append vs (Builder v ∷ []), length-append d.noted ([] ∷ []));
      each_row = f.each_row;
      each_hand = λ r p a. hands_longer vs (Builder v) r p
          (hands_after views 0 (Desk d') r p (not_desk views d r p f.first (f.each_hand r p a))
          (f.each_hand r p a));
      each_builder = λ k w e. ⊎_elim
          (λ (h : suc k < length vs).
          let t = there_is vs (suc k) h in
          let same : w ≡ t.0 = one_at (vs ++ Builder v ∷ []) (suc k) w t.0 e
          (at_longer vs (Builder v ∷ []) (suc k) t.0 t.1) in
          let old = f.each_builder k w
          (sym (set_else views 0 (suc k) (Desk d') (λ h. omega arith))
          ∙ (t.1 ∙ ap some (sym same))) in
          record {
            view = old.view;
            known = old.known;
            is = old.is;
            at = at_longer d.noted ([] ∷ []) k old.known old.at;
            number = old.number;
            listed = old.listed;
          })
          (λ (t : (suc k ≡ length vs) × (Builder v ≡ w)).
          let i : suc k ≡ length vs = t.0 in
          let last : n ≡ k = omega arith in
          record {
            view = v;
            known = [];
            is = sym t.1;
            at = at_last d.noted [] k last;
            number = ap suc last;
            listed = refl;
          })
          (at_snoc_or_end vs (Builder v) w (suc k) e);
    }

-- an offer, and a withdrawal where no builder was faster: neither phase names a builder
pub unclaimed_keeps : (rows : ℕ) (phases : List Phase) (d : DeskView) (views : List View) (r : ℕ)
    (p₀ p₁ : Phase) (x : RowView) (tries : List DeskTry) → builder_of p₀ ≡ 0 → builder_of p₁ ≡ 0
    → RowFits x p₁ → HandFits views r p₁ → Fits rows phases d views → get_elem? phases r ≡ some p₀
    → let d' : DeskView = record { rows = set d.rows r x; noted = d.noted; tried = tries } in
    Fits rows (set phases r p₁) d' (set views 0 (Desk d'))
unclaimed_keeps rows phases d views r p₀ p₁ x tries before after row hand f at =
    desk_moves rows phases d views r p₀ p₁ x d.noted tries f at row hand refl
    (λ k w _ old. record {
      view = old.view;
      known = old.known;
      is = old.is;
      at = old.at;
      number = old.number;
      listed = untouched phases r p₀ p₁ (suc k) old.view.hand old.known old.view.mine at
          (λ h. omega arith) (λ h. omega arith) old.listed;
    })

-- a withdrawal that is lost: the desk sees a claim
pub sight_keeps : (rows : ℕ) (phases : List Phase) (d : DeskView) (views : List View) (r b : ℕ)
    → Fits rows phases d views → get_elem? phases r ≡ some (held b)
    → let d' : DeskView = desk_tried (WithdrawalLost r b) (with_row r (Seen b) d) in
    Fits rows phases d' (set views 0 (Desk d'))
sight_keeps rows phases d views r b f at =
    let same : set phases r (held b) ≡ phases = set_again phases r (held b) at in
    let d' : DeskView = desk_tried (WithdrawalLost r b) (with_row r (Seen b) d) in
    subst (λ ps. Fits rows ps d' (set views 0 (Desk d'))) same
    (desk_moves rows phases d views r (held b) (held b) (Seen b) d.noted
    (d.tried ++ WithdrawalLost r b ∷ []) f at refl
    (f.each_hand r (held b) at) refl
    (λ k w _ old. subst (λ ps. BuilderFits ps d.noted k w) (sym same) old))

-- one deed more of builder k + 1 is noted, and those of the others stay
noting_builders : (phases : List Phase) (lists : List (List Deed)) (views : List View) (r₀ k : ℕ)
    (p₀ p₁ : Phase) (known now : List Deed) → get_elem? phases r₀ ≡ some p₀
    → get_elem? lists k ≡ some known
    → ((b : ℕ) → b ≢ suc k → b ≢ 0 → (builder_of p₀ ≢ b) × (builder_of p₁ ≢ b))
    → ((w : View) → get_elem? views (suc k) ≡ some w → (old : BuilderFits phases lists k w)
    → old.known ≡ known → ListFits (set phases r₀ p₁) (suc k) old.view.hand now old.view.mine)
    → (j : ℕ) (w : View) → get_elem? views (suc j) ≡ some w → BuilderFits phases lists j w
    → BuilderFits (set phases r₀ p₁) (set lists k now) j w
noting_builders phases lists views r₀ k p₀ p₁ known now at there others mine j w seat old =
    dite (ℕ_discrete j k)
    (λ e.
    let old' : BuilderFits phases lists k w = subst (λ i. BuilderFits phases lists i w) e old in
    let fits : BuilderFits (set phases r₀ p₁) (set lists k now) k w = record {
      view = old'.view;
      known = now;
      is = old'.is;
      at = set_here lists k now (at_less lists k known there);
      number = old'.number;
      listed = mine w (subst (λ i. get_elem? views (suc i) ≡ some w) e seat) old'
          (one_at lists k old'.known known old'.at there);
    } in
    subst (λ i. BuilderFits (set phases r₀ p₁) (set lists k now) i w) (sym e) fits)
    (λ ne.
    let apart = others (suc j) (λ h. ne (omega arith)) (λ h. omega arith) in
    record {
      view = old.view;
      known = old.known;
      is = old.is;
      at = set_else lists k j now ne ∙ old.at;
      number = old.number;
      listed = untouched phases r₀ p₀ p₁ (suc j) old.view.hand old.known old.view.mine at apart.0
          apart.1 old.listed;
    })

-- the list of a builder whose claim isn't noted
held_list : (phases : List Phase) (b r : ℕ) (h : Hand) (known mine : List Deed) → h ≡ Holding r
    → get_elem? phases r ≡ some (held b) → ListFits phases b h known mine
    → mine ≡ known ++ Claim r ∷ []
held_list phases b r h known mine e at f =
    ⊎_elim (λ t. t.1) (λ t.
    let no : held b ≡ noted b = one_at phases r (held b) (noted b) at t.0 in absurd (cc))
    (let t : ListFits phases b (Holding r) known mine =
    subst (λ x. ListFits phases b x known mine) e f in t)

-- the list of a builder whose finish isn't noted
done_list : (phases : List Phase) (b r : ℕ) (c : OutcomeCode) (h : Hand) (known mine : List Deed)
    → h ≡ Finished r c → get_elem? phases r ≡ some (done b c) → ListFits phases b h known mine
    → mine ≡ known ++ Finish r c ∷ []
done_list phases b r c h known mine e at f =
    ⊎_elim (λ t. t.1) (λ t. absurd (t.2 (one_at phases r t.0 (done b c) t.1 at)))
    (let t : ListFits phases b (Finished r c) known mine =
    subst (λ x. ListFits phases b x known mine) e f in t)

-- the hand of the builder that a phase names
hand_of : (views : List View) (k : ℕ) (h : Hand) (phases : List Phase) (lists : List (List Deed))
    (w : View) → HasHand views (suc k) h → get_elem? views (suc k) ≡ some w
    → (old : BuilderFits phases lists k w) → old.view.hand ≡ h
hand_of views k h phases lists w t seat old =
    same_hand views (suc k) old.view h (seat ∙ ap some old.is) t

-- a note
pub note_keeps : (rows : ℕ) (phases : List Phase) (d : DeskView) (views : List View) (r b : ℕ)
    → Fits rows phases d views → get_elem? phases r ≡ some (held b)
    → let d' : DeskView =
    desk_tried (ClaimNoted r b) (with_deed b (Claim r) (with_row r (Known b) d)) in
    Fits rows (set phases r (noted b)) d' (set views 0 (Desk d'))
note_keeps rows phases d views r b f at =
    let has = f.each_hand r (held b) at in
    let seat = builder_seat rows phases d views b has.0 f has.1 in
    let k : ℕ = seat.0 in
    let named : b ≡ suc k = seat.1 in
    let place : k ≡ b - 1 = omega arith in
    let law = by_place rows phases d views r k f (at ∙ ap (λ i. some (held i)) named) in
    subst (λ (z : ℕ × ℕ). let d' : DeskView =
    record {
      rows = set d.rows r (Known z.0);
      noted = set d.noted z.1 (list_at d.noted z.1 ++ Claim r ∷ []);
      tried = d.tried ++ ClaimNoted r z.0 ∷ [];
    } in Fits rows (set phases r (noted z.0)) d' (set views 0 (Desk d')))
    (λ i. (sym named i, place i)) law
  where
    by_place : (rows : ℕ) (phases : List Phase) (d : DeskView) (views : List View) (r k : ℕ)
        → Fits rows phases d views → get_elem? phases r ≡ some (held (suc k))
        → let d' : DeskView = record {
          rows = set d.rows r (Known (suc k));
          noted = set d.noted k (list_at d.noted k ++ Claim r ∷ []);
          tried = d.tried ++ ClaimNoted r (suc k) ∷ [];
        } in Fits rows (set phases r (noted (suc k))) d' (set views 0 (Desk d'))
    by_place rows phases d views r k f at =
        let has = f.each_hand r (held (suc k)) at in
        let mine = f.each_builder k (Builder has.0) has.1 in
        let now : List Deed = list_at d.noted k ++ Claim r ∷ [] in
        let is : list_at d.noted k ≡ mine.known = list_at-at d.noted k mine.known mine.at in
        desk_moves rows phases d views r (held (suc k)) (noted (suc k)) (Known (suc k))
        (set d.noted k now) (d.tried ++ ClaimNoted r (suc k) ∷ []) f at refl has
        (length-set d.noted k now)
        (noting_builders phases d.noted views r k (held (suc k)) (noted (suc k)) mine.known now at
        mine.at (λ a ne _. ((λ h. ne (sym h)), λ h. ne (sym h)))
        (λ w seat old same.
        let h : old.view.hand ≡ Holding r =
        hand_of views k (Holding r) phases d.noted w has seat old in
        let l : old.view.mine ≡ now =
        held_list phases (suc k) r old.view.hand old.known old.view.mine h at old.listed
        ∙ ap (λ l. l ++ Claim r ∷ []) (same ∙ sym is) in
        let after : ListFits (set phases r (noted (suc k))) (suc k) (Holding r) now old.view.mine =
        inr (set_here phases r (noted (suc k)) (at_less phases r (held (suc k)) at), l) in
        subst (λ x. ListFits (set phases r (noted (suc k))) (suc k) x now old.view.mine)
        (sym h) after))

-- a settling
pub settling_keeps : (rows : ℕ) (phases : List Phase) (d : DeskView) (views : List View) (r b : ℕ)
    (c : OutcomeCode) → Fits rows phases d views → get_elem? phases r ≡ some (done b c)
    → let d' : DeskView =
    desk_tried (SettleDone r c) (with_deed b (Finish r c) (with_row r In d)) in
    Fits rows (set phases r closed) d' (set views 0 (Desk d'))
settling_keeps rows phases d views r b c f at =
    let has = f.each_hand r (done b c) at in
    let seat = builder_seat rows phases d views b has.0 f has.1 in
    let k : ℕ = seat.0 in
    let named : b ≡ suc k = seat.1 in
    let place : k ≡ b - 1 = omega arith in
    let law = by_place rows phases d views r k c f (at ∙ ap (λ i. some (done i c)) named) in
    subst (λ (i : ℕ). let d' : DeskView =
    record {
      rows = set d.rows r In;
      noted = set d.noted i (list_at d.noted i ++ Finish r c ∷ []);
      tried = d.tried ++ SettleDone r c ∷ [];
    } in Fits rows (set phases r closed) d' (set views 0 (Desk d'))) place law
  where
    by_place : (rows : ℕ) (phases : List Phase) (d : DeskView) (views : List View) (r k : ℕ)
        (c : OutcomeCode) → Fits rows phases d views → get_elem? phases r ≡ some (done (suc k) c)
        → let d' : DeskView = record {
          rows = set d.rows r In;
          noted = set d.noted k (list_at d.noted k ++ Finish r c ∷ []);
          tried = d.tried ++ SettleDone r c ∷ [];
        } in Fits rows (set phases r closed) d' (set views 0 (Desk d'))
    by_place rows phases d views r k c f at =
        let has = f.each_hand r (done (suc k) c) at in
        let mine = f.each_builder k (Builder has.0) has.1 in
        let now : List Deed = list_at d.noted k ++ Finish r c ∷ [] in
        let is : list_at d.noted k ≡ mine.known = list_at-at d.noted k mine.known mine.at in
        desk_moves rows phases d views r (done (suc k) c) closed In (set d.noted k now)
        (d.tried ++ SettleDone r c ∷ []) f at tt tt
        (length-set d.noted k now)
        (noting_builders phases d.noted views r k (done (suc k) c) closed mine.known now at mine.at
        (λ a ne pos. ((λ h. ne (sym h)), λ h. pos (sym h)))
        (λ w seat old same.
        let h : old.view.hand ≡ Finished r c =
        hand_of views k (Finished r c) phases d.noted w has seat old in
        let l : old.view.mine ≡ now =
        done_list phases (suc k) r c old.view.hand old.known old.view.mine h at old.listed
        ∙ ap (λ l. l ++ Finish r c ∷ []) (same ∙ sym is) in
        let after : ListFits (set phases r closed) (suc k) (Finished r c) now old.view.mine =
        inr (
          closed,
          set_here phases r closed (at_less phases r (done (suc k) c) at),
          (λ (no : closed ≡ done (suc k) c). cc),
          l,
        ) in
        subst (λ x. ListFits (set phases r closed) (suc k) x now old.view.mine) (sym h) after))
