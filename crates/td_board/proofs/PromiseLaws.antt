-- What holds at every moment of every schedule, proved from the rule.
use Rattle.std.proofs.Common.{◌≡◌, ◌≢◌, ◌⊎◌, ℕ, zero, suc, ◌-◌, ◌<◌, List, [], ◌∷◌, ◌++◌, length}
use Rattle.std.proofs.Common.{set, sym, refl, ap, ◌∙◌, subst, ⊎_elim, inl, inr, arith, append-nil}
use mathlib.Core.Logic.{dite}
use mathlib.Core.Option.{some}
use native.Mathlib.Decide.{ℕ_discrete}
use lib.ListN.{get_elem?}
use Rattle.atomic_table.proofs.Lists.{set_here, set_else, at_longer}
use Rattle.td_board.specs.declared.views.RowView.TheVariants.{In, Out, Seen, Known}
use Rattle.td_board.specs.declared.views.Deed.{Deed}
use Rattle.td_board.specs.declared.views.Deed.TheVariants.{Claim, Finish}
use Rattle.td_board.specs.declared.views.Hand.{Hand}
use Rattle.td_board.specs.declared.views.Hand.TheVariants.{Free, Holding, Finished}
use Rattle.td_board.specs.declared.views.DeskTry.TheVariants.{WithdrawalWon, WithdrawalLost}
use Rattle.td_board.specs.declared.views.DeskTry.TheVariants.{SettleDone, SettleEarly}
use Rattle.td_board.specs.declared.views.DeskTry.TheVariants.{Offered, ClaimNoted}
use Rattle.td_board.specs.declared.views.BuilderTry.{BuilderTry}
use Rattle.td_board.specs.declared.views.BuilderTry.TheVariants.{ClaimWon, ClaimLost, FinishDone}
use Rattle.td_board.specs.declared.views.BuilderTry.TheVariants.{FinishEarly, ReleaseDone}
use Rattle.td_board.specs.declared.views.BuilderTry.TheVariants.{ReleaseEarly}
use Rattle.td_board.specs.declared.views.DeskView.{DeskView}
use Rattle.td_board.specs.declared.views.BuilderView.{BuilderView}
use Rattle.td_board.specs.declared.views.View.{View}
use Rattle.td_board.specs.declared.views.View.TheVariants.{Desk, Builder}
use Rattle.td_board.specs.Phase.{Phase, closed, opened, held, noted, done, builder_of}
use Rattle.td_board.specs.Knowledge.{with_builder, with_row, with_deed, noted_of, list_at}
use Rattle.td_board.specs.Knowledge.{new_builder, with_claim, with_finish, with_free_hand, row_of}
use Rattle.td_board.specs.Knowledge.{desk_tried, builder_tried}
use Rattle.td_board.specs.Steps.{Moment, DeskKnows, BuilderKnows, learned, Step, seat, offer}
use Rattle.td_board.specs.Steps.{withdrawal_won}
use Rattle.td_board.specs.Steps.{withdrawal_lost, claim_won, claim_lost, note, finish_done}
use Rattle.td_board.specs.Steps.{finish_early, settle_done, settle_early, release_done}
use Rattle.td_board.specs.Steps.{release_early}
use Rattle.td_board.specs.Rule.{HandFits, ListFits, Fits}
use Rattle.td_board.specs.Promises.{OneHolder, OneRowEach, StillHolds, HoldLasts, NothingInvented}
use Rattle.td_board.specs.Promises.{Begins, ListsGrow}
use Rattle.td_board.proofs.Lists.{at_less, one_at, list_at-at}
use Rattle.td_board.proofs.RowLaws.{not_both, same_builder, same_desk, builder_seat}
use Rattle.td_board.proofs.Schedules.{with_desk, rule_stands}

-- a builder that holds a row is named by its phase
named_by_list : (phases : List Phase) (b r : ℕ) (h : Hand) (known mine : List Deed) → h ≡ Holding r
    → ListFits phases b h known mine
    → (p : Phase) × (get_elem? phases r ≡ some p) × (builder_of p ≡ b)
named_by_list phases b r h known mine e f =
    ⊎_elim (λ t. (held b, t.0, refl)) (λ t. (noted b, t.0, refl))
    (let t : ListFits phases b (Holding r) known mine =
    subst (λ x. ListFits phases b x known mine) e f in t)

-- the same under the rule
named_as_holder : (rows : ℕ) (phases : List Phase) (d : DeskView) (views : List View) (b r : ℕ)
    (v : BuilderView) → Fits rows phases d views → get_elem? views b ≡ some (Builder v)
    → v.hand ≡ Holding r → (p : Phase) × (get_elem? phases r ≡ some p) × (builder_of p ≡ b)
named_as_holder rows phases d views b r v f at is =
    let seat = builder_seat rows phases d views b v f at in
    let k : ℕ = seat.0 in
    let old = f.each_builder k (Builder v)
    (subst (λ i. get_elem? views i ≡ some (Builder v)) seat.1 at) in
    let t = named_by_list phases (suc k) r old.view.hand old.known old.view.mine
    (sym (ap (λ (u : BuilderView). u.hand) (same_builder v old.view old.is)) ∙ is) old.listed in
    (t.0, t.1, t.2 ∙ sym seat.1)

-- two builders that hold a row are both the one that its phase names
pub one_holder : OneHolder
one_holder rows m reached a b r v w at at' is is' =
    let stands = rule_stands rows m reached in
    let one = named_as_holder rows m.phases stands.0 m.views a r v stands.1 at is in
    let other = named_as_holder rows m.phases stands.0 m.views b r w stands.1 at' is' in
    sym one.2 ∙ (ap builder_of (one_at m.phases r one.0 other.0 one.1 other.1) ∙ other.2)

-- the builder that a row's phase names has that row in hand
in_hand : (views : List View) (r : ℕ) (p : Phase) → HandFits views r p → 0 < builder_of p
    → (v : BuilderView) × (get_elem? views (builder_of p) ≡ some (Builder v)) × (row_of v.hand ≡ r)
in_hand views r closed f some_builder = absurd (omega arith)
in_hand views r opened f some_builder = absurd (omega arith)
in_hand views r (held b) f _ = (f.0, f.1, ap row_of f.2)
in_hand views r (noted b) f _ = (f.0, f.1, ap row_of f.2)
in_hand views r (done b c) f _ = (f.0, f.1, ap row_of f.2)

-- a builder that two phases name has the rows of both in hand
pub one_row_each : OneRowEach
one_row_each rows m reached q r o p at at' named same =
    let f = (rule_stands rows m reached).1 in
    let one = in_hand m.views q o (f.each_hand q o at) (subst (λ n. 0 < n) (sym same) named) in
    let other = in_hand m.views r p (f.each_hand r p at') named in
    let v = same_builder one.0 other.0
    (one_at m.views (builder_of p) (Builder one.0) (Builder other.0)
    (subst (λ i. get_elem? m.views i ≡ some (Builder one.0)) same one.1) other.1) in
    sym one.2 ∙ (ap (λ (u : BuilderView). row_of u.hand) v ∙ other.2)

-- the desk's seat is no builder's
not_first : (m : Moment) (d : DeskView) (b : ℕ) (v : BuilderView) → DeskKnows m d
    → BuilderKnows m b v → b ≢ 0
not_first m d b v at at' e =
    not_both d v (one_at m.views 0 (Desk d) (Builder v) at
    (subst (λ i. get_elem? m.views i ≡ some (Builder v)) e at'))

-- two views of one builder's seat are one
one_view : (m : Moment) (b i : ℕ) (v u : BuilderView) → BuilderKnows m b v → BuilderKnows m i u
    → b ≡ i → v ≡ u
one_view m b i v u at at' e =
    same_builder v u (one_at m.views b (Builder v) (Builder u) at
    (subst (λ k. get_elem? m.views k ≡ some (Builder u)) (sym e) at'))

-- builder b, whose seat isn't i, still holds its row
still : (m n : Moment) (phases : List Phase) (i : ℕ) (w : View) (b r : ℕ) (v : BuilderView)
    → (let n' : Moment = record { phases = phases; views = set m.views i w } in n ≡ n') → b ≢ i
    → BuilderKnows m b v → v.hand ≡ Holding r → StillHolds n b r
still m n phases i w b r v e ne at is =
    subst (λ x. StillHolds x b r) (sym e) (v, set_else m.views i b w ne ∙ at, is)

-- a builder's try that moved nothing, its own or another's
still_tried : (m n : Moment) (a : ℕ) (u : BuilderView) (x : BuilderTry) (b r : ℕ) (v : BuilderView)
    → n ≡ learned a (Builder (builder_tried x u)) m → BuilderKnows m a u → BuilderKnows m b v
    → v.hand ≡ Holding r → StillHolds n b r
still_tried m n a u x b r v e knows here is =
    let u' : BuilderView = builder_tried x u in
    dite (ℕ_discrete b a)
    (λ h.
    let same : u ≡ v = sym (one_view m b a v u here knows h) in
    let now : get_elem? (set m.views a (Builder u')) b ≡ some (Builder u') =
    ap (get_elem? (set m.views a (Builder u'))) h
    ∙ set_here m.views a (Builder u') (at_less m.views a (Builder u) knows) in
    subst (λ y. StillHolds y b r) (sym e)
    (u', now, ap (λ (y : BuilderView). y.hand) same ∙ is))
    (λ ne. still m n m.phases a (Builder u') b r v e ne here is)

-- by the kind of step: no other step changes that seat's hand,
-- and of its own only a finish comes at a hand that holds a row
pub hold_lasts : HoldLasts
hold_lasts rows m n reached (seat d at e) b r v here is =
    inl (subst (λ x. StillHolds x b r) (sym e) (
      v,
      at_longer (set m.views 0 (Desk (with_builder d)))
          (Builder (new_builder (suc (length d.noted))) ∷ []) b (Builder v)
          (set_else m.views 0 b (Desk (with_builder d)) (not_first m d b v at here) ∙ here),
      is,
    ))
hold_lasts rows m n reached (offer q d at _ _ e) b r v here is =
    inl (still m n _ 0 _ b r v e (not_first m d b v at here) here is)
hold_lasts rows m n reached (withdrawal_won q d at _ _ e) b r v here is =
    inl (still m n _ 0 _ b r v e (not_first m d b v at here) here is)
hold_lasts rows m n reached (withdrawal_lost q a d at _ _ e) b r v here is =
    inl (still m n _ 0 _ b r v e (not_first m d b v at here) here is)
hold_lasts rows m n reached (claim_won q a u at free _ e) b r v here is =
    inl (still m n _ a _ b r v e
    (λ h. let same = one_view m b a v u here at h in
    let no : Holding r ≡ Free = sym is ∙ (ap (λ (u : BuilderView). u.hand) same ∙ free) in cc) here
    is)
hold_lasts rows m n reached (claim_lost q a p u at free _ _ e) b r v here is =
    inl (still_tried m n a u (ClaimLost q) b r v e at here is)
hold_lasts rows m n reached (note q a d at _ _ e) b r v here is =
    inl (still m n _ 0 _ b r v e (not_first m d b v at here) here is)
hold_lasts rows m n reached (finish_done q a c u at holds word e) b r v here is =
    dite (ℕ_discrete b a)
    (λ h.
    let same : u ≡ v = sym (one_view m b a v u here at h) in
    let row : q ≡ r = ap row_of (sym holds ∙ (ap (λ (u : BuilderView). u.hand) same ∙ is)) in
    let phase : get_elem? m.phases r ≡ some (noted b) =
    subst (λ (z : ℕ × ℕ). get_elem? m.phases z.0 ≡ some (noted z.1)) (λ i. (row i, sym h i)) word in
    inr (
      c,
      phase,
      e ∙ (λ i. record {
        phases = set m.phases (row i) (done (sym h i) c);
        views = set m.views (sym h i) (Builder (with_finish (row i) c (same i)));
      }),
    ))
    (λ ne. inl (still m n _ a _ b r v e ne here is))
hold_lasts rows m n reached (finish_early q a c p u at _ _ _ e) b r v here is =
    inl (still_tried m n a u (FinishEarly q c) b r v e at here is)
hold_lasts rows m n reached (settle_done q a c d at _ _ e) b r v here is =
    inl (still m n _ 0 _ b r v e (not_first m d b v at here) here is)
hold_lasts rows m n reached (settle_early q a c p d at _ _ _ e) b r v here is =
    inl (still m n _ 0 _ b r v e (not_first m d b v at here) here is)
hold_lasts rows m n reached (release_done q a c p u at ended _ _ e) b r v here is =
    inl (still m n _ a _ b r v e
    (λ h. let same = one_view m b a v u here at h in
    let no : Holding r ≡ Finished q c = sym is ∙ (ap (λ (u : BuilderView). u.hand) same ∙ ended) in
    cc) here is)
hold_lasts rows m n reached (release_early q a c u at _ _ e) b r v here is =
    inl (still_tried m n a u (ReleaseEarly q) b r v e at here is)

-- the noted list, or one deed more
noted_or_more : (phases : List Phase) (b : ℕ) (h : Hand) (known mine : List Deed)
    → ListFits phases b h known mine → (mine ≡ known) ⊎ ((e : Deed) × (mine ≡ known ++ e ∷ []))
noted_or_more phases b Free known mine f = inl f
noted_or_more phases b (Holding r) known mine (inl t) = inr (Claim r, t.1)
noted_or_more phases b (Holding r) known mine (inr t) = inl t.1
noted_or_more phases b (Finished r c) known mine (inl t) = inr (Finish r c, t.1)
noted_or_more phases b (Finished r c) known mine (inr t) = inl t.3

-- by the rule's clause on that builder
pub nothing_invented : NothingInvented
nothing_invented rows m reached b d v knows here =
    let f = with_desk rows m d (rule_stands rows m reached) knows in
    let seat = builder_seat rows m.phases d m.views b v f here in
    let k : ℕ = seat.0 in
    let named : b ≡ suc k = seat.1 in
    let place : k ≡ b - 1 = omega arith in
    let old = f.each_builder k (Builder v)
    (subst (λ i. get_elem? m.views i ≡ some (Builder v)) named here) in
    let is : old.view ≡ v = sym (same_builder v old.view old.is) in
    let known : old.known ≡ noted_of d b =
    sym (list_at-at d.noted k old.known old.at) ∙ ap (list_at d.noted) place in
    let listed = at_less d.noted k old.known old.at in (
      seat.2 ∙ sym named,
      omega arith,
      omega arith,
      subst (λ (z : List Deed × BuilderView).
          (z.1.mine ≡ z.0) ⊎ ((e : Deed) × (z.1.mine ≡ z.0 ++ e ∷ []))) (λ i. (known i, is i))
          (noted_or_more m.phases (suc k) old.view.hand old.known old.view.mine old.listed),
    )

-- a list begins with itself
same_list : {A : Type 0} (l : List A) → Begins l l
same_list l = ([], sym (append-nil l))

-- one deed more in one of the desk's lists
list_at-longer : (ls : List (List Deed)) (k j : ℕ) (e : Deed)
    → Begins (list_at (set ls k (list_at ls k ++ e ∷ [])) j) (list_at ls j)
list_at-longer [] k j e = same_list []
list_at-longer (l ∷ ls) zero zero e = (e ∷ [], refl)
list_at-longer (l ∷ ls) zero (suc j) e = same_list (list_at ls j)
list_at-longer (l ∷ ls) (suc k) zero e = same_list l
list_at-longer (l ∷ ls) (suc k) (suc j) e = list_at-longer ls k j e

-- one list more
list_at-snoc : (ls : List (List Deed)) (j : ℕ) → Begins (list_at (ls ++ [] ∷ []) j) (list_at ls j)
list_at-snoc [] zero = same_list []
list_at-snoc [] (suc j) = same_list []
list_at-snoc (l ∷ ls) zero = same_list l
list_at-snoc (l ∷ ls) (suc j) = list_at-snoc ls j

-- builder b goes on from v
abbrev GoesOn : Moment → ℕ → BuilderView → Type 0
GoesOn n b v = (w : BuilderView) × BuilderKnows n b w × (w.number ≡ v.number) × Begins w.mine v.mine
    × Begins w.tried v.tried

-- another seat's step
goes_on : (m n : Moment) (phases : List Phase) (i : ℕ) (w : View) (b : ℕ) (v : BuilderView)
    → (let n' : Moment = record { phases = phases; views = set m.views i w } in n ≡ n') → b ≢ i
    → BuilderKnows m b v → GoesOn n b v
goes_on m n phases i w b v e ne at =
    subst (λ x. GoesOn x b v) (sym e)
    (v, set_else m.views i b w ne ∙ at, refl, same_list v.mine, same_list v.tried)

-- its own step, or another builder's, which goes on from u to u'
goes_on_own : (m n : Moment) (phases : List Phase) (a : ℕ) (u u' : BuilderView) (b : ℕ)
    (v : BuilderView) → (let n' : Moment =
    record { phases = phases; views = set m.views a (Builder u') } in n ≡ n') → BuilderKnows m a u
    → u'.number ≡ u.number → Begins u'.mine u.mine → Begins u'.tried u.tried → BuilderKnows m b v
    → GoesOn n b v
goes_on_own m n phases a u u' b v e knows number more tries at = dite (ℕ_discrete b a)
    (λ h.
    let same : u ≡ v = sym (one_view m b a v u at knows h) in
    let now : get_elem? (set m.views a (Builder u')) b ≡ some (Builder u') =
    ap (get_elem? (set m.views a (Builder u'))) h
    ∙ set_here m.views a (Builder u') (at_less m.views a (Builder u) knows) in
    subst (λ x. GoesOn x b v) (sym e) (
      u',
      now,
      number ∙ ap (λ (x : BuilderView). x.number) same,
      subst (λ (x : BuilderView). Begins u'.mine x.mine) same more,
      subst (λ (x : BuilderView). Begins u'.tried x.tried) same tries,
    ))
    (λ ne. goes_on m n phases a (Builder u') b v e ne at)

-- a builder's try that moved nothing
goes_on_tried : (m n : Moment) (a : ℕ) (u : BuilderView) (x : BuilderTry) (b : ℕ)
    (v : BuilderView) → n ≡ learned a (Builder (builder_tried x u)) m → BuilderKnows m a u
    → BuilderKnows m b v → GoesOn n b v
goes_on_tried m n a u x b v e knows at =
    goes_on_own m n m.phases a u (builder_tried x u) b v e knows refl (same_list u.mine)
    (x ∷ [], refl) at

-- each kind of step, for a builder
builder_goes_on : (m n : Moment) → Step m n → (b : ℕ) (v : BuilderView) → BuilderKnows m b v
    → GoesOn n b v
builder_goes_on m n (seat d at e) b v here =
    subst (λ x. GoesOn x b v) (sym e) (
      v,
      at_longer (set m.views 0 (Desk (with_builder d)))
          (Builder (new_builder (suc (length d.noted))) ∷ []) b (Builder v)
          (set_else m.views 0 b (Desk (with_builder d)) (not_first m d b v at here) ∙ here),
      refl,
      same_list v.mine,
      same_list v.tried,
    )
builder_goes_on m n (offer q d at _ _ e) b v here =
    goes_on m n _ 0 _ b v e (not_first m d b v at here) here
builder_goes_on m n (withdrawal_won q d at _ _ e) b v here =
    goes_on m n _ 0 _ b v e (not_first m d b v at here) here
builder_goes_on m n (withdrawal_lost q a d at _ _ e) b v here =
    goes_on m n _ 0 _ b v e (not_first m d b v at here) here
builder_goes_on m n (claim_won q a u at _ _ e) b v here =
    goes_on_own m n _ a u (with_claim q u) b v e at refl (Claim q ∷ [], refl)
    (ClaimWon q ∷ [], refl) here
builder_goes_on m n (claim_lost q a p u at _ _ _ e) b v here =
    goes_on_tried m n a u (ClaimLost q) b v e at here
builder_goes_on m n (note q a d at _ _ e) b v here =
    goes_on m n _ 0 _ b v e (not_first m d b v at here) here
builder_goes_on m n (finish_done q a c u at _ _ e) b v here =
    goes_on_own m n _ a u (with_finish q c u) b v e at refl (Finish q c ∷ [], refl)
    (FinishDone q c ∷ [], refl) here
builder_goes_on m n (finish_early q a c p u at _ _ _ e) b v here =
    goes_on_tried m n a u (FinishEarly q c) b v e at here
builder_goes_on m n (settle_done q a c d at _ _ e) b v here =
    goes_on m n _ 0 _ b v e (not_first m d b v at here) here
builder_goes_on m n (settle_early q a c p d at _ _ _ e) b v here =
    goes_on m n _ 0 _ b v e (not_first m d b v at here) here
builder_goes_on m n (release_done q a c p u at _ _ _ e) b v here =
    goes_on_own m n _ a u (with_free_hand u) b v e at refl (same_list u.mine)
    (ReleaseDone (row_of u.hand) ∷ [], refl) here
builder_goes_on m n (release_early q a c u at _ _ e) b v here =
    goes_on_tried m n a u (ReleaseEarly q) b v e at here

-- the desk goes on from d
abbrev DeskGoesOn : Moment → DeskView → Type 0
DeskGoesOn n d = (e : DeskView) × DeskKnows n e × ((b : ℕ) → Begins (noted_of e b) (noted_of d b))
    × Begins e.tried d.tried

-- its own step, which goes on from u to u'
desk_goes_on_own : (m n : Moment) (phases : List Phase) (u u' d : DeskView)
    → (let n' : Moment = record { phases = phases; views = set m.views 0 (Desk u') } in n ≡ n')
    → DeskKnows m u → DeskKnows m d → ((b : ℕ) → Begins (noted_of u' b) (noted_of u b))
    → Begins u'.tried u.tried → DeskGoesOn n d
desk_goes_on_own m n phases u u' d e knows at more tries = subst (λ x. DeskGoesOn x d) (sym e) (
  u',
  set_here m.views 0 (Desk u') (at_less m.views 0 (Desk u) knows),
  (λ b. subst (λ (x : DeskView). Begins (noted_of u' b) (noted_of x b))
      (same_desk_at m u d knows at) (more b)),
  subst (λ (x : DeskView). Begins u'.tried x.tried) (same_desk_at m u d knows at) tries,
)
  where
    same_desk_at : (m : Moment) (u d : DeskView) → DeskKnows m u → DeskKnows m d → u ≡ d
    same_desk_at m u d knows at = same_desk u d (one_at m.views 0 (Desk u) (Desk d) knows at)

-- a builder's step
desk_goes_on : (m n : Moment) (phases : List Phase) (a : ℕ) (u : BuilderView) (w : View)
    (d : DeskView) → (let n' : Moment = record { phases = phases; views = set m.views a w } in
    n ≡ n') → BuilderKnows m a u → DeskKnows m d → DeskGoesOn n d
desk_goes_on m n phases a u w d e knows at =
    subst (λ x. DeskGoesOn x d) (sym e) (
      d,
      set_else m.views a 0 w (λ h. not_first m d a u at knows (sym h)) ∙ at,
      (λ b. same_list (noted_of d b)),
      same_list d.tried,
    )

-- each kind of step, for the desk
desk_goes_on_from : (m n : Moment) → Step m n → (d : DeskView) → DeskKnows m d → DeskGoesOn n d
desk_goes_on_from m n (seat u knows e) d at =
    let u' : DeskView = with_builder u in
    let same : u ≡ d = same_desk u d (one_at m.views 0 (Desk u) (Desk d) knows at) in
    subst (λ x. DeskGoesOn x d) (sym e) (
      u',
      at_longer (set m.views 0 (Desk u')) (Builder (new_builder (suc (length u.noted))) ∷ []) 0
          (Desk u') (set_here m.views 0 (Desk u') (at_less m.views 0 (Desk u) knows)),
      (λ b. subst (λ (x : DeskView). Begins (noted_of u' b) (noted_of x b)) same
          (list_at-snoc u.noted (b - 1))),
      subst (λ (x : DeskView). Begins u'.tried x.tried) same (same_list u.tried),
    )
desk_goes_on_from m n (offer q u knows _ _ e) d at =
    desk_goes_on_own m n _ u (desk_tried (Offered q) (with_row q Out u)) d e knows at
    (λ b. same_list (noted_of u b)) (Offered q ∷ [], refl)
desk_goes_on_from m n (withdrawal_won q u knows _ _ e) d at =
    desk_goes_on_own m n _ u (desk_tried (WithdrawalWon q) (with_row q In u)) d e knows at
    (λ b. same_list (noted_of u b)) (WithdrawalWon q ∷ [], refl)
desk_goes_on_from m n (withdrawal_lost q a u knows _ _ e) d at =
    desk_goes_on_own m n _ u (desk_tried (WithdrawalLost q a) (with_row q (Seen a) u)) d e knows at
    (λ b. same_list (noted_of u b)) (WithdrawalLost q a ∷ [], refl)
desk_goes_on_from m n (claim_won q a u knows _ _ e) d at = desk_goes_on m n _ a u _ d e knows at
desk_goes_on_from m n (claim_lost q a p u knows _ _ _ e) d at =
    desk_goes_on m n _ a u _ d e knows at
desk_goes_on_from m n (note q a u knows _ _ e) d at =
    desk_goes_on_own m n _ u
    (desk_tried (ClaimNoted q a) (with_deed a (Claim q) (with_row q (Known a) u))) d e knows at (λ b.
    list_at-longer u.noted (a - 1) (b - 1) (Claim q)) (ClaimNoted q a ∷ [], refl)
desk_goes_on_from m n (finish_done q a c u knows _ _ e) d at = desk_goes_on m n _ a u _ d e knows at
desk_goes_on_from m n (finish_early q a c p u knows _ _ _ e) d at =
    desk_goes_on m n _ a u _ d e knows at
desk_goes_on_from m n (settle_done q a c u knows _ _ e) d at =
    desk_goes_on_own m n _ u
    (desk_tried (SettleDone q c) (with_deed a (Finish q c) (with_row q In u))) d e knows at (λ b.
    list_at-longer u.noted (a - 1) (b - 1) (Finish q c)) (SettleDone q c ∷ [], refl)
desk_goes_on_from m n (settle_early q a c p u knows _ _ _ e) d at =
    desk_goes_on_own m n _ u (desk_tried (SettleEarly q c) u) d e knows at
    (λ b. same_list (noted_of u b)) (SettleEarly q c ∷ [], refl)
desk_goes_on_from m n (release_done q a c p u knows _ _ _ e) d at =
    desk_goes_on m n _ a u _ d e knows at
desk_goes_on_from m n (release_early q a c u knows _ _ e) d at =
    desk_goes_on m n _ a u _ d e knows at

-- both
pub lists_grow : ListsGrow
lists_grow rows m n reached step = (builder_goes_on m n step, desk_goes_on_from m n step)
