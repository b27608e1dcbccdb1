-- A builder's kinds of step keep the rule, over phases and views as plain data.
use Rattle.std.proofs.Common.{◌≡◌, ◌≢◌, ℕ, suc, List, [], ◌∷◌, ◌++◌, set, sym, refl, ap, ◌∙◌, subst}
use Rattle.std.proofs.Common.{⊎_elim, inl, arith}
use mathlib.Core.Option.{some}
use lib.ListN.{get_elem?}
use Rattle.atomic_table.proofs.Lists.{set_here, set_again}
use Rattle.td_board.specs.declared.outcome.OutcomeCode.{OutcomeCode}
use Rattle.td_board.specs.declared.outcome.OutcomeCode.TheVariants.{Built}
use Rattle.td_board.specs.declared.views.RowView.{RowView}
use Rattle.td_board.specs.declared.views.RowView.TheVariants.{In, Out, Seen, Known}
use Rattle.td_board.specs.declared.views.Deed.{Deed}
use Rattle.td_board.specs.declared.views.Deed.TheVariants.{Claim, Finish}
use Rattle.td_board.specs.declared.views.Hand.{Hand}
use Rattle.td_board.specs.declared.views.Hand.TheVariants.{Free, Holding, Finished}
use Rattle.td_board.specs.declared.views.DeskView.{DeskView}
use Rattle.td_board.specs.declared.views.BuilderView.{BuilderView}
use Rattle.td_board.specs.declared.views.View.{View}
use Rattle.td_board.specs.declared.views.View.TheVariants.{Builder}
use Rattle.td_board.specs.Phase.{Phase, closed, opened, held, noted, done}
use Rattle.td_board.specs.Knowledge.{with_claim, with_finish, with_free_hand, row_of}
use Rattle.td_board.specs.Rule.{RowFits, HasHand, HandFits, ListFits, Fits}
use Rattle.td_board.proofs.Lists.{at_less, one_at}
use Rattle.td_board.proofs.RowLaws.{untouched, Avoids, hands_after, same_hand, builder_moves}

-- a builder with a free hand is named by no phase
free_avoids : (views : List View) (b : ℕ) (v : BuilderView) (r : ℕ) (p : Phase)
    → get_elem? views b ≡ some (Builder v) → v.hand ≡ Free → HandFits views r p → Avoids b p
free_avoids views b v r closed at free f = tt
free_avoids views b v r opened at free f = tt
free_avoids views b v r (held a) at free f =
    λ e. let h : v.hand ≡ Holding r =
    same_hand views b v (Holding r) at (subst (λ i. HasHand views i (Holding r)) e f) in cc
free_avoids views b v r (noted a) at free f =
    λ e. let h : v.hand ≡ Holding r =
    same_hand views b v (Holding r) at (subst (λ i. HasHand views i (Holding r)) e f) in cc
free_avoids views b v r (done a c) at free f =
    λ e. let h : v.hand ≡ Finished r c =
    same_hand views b v (Finished r c) at (subst (λ i. HasHand views i (Finished r c)) e f) in cc

-- what fits an open row fits it once it is held
open_held : (b : ℕ) (x : RowView) → RowFits x opened → RowFits x (held b)
open_held b In f = absurd f
open_held b Out f = tt
open_held b (Seen a) f = absurd f
open_held b (Known a) f = absurd f

-- the list of a builder with a free hand
free_list : (phases : List Phase) (b : ℕ) (h : Hand) (known mine : List Deed) → h ≡ Free
    → ListFits phases b h known mine → mine ≡ known
free_list phases b h known mine e f =
    let t : ListFits phases b Free known mine = subst (λ x. ListFits phases b x known mine) e f in t

-- a claim that is won
pub claim_keeps : (rows : ℕ) (phases : List Phase) (d : DeskView) (views : List View) (r k : ℕ)
    (v : BuilderView) → Fits rows phases d views → get_elem? phases r ≡ some opened
    → get_elem? views (suc k) ≡ some (Builder v) → v.hand ≡ Free
    → Fits rows (set phases r (held (suc k))) d (set views (suc k) (Builder (with_claim r v)))
claim_keeps rows phases d views r k v f at seat free =
    let v' : BuilderView = with_claim r v in
    let room = at_less views (suc k) (Builder v) seat in
    builder_moves rows phases d views r opened (held (suc k)) k v v' f at seat refl
    (open_held (suc k)) (v', set_here views (suc k) (Builder v') room, refl)
    (λ q p _ a. free_avoids views (suc k) v q p seat free (f.each_hand q p a))
    (λ j h known mine apart fits.
    untouched phases r opened (held (suc k)) (suc j) h known mine at (λ e. omega arith)
    (λ e. omega arith) fits)
    (λ known fits. inl (
      set_here phases r (held (suc k)) (at_less phases r opened at),
      ap (λ l. l ++ Claim r ∷ []) (free_list phases (suc k) v.hand known v.mine free fits),
    ))

-- the list of a builder whose claim is noted
noted_list : (phases : List Phase) (b r : ℕ) (h : Hand) (known mine : List Deed) → h ≡ Holding r
    → get_elem? phases r ≡ some (noted b) → ListFits phases b h known mine → mine ≡ known
noted_list phases b r h known mine e at f =
    ⊎_elim (λ t. let no : noted b ≡ held b = one_at phases r (noted b) (held b) at t.0 in
    absurd (cc)) (λ t. t.1)
    (let t : ListFits phases b (Holding r) known mine =
    subst (λ x. ListFits phases b x known mine) e f in t)

-- a builder that holds the row r₀ is named by no other row's phase
holding_avoids : (views : List View) (b : ℕ) (v : BuilderView) (r₀ r : ℕ) (p : Phase)
    → get_elem? views b ≡ some (Builder v) → v.hand ≡ Holding r₀ → r ≢ r₀ → HandFits views r p
    → Avoids b p
holding_avoids views b v r₀ r closed at is ne f = tt
holding_avoids views b v r₀ r opened at is ne f = tt
holding_avoids views b v r₀ r (held a) at is ne f =
    λ e. let h : v.hand ≡ Holding r =
    same_hand views b v (Holding r) at (subst (λ i. HasHand views i (Holding r)) e f) in
    ne (ap row_of (sym h ∙ is))
holding_avoids views b v r₀ r (noted a) at is ne f =
    λ e. let h : v.hand ≡ Holding r =
    same_hand views b v (Holding r) at (subst (λ i. HasHand views i (Holding r)) e f) in
    ne (ap row_of (sym h ∙ is))
holding_avoids views b v r₀ r (done a c) at is ne f =
    λ e. let h : v.hand ≡ Finished r c =
    same_hand views b v (Finished r c) at (subst (λ i. HasHand views i (Finished r c)) e f) in cc

-- what fits a noted row fits it once it is done
noted_done : (b : ℕ) (c : OutcomeCode) (x : RowView) → RowFits x (noted b) → RowFits x (done b c)
noted_done b c In f = absurd f
noted_done b c Out f = absurd f
noted_done b c (Seen a) f = absurd f
noted_done b c (Known a) f = f

-- a finish that is done
pub finish_keeps : (rows : ℕ) (phases : List Phase) (d : DeskView) (views : List View) (r k : ℕ)
    (c : OutcomeCode) (v : BuilderView) → Fits rows phases d views
    → get_elem? phases r ≡ some (noted (suc k))
    → get_elem? views (suc k) ≡ some (Builder v) → v.hand ≡ Holding r
    → Fits rows (set phases r (done (suc k) c)) d (set views (suc k) (Builder (with_finish r c v)))
finish_keeps rows phases d views r k c v f at seat holds =
    let v' : BuilderView = with_finish r c v in
    let room = at_less views (suc k) (Builder v) seat in
    builder_moves rows phases d views r (noted (suc k)) (done (suc k) c) k v v' f at seat refl
    (noted_done (suc k) c) (v', set_here views (suc k) (Builder v') room, refl)
    (λ q p ne a. holding_avoids views (suc k) v r q p seat holds ne (f.each_hand q p a))
    (λ j h known mine apart fits.
    untouched phases r (noted (suc k)) (done (suc k) c) (suc j) h known mine at
    (λ e. apart (omega arith)) (λ e. apart (omega arith)) fits)
    (λ known fits. inl (
      set_here phases r (done (suc k) c) (at_less phases r (noted (suc k)) at),
      ap (λ l. l ++ Finish r c ∷ [])
          (noted_list phases (suc k) r v.hand known v.mine holds at fits),
    ))

-- the outcome of a hand, or built
abbrev pub outcome_of : Hand → OutcomeCode
outcome_of Free = Built
outcome_of (Holding r) = Built
outcome_of (Finished r c) = c

-- the list of a builder whose finish is settled
settled_list : (phases : List Phase) (b r : ℕ) (c : OutcomeCode) (h : Hand) (known mine : List Deed)
    (p : Phase) → h ≡ Finished r c → get_elem? phases r ≡ some p → p ≢ done b c
    → ListFits phases b h known mine → mine ≡ known
settled_list phases b r c h known mine p e at ne f =
    ⊎_elim (λ t. absurd (ne (one_at phases r p (done b c) at t.0))) (λ t. t.3)
    (let t : ListFits phases b (Finished r c) known mine =
    subst (λ x. ListFits phases b x known mine) e f in t)

-- a builder whose finish is settled is named by no phase
settled_avoids : (views : List View) (b : ℕ) (v : BuilderView) (r₀ : ℕ) (k : OutcomeCode) (r : ℕ)
    (p : Phase) → get_elem? views b ≡ some (Builder v) → v.hand ≡ Finished r₀ k
    → (r ≡ r₀ → p ≢ done b k) → HandFits views r p → Avoids b p
settled_avoids views b v r₀ k r closed at is ne f = tt
settled_avoids views b v r₀ k r opened at is ne f = tt
settled_avoids views b v r₀ k r (held a) at is ne f =
    λ e. let h : v.hand ≡ Holding r =
    same_hand views b v (Holding r) at (subst (λ i. HasHand views i (Holding r)) e f) in cc
settled_avoids views b v r₀ k r (noted a) at is ne f =
    λ e. let h : v.hand ≡ Holding r =
    same_hand views b v (Holding r) at (subst (λ i. HasHand views i (Holding r)) e f) in cc
settled_avoids views b v r₀ k r (done a c) at is ne f =
    λ e. let h : v.hand ≡ Finished r c =
    same_hand views b v (Finished r c) at (subst (λ i. HasHand views i (Finished r c)) e f) in
    let same = sym h ∙ is in ne (ap row_of same) (λ i. done (e i) (ap outcome_of same i))

-- a release that is done
pub release_keeps : (rows : ℕ) (phases : List Phase) (d : DeskView) (views : List View) (r k : ℕ)
    (c : OutcomeCode) (p : Phase) (v : BuilderView) → Fits rows phases d views
    → get_elem? phases r ≡ some p → p ≢ done (suc k) c
    → get_elem? views (suc k) ≡ some (Builder v) → v.hand ≡ Finished r c
    → Fits rows phases d (set views (suc k) (Builder (with_free_hand v)))
release_keeps rows phases d views r k c p v f at gone seat holds =
    let v' : BuilderView = with_free_hand v in
    let same : set phases r p ≡ phases = set_again phases r p at in
    let avoids : (q : ℕ) (s : Phase) → get_elem? phases q ≡ some s → Avoids (suc k) s =
    λ q s a. settled_avoids views (suc k) v r c q s seat holds
    (λ e no. gone (one_at phases r p s at (subst (λ i. get_elem? phases i ≡ some s) e a) ∙ no))
    (f.each_hand q s a) in
    subst (λ ps. Fits rows ps d (set views (suc k) (Builder v'))) same
    (builder_moves rows phases d views r p p k v v' f at seat refl (λ x fits. fits)
    (hands_after views (suc k) (Builder v') r p (avoids r p at) (f.each_hand r p at))
    (λ q s _ a. avoids q s a)
    (λ j h known mine apart fits. subst (λ ps. ListFits ps (suc j) h known mine) (sym same) fits)
    (λ known fits. settled_list phases (suc k) r c v.hand known v.mine p holds at gone fits))
