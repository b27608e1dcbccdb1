-- Each beginning of what the desk has done at the board was all that it had done at some moment.
use Rattle.std.proofs.Common.{◌≡◌, ◌⊎◌, ℕ, suc, ◌-◌, ◌<◌, ◌≤◌, List, [], ◌∷◌, ◌++◌, length, set}
use Rattle.std.proofs.Common.{ap, refl, sym, subst, ◌∙◌, inl, inr, ⊎_elim, arith, append-nil}
use Rattle.std.proofs.Common.{length-set, length-append}
use mathlib.Core.Option.{some}
use lib.ListN.{get_elem?}
use Rattle.atomic_table.proofs.Lists.{set_here, set_else, at_longer}
use Rattle.td_board.specs.declared.views.RowView.TheVariants.{In, Out, Seen, Known}
use Rattle.td_board.specs.declared.views.Deed.TheVariants as deed
use Rattle.td_board.specs.declared.views.DeskTry.{DeskTry}
use Rattle.td_board.specs.declared.views.DeskTry.TheVariants.{Offered, WithdrawalWon}
use Rattle.td_board.specs.declared.views.DeskTry.TheVariants.{WithdrawalLost}
use Rattle.td_board.specs.declared.views.DeskTry.TheVariants.{ClaimNoted, SettleDone, SettleEarly}
use Rattle.td_board.specs.declared.views.DeskView.{DeskView}
use Rattle.td_board.specs.declared.views.BuilderView.{BuilderView}
use Rattle.td_board.specs.declared.views.View.{View}
use Rattle.td_board.specs.declared.views.View.TheVariants.{Desk as DeskSeat, Builder}
use Rattle.td_board.specs.Knowledge.{new_desk, with_builder, with_row, with_deed, noted_of}
use Rattle.td_board.specs.Knowledge.{new_builder, desk_tried}
use Rattle.td_board.specs.Steps as board
use Rattle.td_board.specs.Steps.{Moment, DeskKnows, BuilderKnows, new_board, seated, Reached}
use Rattle.td_board.proofs.Lists.{at_less, one_at}
use Rattle.td_board.proofs.RowLaws.{same_desk, builder_seat}
use Rattle.td_board.proofs.Schedules.{rule_stands}
use Rattle.td_steps.specs.Tries.{done_in}
use Rattle.td_steps.proofs.Tries.{done_in-append}

-- ---- 1. lists

pushed-none : (a : List DeskTry) (x : DeskTry) (xs : List DeskTry) → [] ≡ a ++ x ∷ xs → ⊥
pushed-none [] x xs is = cc
pushed-none (t ∷ a) x xs is = cc

all-but-last : (a front : List DeskTry) (e x : DeskTry) (xs : List DeskTry)
    → a ++ e ∷ [] ≡ front ++ x ∷ xs → (ys : List DeskTry) × (a ≡ front ++ ys)
all-but-last a [] e x xs is = (a, refl)
all-but-last [] (f ∷ front) e x xs is =
    absurd (pushed-none front x xs (let rest : [] ≡ front ++ x ∷ xs = cc in rest))
all-but-last (t ∷ a) (f ∷ front) e x xs is =
    let same : t ≡ f = cc in
    let rest : a ++ e ∷ [] ≡ front ++ x ∷ xs = cc in
    let more = all-but-last a front e x xs rest in (more.0, (λ j. same j ∷ more.1 j))

-- ---- 2. a step back

-- what the desk knew before a step: it has done the same, or one thing less
pub record Before (m : Moment) (d' : DeskView) : Type 0 where
  pub desk : DeskView
  pub knows : DeskKnows m desk
  pub lists : length desk.noted ≤ length d'.noted
  pub made : (done_in d'.tried ≡ done_in desk.tried)
      ⊎ ((e : DeskTry) × (done_in d'.tried ≡ done_in desk.tried ++ e ∷ []))

own : (m : Moment) (d d1 d' : DeskView) → DeskKnows m d
    → get_elem? (set m.views 0 (DeskSeat d1)) 0 ≡ some (DeskSeat d') → d1 ≡ d'
own m d d1 d' at at' =
    same_desk d1 d'
    (one_at (set m.views 0 (DeskSeat d1)) 0 (DeskSeat d1) (DeskSeat d')
    (set_here m.views 0 (DeskSeat d1) (at_less m.views 0 (DeskSeat d) at)) at')

before-own : (m : Moment) (d d1 d' : DeskView) (e : DeskTry) → DeskKnows m d
    → get_elem? (set m.views 0 (DeskSeat d1)) 0 ≡ some (DeskSeat d')
    → length d1.noted ≡ length d.noted → done_in d1.tried ≡ done_in d.tried ++ e ∷ [] → Before m d'
before-own m d d1 d' e at at' lists adds =
    subst (Before m) (own m d d1 d' at at')
    (record { desk = d; knows = at; lists = omega (arith, lists); made = inr (e, adds) })

before-else : (m : Moment) (b : ℕ) (w : View) (d' : DeskView) → 0 < b
    → get_elem? (set m.views b w) 0 ≡ some (DeskSeat d') → Before m d'
before-else m b w d' one at = record {
  desk = d';
  knows = sym (set_else m.views b 0 w (λ e. omega (arith, e, one))) ∙ at;
  lists = omega arith;
  made = inl refl;
}

from-one : (rows : ℕ) (m : Moment) (b : ℕ) (v : BuilderView) → Reached rows m → BuilderKnows m b v
    → 0 < b
from-one rows m b v reached at =
    let stands = rule_stands rows m reached in
    let k = builder_seat rows m.phases stands.0 m.views b v stands.1 at in
    let named : b ≡ suc k.0 = k.1 in omega (arith, named)

before : (rows : ℕ) (m m' : Moment) → Reached rows m → board.Step m m' → (d' : DeskView)
    → DeskKnows m' d' → Before m d'
before rows m m' reached (board.seat d at e) d' at' =
    let vs : List View = set m.views 0 (DeskSeat (with_builder d)) in
    let more : List View = Builder (new_builder (suc (length d.noted))) ∷ [] in
    let there : get_elem? (vs ++ more) 0 ≡ some (DeskSeat d') =
    subst (λ (x : Moment). DeskKnows x d') e at' in
    let same : with_builder d ≡ d' =
    same_desk (with_builder d) d'
    (one_at (vs ++ more) 0 (DeskSeat (with_builder d)) (DeskSeat d')
    (at_longer vs more 0 (DeskSeat (with_builder d))
    (set_here m.views 0 (DeskSeat (with_builder d)) (at_less m.views 0 (DeskSeat d) at))) there) in
    let longer = length-append d.noted ([] ∷ []) in
    subst (Before m) same
    (record { desk = d; knows = at; lists = omega (arith, longer); made = inl refl })
before rows m m' reached (board.offer r d at _ _ e) d' at' =
    before-own m d (desk_tried (Offered r) (with_row r Out d)) d' (Offered r) at
    (subst (λ (x : Moment). DeskKnows x d') e at') refl
    (done_in-append d.tried (Offered r ∷ []))
before rows m m' reached (board.withdrawal_won r d at _ _ e) d' at' =
    before-own m d (desk_tried (WithdrawalWon r) (with_row r In d)) d' (WithdrawalWon r) at
    (subst (λ (x : Moment). DeskKnows x d') e at') refl
    (done_in-append d.tried (WithdrawalWon r ∷ []))
before rows m m' reached (board.withdrawal_lost r b d at _ _ e) d' at' =
    before-own m d (desk_tried (WithdrawalLost r b) (with_row r (Seen b) d)) d'
    (WithdrawalLost r b) at (subst (λ (x : Moment). DeskKnows x d') e at') refl
    (done_in-append d.tried (WithdrawalLost r b ∷ []))
before rows m m' reached (board.note r b d at _ _ e) d' at' =
    before-own m d
    (desk_tried (ClaimNoted r b) (with_deed b (deed.Claim r) (with_row r (Known b) d)))
    d' (ClaimNoted r b) at (subst (λ (x : Moment). DeskKnows x d') e at')
    (length-set d.noted (b - 1) (noted_of d b ++ deed.Claim r ∷ []))
    (done_in-append d.tried (ClaimNoted r b ∷ []))
before rows m m' reached (board.settle_done r b c d at _ _ e) d' at' =
    before-own m d
    (desk_tried (SettleDone r c) (with_deed b (deed.Finish r c) (with_row r In d))) d'
    (SettleDone r c) at (subst (λ (x : Moment). DeskKnows x d') e at')
    (length-set d.noted (b - 1) (noted_of d b ++ deed.Finish r c ∷ []))
    (done_in-append d.tried (SettleDone r c ∷ []))
before rows m m' reached (board.settle_early r b c p d at _ _ _ e) d' at' =
    let there = subst (λ (x : Moment). DeskKnows x d') e at' in
    subst (Before m) (own m d (desk_tried (SettleEarly r c) d) d' at there)
    (record {
      desk = d;
      knows = at;
      lists = omega arith;
      made = inl (done_in-append d.tried (SettleEarly r c ∷ []) ∙ append-nil (done_in d.tried));
    })
before rows m m' reached (board.claim_won r b v at _ _ e) d' at' =
    before-else m b _ d' (from-one rows m b v reached at)
    (subst (λ (x : Moment). DeskKnows x d') e at')
before rows m m' reached (board.claim_lost r b p v at _ _ _ e) d' at' =
    before-else m b _ d' (from-one rows m b v reached at)
    (subst (λ (x : Moment). DeskKnows x d') e at')
before rows m m' reached (board.finish_done r b c v at _ _ e) d' at' =
    before-else m b _ d' (from-one rows m b v reached at)
    (subst (λ (x : Moment). DeskKnows x d') e at')
before rows m m' reached (board.finish_early r b c p v at _ _ _ e) d' at' =
    before-else m b _ d' (from-one rows m b v reached at)
    (subst (λ (x : Moment). DeskKnows x d') e at')
before rows m m' reached (board.release_done r b c p v at _ _ _ e) d' at' =
    before-else m b _ d' (from-one rows m b v reached at)
    (subst (λ (x : Moment). DeskKnows x d') e at')
before rows m m' reached (board.release_early r b c v at _ _ e) d' at' =
    before-else m b _ d' (from-one rows m b v reached at)
    (subst (λ (x : Moment). DeskKnows x d') e at')

-- ---- 3. a moment back

-- a moment at which just this was done
pub record Earlier (rows n : ℕ) (front : List DeskTry) : Type 0 where
  pub moment : Moment
  pub reached : Reached rows moment
  pub desk : DeskView
  pub knows : DeskKnows moment desk
  pub few : length desk.noted ≤ n
  pub made : done_in desk.tried ≡ front

pub earlier : (rows n : ℕ) (front : List DeskTry) (m : Moment) → Reached rows m → (d : DeskView)
    → DeskKnows m d → length d.noted ≤ n → (more : List DeskTry) → done_in d.tried ≡ front ++ more
    → Earlier rows n front
earlier rows n front m reached d at few [] is = record {
  moment = m;
  reached = reached;
  desk = d;
  knows = at;
  few = few;
  made = is ∙ append-nil front;
}
earlier rows n front m board.made d at few (x ∷ xs) is =
    let same : new_desk rows 0 ≡ d =
    same_desk (new_desk rows 0) d
    (one_at (DeskSeat (new_desk rows 0) ∷ []) 0 (DeskSeat (new_desk rows 0)) (DeskSeat d) refl at)
    in
    absurd (pushed-none front x xs (ap (λ (y : DeskView). done_in y.tried) same ∙ is))
earlier rows n front m' (board.after {m} reached step) d' at few (x ∷ xs) is =
    let b = before rows m m' reached step d' at in
    let few' : length b.desk.noted ≤ n = let lists = b.lists in omega (arith, lists, few) in
    ⊎_elim
    (λ (same : done_in d'.tried ≡ done_in b.desk.tried).
    earlier rows n front m reached b.desk b.knows few' (x ∷ xs) (sym same ∙ is))
    (λ (t : (e : DeskTry) × (done_in d'.tried ≡ done_in b.desk.tried ++ e ∷ [])).
    let ys = all-but-last (done_in b.desk.tried) front t.0 x xs (sym t.1 ∙ is) in
    earlier rows n front m reached b.desk b.knows few' ys.0 ys.1)
    b.made
