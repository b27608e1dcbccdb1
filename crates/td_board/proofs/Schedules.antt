-- The rule stands at every moment of every schedule: each kind of step keeps it.
use Rattle.std.proofs.Common.{◌≡◌, ℕ, [], ◌∷◌, ◌++◌, set, sym, refl, ap, ◌∙◌, subst}
use mathlib.Core.Option.{some}
use lib.ListN.{get_elem?}
use Rattle.td_board.specs.declared.views.Deed.TheVariants.{Claim, Finish}
use Rattle.td_board.specs.declared.views.RowView.TheVariants.{In, Out, Seen, Known}
use Rattle.td_board.specs.declared.views.DeskTry.TheVariants.{WithdrawalWon, WithdrawalLost}
use Rattle.td_board.specs.declared.views.DeskTry.TheVariants.{SettleDone, SettleEarly}
use Rattle.td_board.specs.declared.views.DeskTry.TheVariants.{Offered, ClaimNoted}
use Rattle.td_board.specs.declared.views.BuilderTry.TheVariants.{ClaimLost, FinishEarly}
use Rattle.td_board.specs.declared.views.BuilderTry.TheVariants.{ReleaseEarly}
use Rattle.td_board.specs.declared.views.DeskView.{DeskView}
use Rattle.td_board.specs.declared.views.View.TheVariants.{Builder}
use Rattle.td_board.specs.Phase.{closed, opened, held, noted, done}
use Rattle.td_board.specs.Knowledge.{new_desk, with_builder, with_row, with_deed, with_claim}
use Rattle.td_board.specs.Knowledge.{with_finish, with_free_hand, desk_tried}
use Rattle.td_board.specs.Steps.{Moment, DeskKnows, Step, made, after, seat, offer, withdrawal_won}
use Rattle.td_board.specs.Steps.{withdrawal_lost, claim_won, claim_lost, note, finish_done}
use Rattle.td_board.specs.Steps.{finish_early, settle_done, settle_early, release_done}
use Rattle.td_board.specs.Steps.{release_early}
use Rattle.td_board.specs.Rule.{Fits}
use Rattle.td_board.specs.Promises.{RuleStands}
use Rattle.td_board.proofs.RowLaws.{desk_seat, builder_seat}
use Rattle.td_board.proofs.DeskLaws.{make_keeps, seat_keeps, unclaimed_keeps, sight_keeps}
use Rattle.td_board.proofs.DeskLaws.{note_keeps, settling_keeps}
use Rattle.td_board.proofs.BuilderLaws.{claim_keeps, finish_keeps, release_keeps}
use Rattle.td_board.proofs.TryLaws.{desk_try_keeps, builder_try_keeps}

-- the desk knows something that fits
abbrev pub Stands : ℕ → Moment → Type 0
Stands rows m = (d : DeskView) × Fits rows m.phases d m.views

-- with what the desk knows
pub with_desk : (rows : ℕ) (m : Moment) (d : DeskView) → Stands rows m → DeskKnows m d
    → Fits rows m.phases d m.views
with_desk rows m d t at =
    subst (λ x. Fits rows m.phases x m.views) (desk_seat rows m.phases t.0 m.views 0 d t.1 at).1 t.1

-- each kind of step
stands_after : (rows : ℕ) (m n : Moment) → Stands rows m → Step m n → Stands rows n
stands_after rows m n t (seat d at e) =
    subst (Stands rows) (sym e)
    (with_builder d, seat_keeps rows m.phases d m.views (with_desk rows m d t at))
stands_after rows m n t (offer r d at _ is e) =
    subst (Stands rows) (sym e) (
      desk_tried (Offered r) (with_row r Out d),
      unclaimed_keeps rows m.phases d m.views r closed opened Out (d.tried ++ Offered r ∷ []) refl
          refl tt tt (with_desk rows m d t at) is,
    )
stands_after rows m n t (withdrawal_won r d at _ is e) =
    subst (Stands rows) (sym e) (
      desk_tried (WithdrawalWon r) (with_row r In d),
      unclaimed_keeps rows m.phases d m.views r opened closed In
          (d.tried ++ WithdrawalWon r ∷ []) refl refl tt tt (with_desk rows m d t at) is,
    )
stands_after rows m n t (withdrawal_lost r b d at _ is e) =
    subst (Stands rows) (sym e) (
      desk_tried (WithdrawalLost r b) (with_row r (Seen b) d),
      sight_keeps rows m.phases d m.views r b (with_desk rows m d t at) is,
    )
stands_after rows m n t (claim_won r b v at free is e) =
    let k = builder_seat rows m.phases t.0 m.views b v t.1 at in
    let law = claim_keeps rows m.phases t.0 m.views r k.0 v t.1 is
    (subst (λ i. get_elem? m.views i ≡ some (Builder v)) k.1 at) free in
    subst (Stands rows) (sym e) (
      t.0,
      subst (λ i. Fits rows (set m.phases r (held i)) t.0
          (set m.views i (Builder (with_claim r v)))) (sym k.1) law,
    )
stands_after rows m n t (claim_lost r b p v at free is ne e) =
    subst (Stands rows) (sym e)
    (t.0, builder_try_keeps rows m.phases t.0 m.views b v (ClaimLost r) t.1 at)
stands_after rows m n t (note r b d at _ is e) =
    subst (Stands rows) (sym e) (
      desk_tried (ClaimNoted r b) (with_deed b (Claim r) (with_row r (Known b) d)),
      note_keeps rows m.phases d m.views r b (with_desk rows m d t at) is,
    )
stands_after rows m n t (finish_done r b c v at holds is e) =
    let k = builder_seat rows m.phases t.0 m.views b v t.1 at in
    let law = finish_keeps rows m.phases t.0 m.views r k.0 c v t.1
    (is ∙ ap (λ i. some (noted i)) k.1) (subst (λ i. get_elem? m.views i ≡ some (Builder v)) k.1 at)
    holds in
    subst (Stands rows) (sym e) (
      t.0,
      subst (λ i. Fits rows (set m.phases r (done i c)) t.0
          (set m.views i (Builder (with_finish r c v)))) (sym k.1) law,
    )
stands_after rows m n t (finish_early r b c p v at holds is ne e) =
    subst (Stands rows) (sym e)
    (t.0, builder_try_keeps rows m.phases t.0 m.views b v (FinishEarly r c) t.1 at)
stands_after rows m n t (settle_done r b c d at _ is e) =
    subst (Stands rows) (sym e) (
      desk_tried (SettleDone r c) (with_deed b (Finish r c) (with_row r In d)),
      settling_keeps rows m.phases d m.views r b c (with_desk rows m d t at) is,
    )
stands_after rows m n t (settle_early r b c p d at _ is ne e) =
    subst (Stands rows) (sym e) (
      desk_tried (SettleEarly r c) d,
      desk_try_keeps rows m.phases d m.views (SettleEarly r c) (with_desk rows m d t at),
    )
stands_after rows m n t (release_done r b c p v at ended is ne e) =
    let k = builder_seat rows m.phases t.0 m.views b v t.1 at in
    let law = release_keeps rows m.phases t.0 m.views r k.0 c p v t.1 is
    (λ no. ne (no ∙ ap (λ i. done i c) (sym k.1)))
    (subst (λ i. get_elem? m.views i ≡ some (Builder v)) k.1 at) ended in
    subst (Stands rows) (sym e) (
      t.0,
      subst (λ i. Fits rows m.phases t.0 (set m.views i (Builder (with_free_hand v))))
          (sym k.1) law,
    )
stands_after rows m n t (release_early r b c v at ended is e) =
    subst (Stands rows) (sym e)
    (t.0, builder_try_keeps rows m.phases t.0 m.views b v (ReleaseEarly r) t.1 at)

-- by induction on the schedule
pub rule_stands : RuleStands
rule_stands rows m made = (new_desk rows 0, make_keeps rows)
rule_stands rows n (after {m} reached step) =
    stands_after rows m n (rule_stands rows m reached) step
