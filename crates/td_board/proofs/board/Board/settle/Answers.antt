-- `Board::settle`: what it answers, its calls, its type's invariant and its sums.
use Rattle.std.proofs.Common.{sym, arith, ◌≡◌, ℕ, ◌+◌, ◌≤◌, refl, ap, ◌∙◌}
use Rattle.td_board.specs.declared.views.RowView.TheVariants.{In}
use Rattle.td_board.specs.declared.views.Deed.TheVariants.{Finish}
use Rattle.td_board.specs.Phase.{done, word_of}
use Rattle.td_board.specs.declared.views.DeskTry.TheVariants.{SettleDone, SettleEarly}
use Rattle.td_board.specs.Knowledge.{with_row, with_deed, desk_tried, holder_at}
use Rattle.td_board.specs.Tells.{SeatState, desk_in}
use Rattle.td_board.specs.Seats.{DeskModel}
use Rattle.td_board.proofs.Lists.{at_less}
use Rattle.td_board.proofs.SeatKeeps.{desk_use, keeps_settling, keeps_try, desk_after}
use Rattle.td_board.proofs.SeatKeeps.{holder_at-known}
use Rattle.td_board.proofs.DeskMoves.{settling_allowed}
use Rattle.td_board.proofs.board.Board.settle.Goals as goal

pub holder-requires : goal.holder-requires
holder-requires c = at_less _ _ _ c.requires.row.1

pub overflow_add-row : goal.overflow_add-row
overflow_add-row c =
    let it = desk_use _ _ c.desk.inside.seat.me _ _ _ _ _ _ c.args.row _ c.desk.view_is
    c.self.view_is c.desk.invariant c.self.invariant c.requires.table c.requires.row.1 in
    let low : c.args.row + 1 ≤ 1048576 = it.low in
    omega arith

pub compare_exchange-found-requires : goal.compare_exchange-found-requires
compare_exchange-found-requires c =
    let it = desk_use _ _ c.desk.inside.seat.me _ _ _ _ _ _ c.args.row _ c.desk.view_is
    c.self.view_is c.desk.invariant c.self.invariant c.requires.table c.requires.row.1 in
    let at : c.holder.result ≡ c.requires.row.0 = c.holder.ensures.known _ c.requires.row.1 in (
      it.same,
      it.inside,
      settling_allowed _ _ _ _ c.requires.row.0 c.args.outcome _ _ _
          (c.done_word-done.ensures ∙ ap (λ b. word_of (done b c.args.outcome)) at)
          c.desk.invariant.0 it.here,
    )

-- the build didn't end so
pub invariant_of-desk : goal.invariant_of-desk
invariant_of-desk c =
    let told = (c.compare_exchange-found.ensures.2 c.args.row c.holder.result c.args.outcome refl
    c.done_word-done.ensures).1 c.if-found-done.true in
    desk_after _ _ _
    (desk_tried (SettleEarly c.args.row c.args.outcome) (desk_in c.desk.inside.seat.me.0)) _ _ told
    c.compare_exchange-found.ensures.0
    (keeps_try _ _ _ _ (SettleEarly c.args.row c.args.outcome) c.desk.invariant.1)

pub returns-then-found-done : goal.returns-then-found-done
returns-then-found-done c =
    let told = (c.compare_exchange-found.ensures.2 c.args.row c.holder.result c.args.outcome refl
    c.done_word-done.ensures).1 c.if-found-done.true in
    let table_is =
    c.compare_exchange-found.ensures.0 ∙ ap (λ (m : DeskModel). m.table) c.desk.view_is in
    let after =
    ap (λ (m : SeatState). desk_in m.0) told
    ∙ ap (λ (m : DeskModel). desk_tried (SettleEarly c.args.row c.args.outcome) m.desk)
    c.desk.view_is in
    λ i. record { table = table_is i; desk = after i }

-- it did
pub invariant_of-desk-2 : goal.invariant_of-desk-2
invariant_of-desk-2 c =
    let n : ℕ = c.holder.result in
    let told = (c.compare_exchange-found.ensures.2 c.args.row n c.args.outcome refl
    c.done_word-done.ensures).0 c.if-found-done.false in
    desk_after _ _ _ (desk_tried (SettleDone c.args.row c.args.outcome)
    (with_deed n (Finish c.args.row c.args.outcome)
    (with_row c.args.row In (desk_in c.desk.inside.seat.me.0)))) _ _ told
    c.compare_exchange-found.ensures.0
    (keeps_try _ _ _ _ (SettleDone c.args.row c.args.outcome)
    (keeps_settling _ _ _ _ c.args.row n (Finish c.args.row c.args.outcome) c.desk.invariant.1))

pub returns : goal.returns
returns c =
    let b : ℕ = holder_at c.args.desk.now.desk.rows c.args.row in
    let n : ℕ = c.holder.result in
    let same : n ≡ b = c.holder.ensures.known c.requires.row.0 c.requires.row.1
    ∙ sym
    (holder_at-known c.args.desk.now.desk.rows c.args.row c.requires.row.0 c.requires.row.1) in
    let told = (c.compare_exchange-found.ensures.2 c.args.row n c.args.outcome refl
    c.done_word-done.ensures).0 c.if-found-done.false in
    let table_is =
    c.compare_exchange-found.ensures.0 ∙ ap (λ (m : DeskModel). m.table) c.desk.view_is in
    let desk_is = ap (λ (m : DeskModel). m.desk) c.desk.view_is in
    let after = ap (λ (m : SeatState). desk_in m.0) told
    ∙ (λ i. desk_tried (SettleDone c.args.row c.args.outcome)
    (with_deed (same i) (Finish c.args.row c.args.outcome) (with_row c.args.row In (desk_is i)))) in
    λ i. record { table = table_is i; desk = after i }
