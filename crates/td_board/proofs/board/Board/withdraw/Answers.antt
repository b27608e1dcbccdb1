-- `Board::withdraw`: what it answers, its calls, its type's invariant and its sums.
use Rattle.std.proofs.Common.{arith, ◌≡◌, ℕ, ◌+◌, ◌/◌, ◌<◌, ◌≤◌, length, refl, sym, ap, ◌∙◌, subst}
use Rattle.std.proofs.Common.{set}
use Rattle.td_board.specs.declared.views.RowView.TheVariants.{In, Seen}
use Rattle.td_board.specs.declared.views.DeskTry.TheVariants.{WithdrawalWon, WithdrawalLost}
use Rattle.td_board.specs.Knowledge.{with_row, desk_tried}
use Rattle.td_board.specs.Tells.{SeatState, desk_in}
use Rattle.td_board.specs.Seats.{DeskModel, IsDesk}
use Rattle.td_board.proofs.SeatKeeps.{desk_use, keeps_in, keeps_seen, keeps_try, desk_after}
use Rattle.td_board.proofs.SeatKeeps.{builder_in_held}
use Rattle.td_board.proofs.DeskMoves.{withdrawal_allowed}
use Rattle.td_board.proofs.board.Board.withdraw.Goals as goal

pub overflow_add-row : goal.overflow_add-row
overflow_add-row c =
    let it = desk_use _ _ c.desk.inside.seat.me _ _ _ _ _ _ c.args.row _ c.desk.view_is
    c.self.view_is c.desk.invariant c.self.invariant c.requires.table c.requires.row in
    let low : c.args.row + 1 ≤ 1048576 = it.low in
    omega arith

pub compare_exchange-found-requires : goal.compare_exchange-found-requires
compare_exchange-found-requires c =
    let it = desk_use _ _ c.desk.inside.seat.me _ _ _ _ _ _ c.args.row _ c.desk.view_is
    c.self.view_is c.desk.invariant c.self.invariant c.requires.table c.requires.row in
    (it.same, it.inside, withdrawal_allowed _ _ _ _ _ _ c.desk.invariant.0 it.here)

-- no builder was faster
pub invariant_of-desk : goal.invariant_of-desk
invariant_of-desk c =
    let told = c.compare_exchange-found.ensures.2 c.args.row refl in
    desk_after _ _ _ (desk_tried (WithdrawalWon c.args.row)
    (with_row c.args.row In (desk_in c.desk.inside.seat.me.0))) _ _ (told.0 c.if-found-eq-OPEN.true)
    c.compare_exchange-found.ensures.0
    (keeps_try _ _ _ _ (WithdrawalWon c.args.row) (keeps_in _ _ _ _ _ c.desk.invariant.1))

pub index_mut-requires : goal.index_mut-requires
index_mut-requires c =
    let it = desk_use _ _ c.desk.inside.seat.me _ _ _ _ _ _ c.args.row _ c.desk.view_is
    c.self.view_is c.desk.invariant c.self.invariant c.requires.table c.requires.row in
    let listed : c.args.row < length c.desk.inside.holders.items = it.listed in
    omega (arith, c.desk.inside.holders.ok)

-- one was
pub invariant_of-desk-2 : goal.invariant_of-desk-2
invariant_of-desk-2 c =
    let it = desk_use _ _ c.desk.inside.seat.me _ _ _ _ _ _ c.args.row _ c.desk.view_is
    c.self.view_is c.desk.invariant c.self.invariant c.requires.table c.requires.row in
    let told = (c.compare_exchange-found.ensures.2 c.args.row refl).1 c.if-found-eq-OPEN.false in
    let b : ℕ = told.0 in
    let is : c.compare_exchange-found.result / 256 ≡ b =
    ap (λ n. n / 256) told.1 ∙ builder_in_held b in
    let count : c.desk.inside.builders ≡ length (desk_in c.desk.inside.seat.me.0).noted =
    c.desk.invariant.1.count in
    let few : c.desk.inside.builders ≤ 64 = c.desk.invariant.1.few in
    let high : b ≤ length (desk_in c.desk.inside.seat.me.0).noted = told.3 in
    let now =
    keeps_seen _ _ _ _ c.args.row b c.desk.invariant.1 it.less (omega arith) told.2 told.3 in
    desk_after _ _ _ (desk_tried (WithdrawalLost c.args.row b)
    (with_row c.args.row (Seen b) (desk_in c.desk.inside.seat.me.0))) _ _ told.4
    c.compare_exchange-found.ensures.0 (keeps_try _ _ _ _ (WithdrawalLost c.args.row b)
    (subst (λ n. IsDesk c.desk.inside.seat.table_id
    (with_row c.args.row (Seen b) (desk_in c.desk.inside.seat.me.0))
    (set c.desk.inside.holders.items c.args.row n) c.desk.inside.builders) (sym is) now))

pub returns : goal.returns
returns c =
    let told = (c.compare_exchange-found.ensures.2 c.args.row refl).1 c.if-found-eq-OPEN.false in
    let b : ℕ = told.0 in
    let is : c.compare_exchange-found.result / 256 ≡ b =
    ap (λ n. n / 256) told.1 ∙ builder_in_held b in
    let desk_is = ap (λ (m : DeskModel). m.desk) c.desk.view_is in
    let high : b ≤ length c.args.desk.now.desk.noted =
    subst (λ (m : DeskModel). b ≤ length m.desk.noted) c.desk.view_is told.3 in
    let low : 0 < b = told.2 in
    let table_is =
    c.compare_exchange-found.ensures.0 ∙ ap (λ (m : DeskModel). m.table) c.desk.view_is in
    let after = ap (λ (m : SeatState). desk_in m.0) told.4
    ∙ (λ i. desk_tried (WithdrawalLost c.args.row (sym is i))
    (with_row c.args.row (Seen (sym is i)) (desk_is i))) in
    (omega arith, omega arith, λ i. record { table = table_is i; desk = after i })
