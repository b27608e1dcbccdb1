-- `Board::offer`: the call of `store`, its type's invariant and its sums.
use Rattle.std.proofs.Common.{arith, ◌+◌, ◌≤◌, refl}
use Rattle.td_board.specs.declared.views.RowView.TheVariants.{Out}
use Rattle.td_board.specs.declared.views.DeskTry.TheVariants.{Offered}
use Rattle.td_board.specs.Knowledge.{with_row, desk_tried}
use Rattle.td_board.specs.Tells.{desk_in}
use Rattle.td_board.proofs.SeatKeeps.{desk_use, keeps_out, keeps_try, desk_after}
use Rattle.td_board.proofs.DeskMoves.{offer_allowed}
use Rattle.td_board.proofs.board.Board.offer.Goals as goal

pub overflow_add-row : goal.overflow_add-row
overflow_add-row c =
    let it = desk_use _ _ c.desk.inside.seat.me _ _ _ _ _ _ c.args.row _ c.desk.view_is
    c.self.view_is c.desk.invariant c.self.invariant c.requires.table c.requires.row in
    let low : c.args.row + 1 ≤ 1048576 = it.low in
    omega arith

pub store-requires : goal.store-requires
store-requires c =
    let it = desk_use _ _ c.desk.inside.seat.me _ _ _ _ _ _ c.args.row _ c.desk.view_is
    c.self.view_is c.desk.invariant c.self.invariant c.requires.table c.requires.row in
    (it.same, it.inside, offer_allowed _ _ _ _ _ _ c.desk.invariant.0 it.here)

pub invariant_of-desk : goal.invariant_of-desk
invariant_of-desk c =
    desk_after _ _ _
    (desk_tried (Offered c.args.row) (with_row c.args.row Out (desk_in c.desk.inside.seat.me.0)))
    _ _ (c.store.ensures.2 c.args.row refl) c.store.ensures.0
    (keeps_try _ _ _ _ (Offered c.args.row) (keeps_out _ _ _ _ _ c.desk.invariant.1))
