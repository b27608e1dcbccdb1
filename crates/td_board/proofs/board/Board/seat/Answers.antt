-- `Board::seat`: the call of `split_seat`.
use Rattle.std.proofs.Common.{arith, ◌≡◌, ◌+◌, sym, ap, ◌∙◌}
use Rattle.td_board.specs.Tells.{SeatState, desk_in}
use Rattle.td_board.specs.Seats.{DeskModel, BoardModel}
use Rattle.td_board.proofs.DeskMoves.{seat_allowed}
use Rattle.td_board.proofs.board.Board.seat.Goals as goal

pub split_seat-seat-requires : goal.split_seat-seat-requires
split_seat-seat-requires c =
    let same = ap (λ (m : DeskModel). m.table) c.desk.view_is
    ∙ (c.requires.table ∙ sym (ap (λ (m : BoardModel). m.table) c.self.view_is)) in
    let words : c.self.inside.table.shared.table_id.words ≡ c.self.inside.rows + 1 =
    c.self.invariant.1 in (
      same,
      omega arith,
      seat_allowed _ _ _ (desk_in c.desk.inside.seat.me.0)
          (ap (λ (m : SeatState). m.0) c.desk.invariant.0),
    )
