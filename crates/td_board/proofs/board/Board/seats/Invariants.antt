-- What the loop of `Board::seats` keeps.
use Rattle.std.proofs.Common.{◌≡◌, [], replicate}
use Rattle.td_board.specs.Seats.{new_seats, DeskModel}
use Rattle.td_board.proofs.board.Board.seats.Given as goal

-- the seats so far, and the desk that has a list for each
abbrev pub invariant-loop-number : goal.invariant-loop-number
invariant-loop-number l =
    (l.seats.items ≡ new_seats l.self.table 1 l.number)
    × (l.desk ≡ (let d : DeskModel =
    record {
      table = l.initial.desk.table;
      desk = record {
        rows = l.initial.desk.desk.rows;
        noted = replicate l.number [];
        tried = l.initial.desk.desk.tried;
      };
    } in d))
