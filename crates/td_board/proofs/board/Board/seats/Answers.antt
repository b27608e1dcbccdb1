-- `Board::seats`: its loop.
use Rattle.std.proofs.Common.{rules, arith, ◌≡◌, ℕ, [], ◌∷◌, ◌++◌, replicate, sym, ap, ◌∙◌, add-one}
use Rattle.std.proofs.lemmas.Grind.{common_steps}
use Rattle.td_board.specs.Knowledge.{with_builder}
use Rattle.td_board.specs.Seats.{new_seats, DeskModel}
use Rattle.td_board.proofs.Lists.{replicate-snoc}
use Rattle.td_board.proofs.SeatKeeps.{new_seats-snoc}
use Rattle.td_board.proofs.board.Board.seats.Goals as goal

pub loop-number-preserved : goal.loop-number-preserved
loop-number-preserved c =
    let was = c.loop-number.invariant in
    let n : ℕ = c.loop-number.number in
    let z = c.args.self.now.table in
    let pushed = c.in_ok-push.ensures.items in
    let items : c.push.new.self.items ≡ c.loop-number.seats.items ++ c.seat.result ∷ [] =
    first_of (search rules, grind (arith, common_steps)) in
    let seats = items ∙ ((λ i. was.0 i ++ c.seat.ensures.builder i ∷ [])
    ∙ (new_seats-snoc z 1 n ∙ ap (new_seats z 1) (sym (add-one n)))) in
    let rows = c.args.desk.now.desk.rows in
    let desk = c.seat.ensures.desk
    ∙ (ap (λ (m : DeskModel). let r : DeskModel = record m { desk = with_builder m.desk } in r)
    was.1
    ∙ (λ i. record {
      table = c.args.desk.now.table;
      desk = record {
        rows = rows;
        noted = (replicate-snoc n [] ∙ ap (λ k. replicate k []) (sym (add-one n))) i;
        tried = c.args.desk.now.desk.tried;
      };
    })) in
    (seats, desk)
