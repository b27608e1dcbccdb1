-- `laid_out`: the call of `of_words` and its type's invariant.
use Rattle.std.proofs.Common.{rules, arith, ◌≡◌, ◌+◌, refl, sym, subst, replicate}
use Rattle.std.proofs.lemmas.Grind.{common_steps}
use Rattle.td_board.specs.Knowledge.{new_desk}
use Rattle.td_board.specs.Seats.{IsDesk}
use Rattle.td_board.proofs.DeskMoves.{make_ruled}
use Rattle.td_board.proofs.SeatKeeps.{keeps_new, desk_after}
use Rattle.td_board.proofs.board.laid_out.Goals as goal

pub of_words-requires : goal.of_words-requires
of_words-requires c =
    make_ruled c.args.rows c.as_slice.result.now
    (first_of (search rules, grind (arith, common_steps)))

pub invariant_of-desk : goal.invariant_of-desk
invariant_of-desk c =
    let made = c.in_ok-table.ensures in
    let zeros : c.in_ok-holders.holders.items ≡ replicate c.args.rows 0 =
    first_of (search rules, grind (arith, common_steps)) in
    let words : c.in_ok-table.seat.table_id.words ≡ c.args.rows + 1 =
    first_of (search rules, grind (arith, common_steps)) in
    desk_after _ _ _ (new_desk c.args.rows 0) _ _ made.4 refl
    (subst (λ hs. IsDesk c.in_ok-table.seat.table_id (new_desk c.args.rows 0) hs 0) (sym zeros)
    (keeps_new c.in_ok-table.seat.table_id c.args.rows words c.requires))
