-- `Board::finish`: what it answers, the call of `compare_exchange` and its type's invariant.
use Rattle.std.proofs.Common.{ℕ, refl, sym, ap, ◌∙◌}
use Rattle.td_board.specs.Phase.{noted, done, word_of}
use Rattle.td_board.specs.declared.views.BuilderTry.TheVariants.{FinishEarly}
use Rattle.td_board.specs.Knowledge.{with_finish, builder_tried, row_of}
use Rattle.td_board.specs.Tells.{SeatState, builder_in}
use Rattle.td_board.specs.Seats.{BuilderModel}
use Rattle.td_board.proofs.SeatKeeps.{builder_use, holding_inside, builder_after, keeps_builder_try}
use Rattle.td_board.proofs.BuilderMoves.{finish_allowed}
use Rattle.td_board.proofs.board.Board.finish.Goals as goal

pub compare_exchange-found-requires : goal.compare_exchange-found-requires
compare_exchange-found-requires c =
    let is = c.seat.invariant.1 in
    let it = builder_use _ _ (builder_in c.seat.inside.seat.me.0) _ _ _ _ c.in-Holding.row
    c.seat.view_is c.self.view_is c.self.invariant c.requires.table
    (holding_inside c.seat.inside.seat.table_id _ _ c.in-Holding.is is.inside) in (
      it.same,
      it.inside,
      finish_allowed _ _ _ _ c.args.outcome _ _ _ _
          (c.noted_word-noted.ensures ∙ ap (λ b. word_of (noted b)) is.number_is)
          (c.done_word-done.ensures ∙ ap (λ b. word_of (done b c.args.outcome)) is.number_is)
          c.seat.invariant.0 (sym is.hand_is ∙ c.in-Holding.is) it.less,
    )

-- the claim isn't noted yet
pub invariant_of-seat : goal.invariant_of-seat
invariant_of-seat c =
    let is = c.seat.invariant.1 in
    let word = c.done_word-done.ensures ∙ ap (λ b. word_of (done b c.args.outcome)) is.number_is in
    let told = (c.compare_exchange-found.ensures.2 c.in-Holding.row c.args.outcome refl word).1
    c.if-found-noted.true in
    builder_after _ _ _ (builder_tried (FinishEarly c.in-Holding.row c.args.outcome)
    (builder_in c.seat.inside.seat.me.0)) _ _ told c.compare_exchange-found.ensures.0
    (keeps_builder_try _ _ _ _ (FinishEarly c.in-Holding.row c.args.outcome) is)

pub returns-then-found-noted : goal.returns-then-found-noted
returns-then-found-noted c =
    let is = c.seat.invariant.1 in
    let word = c.done_word-done.ensures ∙ ap (λ b. word_of (done b c.args.outcome)) is.number_is in
    let told = (c.compare_exchange-found.ensures.2 c.in-Holding.row c.args.outcome refl word).1
    c.if-found-noted.true in
    let table_is =
    c.compare_exchange-found.ensures.0 ∙ ap (λ (m : BuilderModel). m.table) c.seat.view_is in
    let seat_is = ap (λ (m : BuilderModel). m.builder) c.seat.view_is in
    let row = ap row_of (sym c.in-Holding.is
    ∙ (is.hand_is ∙ ap (λ (m : BuilderModel). m.builder.hand) c.seat.view_is)) in
    let after = ap (λ (m : SeatState). builder_in m.0) told
    ∙ (λ i. builder_tried (FinishEarly (row i) c.args.outcome) (seat_is i)) in
    λ i. record { table = table_is i; builder = after i }

-- it is
pub invariant_of-seat-2 : goal.invariant_of-seat-2
invariant_of-seat-2 c =
    let is = c.seat.invariant.1 in
    let row : ℕ = c.in-Holding.row in
    let word = c.done_word-done.ensures ∙ ap (λ b. word_of (done b c.args.outcome)) is.number_is in
    let told = (c.compare_exchange-found.ensures.2 row c.args.outcome refl word).0
    c.if-found-noted.false in
    builder_after _ c.seat.inside.seat.table_id _
    (with_finish row c.args.outcome (builder_in c.seat.inside.seat.me.0)) _ _ told
    c.compare_exchange-found.ensures.0
    record {
      number_is = is.number_is;
      hand_is = refl;
      positive = is.positive;
      small = is.small;
      inside = holding_inside c.seat.inside.seat.table_id _ _ c.in-Holding.is is.inside;
    }
