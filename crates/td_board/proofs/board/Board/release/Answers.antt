-- `Board::release`: what it answers, the call of `load` and its type's invariant.
use Rattle.std.proofs.Common.{refl, sym, ap, ◌∙◌}
use Rattle.td_board.specs.declared.views.BuilderTry.TheVariants.{ReleaseEarly}
use Rattle.td_board.specs.Phase.{done, word_of}
use Rattle.td_board.specs.Knowledge.{with_free_hand, builder_tried, row_of}
use Rattle.td_board.specs.Tells.{SeatState, builder_in}
use Rattle.td_board.specs.Seats.{BuilderModel}
use Rattle.td_board.proofs.SeatKeeps.{builder_use, finished_inside, builder_after}
use Rattle.td_board.proofs.SeatKeeps.{keeps_builder_try}
use Rattle.td_board.proofs.BuilderMoves.{release_allowed}
use Rattle.td_board.proofs.board.Board.release.Goals as goal

pub load-found-requires : goal.load-found-requires
load-found-requires c =
    let is = c.seat.invariant.1 in
    let it = builder_use _ _ (builder_in c.seat.inside.seat.me.0) _ _ _ _ c.in-Finished.row
    c.seat.view_is c.self.view_is c.self.invariant c.requires.table
    (finished_inside c.seat.inside.seat.table_id _ _ _ c.in-Finished.is is.inside) in (
      it.same,
      it.inside,
      release_allowed _ _ _ _ c.in-Finished.outcome _ _ c.seat.invariant.0
          (sym is.hand_is ∙ c.in-Finished.is) it.less,
    )

-- the finish isn't settled yet
pub invariant_of-seat : goal.invariant_of-seat
invariant_of-seat c =
    let is = c.seat.invariant.1 in
    let row = c.in-Finished.row in
    let outcome = c.in-Finished.outcome in
    let word = c.done_word-done.ensures ∙ ap (λ b. word_of (done b outcome)) is.number_is in
    let told = (c.load-found.ensures.2 row outcome refl (sym is.hand_is ∙ c.in-Finished.is)).0
    (c.if-found-done.true ∙ word) in
    builder_after _ _ _ (builder_tried (ReleaseEarly row) (builder_in c.seat.inside.seat.me.0)) _ _
    told c.load-found.ensures.0 (keeps_builder_try _ _ _ _ (ReleaseEarly row) is)

pub returns-then-found-done : goal.returns-then-found-done
returns-then-found-done c =
    let is = c.seat.invariant.1 in
    let row = c.in-Finished.row in
    let outcome = c.in-Finished.outcome in
    let word = c.done_word-done.ensures ∙ ap (λ b. word_of (done b outcome)) is.number_is in
    let told = (c.load-found.ensures.2 row outcome refl (sym is.hand_is ∙ c.in-Finished.is)).0
    (c.if-found-done.true ∙ word) in
    let table_is = c.load-found.ensures.0 ∙ ap (λ (m : BuilderModel). m.table) c.seat.view_is in
    let seat_is = ap (λ (m : BuilderModel). m.builder) c.seat.view_is in
    let same = ap row_of (sym c.in-Finished.is
    ∙ (is.hand_is ∙ ap (λ (m : BuilderModel). m.builder.hand) c.seat.view_is)) in
    let after = ap (λ (m : SeatState). builder_in m.0) told
    ∙ (λ i. builder_tried (ReleaseEarly (same i)) (seat_is i)) in
    λ i. record { table = table_is i; builder = after i }

-- it is
pub invariant_of-seat-2 : goal.invariant_of-seat-2
invariant_of-seat-2 c =
    let is = c.seat.invariant.1 in
    let row = c.in-Finished.row in
    let outcome = c.in-Finished.outcome in
    let word = c.done_word-done.ensures ∙ ap (λ b. word_of (done b outcome)) is.number_is in
    let told = (c.load-found.ensures.2 row outcome refl (sym is.hand_is ∙ c.in-Finished.is)).1
    (λ e. c.if-found-done.false (e ∙ sym word)) in
    builder_after _ c.seat.inside.seat.table_id _
    (with_free_hand (builder_in c.seat.inside.seat.me.0)) _ _ told c.load-found.ensures.0
    record {
      number_is = is.number_is;
      hand_is = refl;
      positive = is.positive;
      small = is.small;
      inside = tt;
    }

pub returns : goal.returns
returns c =
    let is = c.seat.invariant.1 in
    let row = c.in-Finished.row in
    let outcome = c.in-Finished.outcome in
    let word = c.done_word-done.ensures ∙ ap (λ b. word_of (done b outcome)) is.number_is in
    let told = (c.load-found.ensures.2 row outcome refl (sym is.hand_is ∙ c.in-Finished.is)).1
    (λ e. c.if-found-done.false (e ∙ sym word)) in
    let table_is = c.load-found.ensures.0 ∙ ap (λ (m : BuilderModel). m.table) c.seat.view_is in
    let after = ap (λ (m : SeatState). builder_in m.0) told
    ∙ ap (λ (m : BuilderModel). with_free_hand m.builder) c.seat.view_is in
    λ i. record { table = table_is i; builder = after i }
