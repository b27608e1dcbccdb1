-- `Board::claim_at_once`: what it answers, the call of `compare_exchange` and its type's invariant.
use Rattle.std.proofs.Common.{arith, ◌≡◌, ◌+◌, ◌-◌, ◌<◌, refl, sym, ap, ◌∙◌, subst, inr}
use Rattle.td_board.specs.Phase.{held, word_of}
use Rattle.td_board.specs.declared.views.BuilderTry.TheVariants.{ClaimLost}
use Rattle.td_board.specs.Knowledge.{with_claim, builder_tried}
use Rattle.td_board.specs.Tells.{SeatState, builder_in}
use Rattle.td_board.specs.Seats.{BoardModel, BuilderModel}
use Rattle.td_board.proofs.SeatKeeps.{builder_after, keeps_builder_try}
use Rattle.td_board.proofs.BuilderMoves.{claim_allowed}
use Rattle.td_board.proofs.board.Board.claim_at_once.Goals as goal

pub compare_exchange-found-requires : goal.compare_exchange-found-requires
compare_exchange-found-requires c =
    let same = ap (λ (m : BuilderModel). m.table) c.seat.view_is
    ∙ (c.requires ∙ sym (ap (λ (m : BoardModel). m.table) c.self.view_is)) in
    let words : c.self.inside.table.shared.table_id.words ≡ c.self.inside.rows + 1 =
    c.self.invariant.1 in
    let row : c.args.row < c.self.inside.rows = c.if-row-self.false in
    let is = c.seat.invariant.1 in
    let inside : c.args.row < c.self.inside.table.shared.key =
    subst (λ k. c.args.row < k) (sym c.self.invariant.0) row in (
      same,
      omega arith,
      claim_allowed _ _ _ _ _ _ _
          (c.held_word-held.ensures ∙ ap (λ b. word_of (held b)) is.number_is) c.seat.invariant.0
          (sym is.hand_is ∙ c.in-Free.is) inside,
    )

-- the claim was lost
pub invariant_of-seat : goal.invariant_of-seat
invariant_of-seat c =
    let told = (c.compare_exchange-found.ensures.2 c.args.row refl).1 c.if-found-ne-OPEN.true in
    builder_after _ _ _ (builder_tried (ClaimLost c.args.row) (builder_in c.seat.inside.seat.me.0))
    _ _ told c.compare_exchange-found.ensures.0
    (keeps_builder_try _ _ _ _ (ClaimLost c.args.row) c.seat.invariant.1)

pub returns-then-found-ne-OPEN : goal.returns-then-found-ne-OPEN
returns-then-found-ne-OPEN c =
    let told = (c.compare_exchange-found.ensures.2 c.args.row refl).1 c.if-found-ne-OPEN.true in
    let table_is =
    c.compare_exchange-found.ensures.0 ∙ ap (λ (m : BuilderModel). m.table) c.seat.view_is in
    let after = ap (λ (m : SeatState). builder_in m.0) told
    ∙ ap (λ (m : BuilderModel). builder_tried (ClaimLost c.args.row) m.builder) c.seat.view_is in
    let free = sym (ap (λ (m : BuilderModel). m.builder.hand) c.seat.view_is)
    ∙ (sym c.seat.invariant.1.hand_is ∙ c.in-Free.is) in
    let row : c.args.row < c.self.inside.rows = c.if-row-self.false in
    let board = ap (λ (m : BoardModel). m.rows) c.self.view_is in
    inr (inr (
      free,
      subst (λ n. c.args.row < n) board row,
      λ i. record { table = table_is i; builder = after i },
    ))

-- it was won
pub invariant_of-seat-2 : goal.invariant_of-seat-2
invariant_of-seat-2 c =
    let told = (c.compare_exchange-found.ensures.2 c.args.row refl).0 c.if-found-ne-OPEN.false in
    let is = c.seat.invariant.1 in
    let same = ap (λ (m : BuilderModel). m.table) c.seat.view_is
    ∙ (c.requires ∙ sym (ap (λ (m : BoardModel). m.table) c.self.view_is)) in
    let words : c.self.inside.table.shared.table_id.words ≡ c.self.inside.rows + 1 =
    c.self.invariant.1 in
    let row : c.args.row < c.self.inside.rows = c.if-row-self.false in
    let here : c.args.row < c.self.inside.table.shared.table_id.words - 1 = omega arith in
    builder_after _ c.seat.inside.seat.table_id _
    (with_claim c.args.row (builder_in c.seat.inside.seat.me.0)) _ _ told
    c.compare_exchange-found.ensures.0
    record {
      number_is = is.number_is;
      hand_is = refl;
      positive = is.positive;
      small = is.small;
      inside = subst (λ z. c.args.row < z.words - 1) (sym same) here;
    }
