-- `Board::note`: the clause `one_of_the_boards`, its calls, its type's invariant and its sums.
use Rattle.std.proofs.Common.{arith, ◌≡◌, ℕ, ◌+◌, ◌≤◌, length, refl, sym, ap, ◌∙◌, subst}
use Rattle.td_board.specs.declared.views.RowView.TheVariants.{Known}
use Rattle.td_board.specs.declared.views.Deed.TheVariants.{Claim}
use Rattle.td_board.specs.declared.views.DeskTry.TheVariants.{ClaimNoted}
use Rattle.td_board.specs.Phase.{noted, word_of}
use Rattle.td_board.specs.Knowledge.{with_row, with_deed, desk_tried}
use Rattle.td_board.specs.Tells.{desk_in}
use Rattle.td_board.specs.Seats.{DeskModel}
use Rattle.td_board.proofs.Lists.{at_less}
use Rattle.td_board.proofs.SeatKeeps.{desk_use, keeps_note, keeps_try, desk_after}
use Rattle.td_board.proofs.DeskMoves.{note_allowed}
use Rattle.td_board.proofs.board.Board.note.Goals as goal

pub holder-builder-requires : goal.holder-builder-requires
holder-builder-requires c = at_less _ _ _ c.requires.row.1

pub overflow_add-row : goal.overflow_add-row
overflow_add-row c =
    let it = desk_use _ _ c.desk.inside.seat.me _ _ _ _ _ _ c.args.row _ c.desk.view_is
    c.self.view_is c.desk.invariant c.self.invariant c.requires.table c.requires.row.1 in
    let low : c.args.row + 1 ≤ 1048576 = it.low in
    omega arith

pub store-requires : goal.store-requires
store-requires c =
    let it = desk_use _ _ c.desk.inside.seat.me _ _ _ _ _ _ c.args.row _ c.desk.view_is
    c.self.view_is c.desk.invariant c.self.invariant c.requires.table c.requires.row.1 in
    let at : c.holder-builder.result ≡ c.requires.row.0 =
    c.holder-builder.ensures.seen _ c.requires.row.1 in (
      it.same,
      it.inside,
      note_allowed _ _ _ _ c.requires.row.0 _ _ _
          (c.noted_word.ensures ∙ ap (λ b. word_of (noted b)) at) c.desk.invariant.0 it.here,
    )

pub invariant_of-desk : goal.invariant_of-desk
invariant_of-desk c =
    let it = desk_use _ _ c.desk.inside.seat.me _ _ _ _ _ _ c.args.row _ c.desk.view_is
    c.self.view_is c.desk.invariant c.self.invariant c.requires.table c.requires.row.1 in
    let n : ℕ = c.holder-builder.result in
    let at : n ≡ c.requires.row.0 = c.holder-builder.ensures.seen _ c.requires.row.1 in
    let told = c.store.ensures.2 c.args.row n refl c.noted_word.ensures in
    desk_after _ _ _ (desk_tried (ClaimNoted c.args.row n) (with_deed n (Claim c.args.row)
    (with_row c.args.row (Known n) (desk_in c.desk.inside.seat.me.0)))) _ _ told.2
    c.store.ensures.0
    (keeps_try _ _ _ _ (ClaimNoted c.args.row n)
    (keeps_note _ _ _ _ c.args.row n (Claim c.args.row) c.desk.invariant.1
    (c.desk.invariant.1.seen c.args.row _ it.here ∙ sym at) told.0 told.1))

pub returns-clause-one_of_the_boards : goal.returns-clause-one_of_the_boards
returns-clause-one_of_the_boards c =
    let told = c.store.ensures.2 c.args.row c.holder-builder.result refl c.noted_word.ensures in (
      told.0,
      subst (λ (m : DeskModel). c.holder-builder.result ≤ length m.desk.noted) c.desk.view_is
          told.1,
    )
