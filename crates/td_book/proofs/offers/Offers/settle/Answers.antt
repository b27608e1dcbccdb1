-- `Offers::settle`: the row was Known, and is In or Known.
use Rattle.std.proofs.Common.{◌≡◌, ℕ, refl, sym, subst}
use mathlib.Core.Option.{some}
use lib.ListN.{get_elem?}
use Rattle.td_board.specs.declared.views.Deed.TheVariants as deed
use Rattle.td_board.specs.declared.views.RowView.TheVariants.{In, Known}
use Rattle.td_board.specs.declared.views.DeskTry.TheVariants.{SettleDone, SettleEarly}
use Rattle.td_board.specs.Knowledge.{holder_at, with_deed, with_row, desk_tried}
use Rattle.td_board.specs.Seats.{DeskModel}
use Rattle.td_book.proofs.OutRows.{listed-settled}
use Rattle.td_book.proofs.offers.Offers.settle.Goals as goal

pub invariant_of-self : goal.invariant_of-self
invariant_of-self c =
    let old : DeskModel = c.self.inside.seat in
    let row : ℕ = c.args.row in
    let by : ℕ = c.requires.row.0 in
    let closed : DeskModel =
    record old {
      desk = desk_tried (SettleDone row c.args.outcome)
          (with_deed (holder_at old.desk.rows row) (deed.Finish row c.args.outcome)
          (with_row row In old.desk));
    } in
    let kept : DeskModel =
    record old { desk = desk_tried (SettleEarly row c.args.outcome) old.desk } in
    let known : get_elem? old.desk.rows row ≡ some (Known by) =
    subst (λ (m : DeskModel). get_elem? m.desk.rows row ≡ some (Known by))
    (sym c.self.view_is) c.requires.row.1 in
    listed-settled c.settle.result old closed kept c.settle.new.desk _ _ _ row by refl refl
    c.settle.ensures known c.self.invariant
