-- `Offers::note`: the row was Seen, and is Known.
use Rattle.std.proofs.Common.{ℕ, ap, refl}
use Rattle.td_board.specs.declared.views.RowView.TheVariants.{Known, Seen}
use Rattle.td_board.specs.Seats.{DeskModel}
use Rattle.td_book.proofs.OutRows.{listed-kept}
use Rattle.td_book.proofs.offers.Offers.note.Goals as goal

pub invariant_of-self : goal.invariant_of-self
invariant_of-self c =
    let n : ℕ = c.note.result in
    listed-kept _ _ _ _ _ c.args.row (Seen n) (Known n)
    (ap (λ (m : DeskModel). m.desk.rows) c.note.ensures.desk) c.note.ensures.builder refl refl
    c.self.invariant
