-- `Offers::is_any_out`: whether the list has any.
use Rattle.std.proofs.Common.{◌==◌, ◌∙◌, not, ap}
use Rattle.td_board.specs.Seats.{DeskModel}
use Rattle.td_book.specs.inner.OutRows.{is_any_out}
use Rattle.td_book.proofs.OutRows.{listed-any}
use Rattle.td_book.proofs.offers.Offers.is_any_out.Goals as goal

pub returns : goal.returns
returns c =
    ap not (c.is_empty.ensures ∙ ap (λ n. n == 0) c.self.inside.outs.ok.0)
    ∙ listed-any _ _ _ _ c.self.invariant
    ∙ ap (λ (m : DeskModel). is_any_out m.desk.rows) c.self.view_is
