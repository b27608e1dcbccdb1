-- `Offers::outs`: what the list has.
use Rattle.std.proofs.Common.{◌≡◌, ◌∙◌, List, ℕ, subst, sym}
use Rattle.std.specs.List.Sorted.{IsPermutation}
use Rattle.td_board.specs.Seats.{DeskModel}
use Rattle.td_book.specs.inner.OutRows.{outs_of}
use Rattle.td_naming.proofs.Numbered.{ok_more}
use Rattle.td_book.proofs.OutRows.{listed-all}
use Rattle.td_book.proofs.offers.Offers.outs.Goals as goal

pub returns : goal.returns
returns c =
    let outs : List ℕ = c.self.inside.outs.items in
    let rows = c.args.self.now.desk.rows in
    let all : IsPermutation (outs_of c.self.inside.seat.desk.rows) outs =
    listed-all _ _ _ _ c.self.invariant in
    let now : IsPermutation (outs_of rows) outs =
    subst (λ (m : DeskModel). IsPermutation (outs_of m.desk.rows) outs) c.self.view_is all in
    ok_more (λ numbers. numbers.items ≡ c.deref.result.now)
    (λ numbers. IsPermutation (outs_of rows) numbers.items) c.from_slice.result
    (λ numbers is. subst (IsPermutation (outs_of rows)) (sym (is ∙ c.deref.ensures.value)) now)
    c.from_slice.ensures.items
