-- `Offers::offer`: the row goes to the end of the list.
use Rattle.std.proofs.Common.{arith, ◌≡◌, ◌<◌, ℕ, List, length, ap}
use mathlib.Core.Option.{some}
use lib.ListN.{get_elem?, set}
use Rattle.td_board.specs.declared.views.RowView.TheVariants.{In}
use Rattle.td_board.specs.Seats.{DeskModel}
use Rattle.td_book.proofs.OutRows.{row_seen, listed_as, listed-offered, listed-room, listed-within}
use Rattle.td_book.proofs.offers.Offers.offer.Goals as goal

pub index_mut-requires : goal.index_mut-requires
index_mut-requires c =
    let within : c.args.row < length c.self.inside.places.items =
    listed-within _ _ _ _ c.args.row In c.self.invariant
    (row_seen _ _ _ _ c.self.view_is c.requires.row) in
    omega (arith, c.self.inside.places.ok)

pub push_reserved-requires : goal.push_reserved-requires
push_reserved-requires c =
    let known : get_elem? c.self.inside.seat.desk.rows c.args.row ≡ some In =
    row_seen _ _ _ _ c.self.view_is c.requires.row in
    let room = listed-room _ _ _ _ c.args.row c.self.invariant known in
    omega (arith, c.self.inside.outs.ok)

pub invariant_of-self : goal.invariant_of-self
invariant_of-self c =
    let outs : List ℕ = c.self.inside.outs.items in
    let known : get_elem? c.self.inside.seat.desk.rows c.args.row ≡ some In =
    row_seen _ _ _ _ c.self.view_is c.requires.row in
    let many : c.len.result ≡ length outs = omega (arith, c.len.ensures, c.self.inside.outs.ok) in
    listed_as _ _ _ _ _ _ _ _ (ap (λ (m : DeskModel). m.desk.rows) c.offer.ensures)
    c.push_reserved.ensures.items (ap (λ n. set c.self.inside.places.items c.args.row n) many)
    c.push_reserved.ensures.capacity
    (listed-offered _ outs c.self.inside.places.items _ c.args.row c.self.invariant known)
