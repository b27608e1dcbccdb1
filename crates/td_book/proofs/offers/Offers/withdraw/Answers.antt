-- `Offers::withdraw`: the last of the list takes the row's place.
use Rattle.std.proofs.Common.{arith, ◌≡◌, ◌<◌, ◌-◌, ◌+◌, ℕ, List, length, ap, sym, refl, ◌∙◌}
use mathlib.Core.Option.{some}
use lib.ListN.{get_elem?, get_or, set}
use Rattle.std.specs.Prelude.{slice_index}
use Rattle.std.specs.List.{swap_remove}
use Rattle.std.proofs.lemmas.List.{get_or_default}
use Rattle.td_board.specs.declared.views.RowView.TheVariants.{Out}
use Rattle.td_book.proofs.OutRows.{row_seen, listed_as, listed-below, listed-place, listed-taken}
use Rattle.td_book.proofs.OutRows.{listed-within, withdrawn_rows}
use Rattle.td_book.proofs.offers.Offers.withdraw.Goals as goal

pub index-place-requires : goal.index-place-requires
index-place-requires c =
    let within : c.args.row < length c.self.inside.places.items =
    listed-within _ _ _ _ c.args.row Out c.self.invariant
    (row_seen _ _ _ _ c.self.view_is c.requires.row) in
    omega (arith, c.self.inside.places.ok)

pub overflow_sub-len : goal.overflow_sub-len
overflow_sub-len c =
    let at = listed-place _ _ _ _ c.args.row c.self.invariant
    (row_seen _ _ _ _ c.self.view_is c.requires.row) in
    omega (arith, at.0, c.len.ensures, c.self.inside.outs.ok)

pub index-last-requires : goal.index-last-requires
index-last-requires c =
    let at = listed-place _ _ _ _ c.args.row c.self.invariant
    (row_seen _ _ _ _ c.self.view_is c.requires.row) in
    omega (arith, at.0, c.len.ensures, c.self.inside.outs.ok)

pub index_mut-requires : goal.index_mut-requires
index_mut-requires c =
    let outs : List ℕ = c.self.inside.outs.items in
    let at = listed-place _ _ _ _ c.args.row c.self.invariant
    (row_seen _ _ _ _ c.self.view_is c.requires.row) in
    let many : c.len.result ≡ length outs = omega (arith, c.len.ensures, c.self.inside.outs.ok) in
    let end : c.len.result - 1 < length outs = omega (arith, at.0) in
    let last : c.index-last.result.now ≡ slice_index outs (c.len.result - 1) =
    c.index-last.ensures ∙ get_or_default outs (c.len.result - 1) c.index-last.result.now 0 end in
    let below : slice_index outs (c.len.result - 1) < length c.self.inside.seat.desk.rows =
    listed-below _ _ _ _ (c.len.result - 1) c.self.invariant end in
    let within : c.index-last.result.now < length c.self.inside.places.items =
    omega (arith, c.self.invariant.long) in
    omega (arith, c.self.inside.places.ok)

pub swap_remove-requires : goal.swap_remove-requires
swap_remove-requires c =
    let places : List ℕ = c.self.inside.places.items in
    let known : get_elem? c.self.inside.seat.desk.rows c.args.row ≡ some Out =
    row_seen _ _ _ _ c.self.view_is c.requires.row in
    let at = listed-place _ _ _ _ c.args.row c.self.invariant known in
    let within : c.args.row < length places =
    listed-within _ _ _ _ c.args.row Out c.self.invariant known in
    let place : c.index-place.result.now ≡ slice_index places c.args.row =
    c.index-place.ensures ∙ get_or_default places c.args.row c.index-place.result.now 0 within in
    omega (arith, at.0, c.self.inside.outs.ok)

pub invariant_of-self : goal.invariant_of-self
invariant_of-self c =
    let row : ℕ = c.args.row in
    let rows = c.self.inside.seat.desk.rows in
    let outs : List ℕ = c.self.inside.outs.items in
    let places : List ℕ = c.self.inside.places.items in
    let left : List ℕ = c.swap_remove.new.self.items in
    let known : get_elem? rows row ≡ some Out =
    row_seen _ _ _ _ c.self.view_is c.requires.row in
    let gone = withdrawn_rows c.withdraw-withdrawal.result row c.self.inside.seat
    c.withdraw-withdrawal.new.desk c.withdraw-withdrawal.ensures in
    let at = listed-place _ _ _ _ row c.self.invariant known in
    let long : c.len.result ≡ length outs = c.len.ensures ∙ c.self.inside.outs.ok.0 in
    let end : length outs - 1 < length outs = omega (arith, at.0) in
    let within : row < length places = listed-within _ _ _ _ row Out c.self.invariant known in
    let place : c.index-place.result.now ≡ slice_index places row =
    c.index-place.ensures ∙ get_or_default places row c.index-place.result.now 0 within in
    let last : c.index-last.result.now ≡ slice_index outs (length outs - 1) =
    c.index-last.ensures ∙ ap (λ n. get_or outs (n - 1) c.index-last.result.now) long
    ∙ get_or_default outs (length outs - 1) c.index-last.result.now 0 end in
    let many : length left + 1 ≡ length outs =
    ap (λ n. n + 1) (sym c.swap_remove.new.self.ok.0) ∙ c.swap_remove.ensures.len
    ∙ c.self.inside.outs.ok.0 in
    listed_as _ _ left left _ _ _ _ gone.2 refl (λ j. set places (last j) (place j))
    c.swap_remove.ensures.capacity
    (listed-taken rows outs places _ row gone.0 c.self.invariant known gone.1 left
    c.swap_remove.result
    (c.swap_remove.ensures.items ∙ ap (λ k. swap_remove outs k c.swap_remove.result) place)
    many
    (λ d lt. ap (λ k. get_or left k d) (sym place)
    ∙ c.swap_remove.ensures.by_index.0 d (omega (arith, place, c.self.inside.outs.ok.0))
    ∙ ap (λ n. get_or outs (n - 1) d) c.self.inside.outs.ok.0)
    (λ k d apart lt. c.swap_remove.ensures.by_index.1 k d (λ e. apart (e ∙ place))
    (omega (arith, c.self.inside.outs.ok.0))))
