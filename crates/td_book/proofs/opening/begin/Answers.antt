-- `begin`: the call of `offer_all`.
use Rattle.std.proofs.Common.{◌≡◌, ℕ, replicate, length, ap, sym, ◌∙◌}
use Rattle.td_board.specs.declared.views.RowView.TheVariants.{In}
use Rattle.td_board.specs.declared.views.DeskView.{DeskView}
use Rattle.td_rows.specs.Table.{keys_of}
use Rattle.td_core.specs.History.{rows_of}
use Rattle.td_book.specs.Seen.{seen_off}
use Rattle.td_book.specs.Desk.{InnerModel}
use Rattle.td_book.proofs.Returns.{length-rows}
use Rattle.td_book.proofs.Seeing.{unbuilt_off}
use Rattle.td_book.proofs.Steps.{up_now}
use Rattle.td_book.proofs.opening.begin.Goals as goal

pub offer_all-requires-clause-held : goal.offer_all-requires-clause-held
offer_all-requires-clause-held c =
    let h = c.args.books.history in
    let many : length h.opening ≡ length (rows_of h) = sym (length-rows h) in
    ap (λ (m : InnerModel). m.view) c.new-inner.ensures
    ∙ ap (λ (d : DeskView). d.rows) c.requires.fresh_seat ∙ ap (λ (n : ℕ). replicate n In) many
    ∙ unbuilt_off (rows_of h) (up_now h c.rows-rising.ensures.rising) c.requires.idle
    ∙ sym (ap (λ (m : InnerModel).
    seen_off (keys_of (rows_of m.books.history)) (rows_of m.books.history)) c.new-inner.ensures)
