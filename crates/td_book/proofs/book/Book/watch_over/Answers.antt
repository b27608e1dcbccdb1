-- `Book::watch_over`: what it answers.
use Rattle.std.proofs.Common.{◌≡◌, None, map, ap, sym, subst, ◌∙◌}
use Rattle.td_rows.specs.Table.{Table, keys_of}
use Rattle.td_core.specs.History.{rows_of}
use Rattle.td_core.proofs.Phases.{keys_of-rows_of}
use Rattle.td_book.specs.declared.book.Book.TheInside.{Inside}
use Rattle.td_book.specs.Desk.{BookModel}
use Rattle.td_book.specs.Watching.{is_there, group_in, watch_of}
use Rattle.td_book.specs.WatchCalls.{watch_stop}
use Rattle.td_book.specs.inner.Tallies.{AreTallied}
use Rattle.td_book.specs.inner.WatchOver.{view_of}
use Rattle.td_book.proofs.Groups.{stop_none}
use Rattle.td_book.proofs.book.Book.watch_over.Goals as goal

pub returns-in-Ok-over : goal.returns-in-Ok-over
returns-in-Ok-over c =
    let given = c.args.given.now in
    let now = c.rows-rows.result.now in
    let h = c.args.self.now.history in
    let watch = c.in-Ok-over.watch in
    let rows : now ≡ rows_of h =
    c.rows-rows.ensures.rows
    ∙ ap (λ (s : Inside). rows_of s.inner.books.history) c.self-inside.view_is
    ∙ ap (λ (b : BookModel). rows_of b.history) c.self.view_is in
    let stop : watch_stop (rows_of h) c.args.groups given ≡ None =
    ap (λ (t : Table). watch_stop t c.args.groups given) (sym rows)
    ∙ stop_none now c.args.groups given (sym c.in_default.ensures)
    (sym c.in_default-set_groups.ensures.twice) (sym c.in_default-outside.ensures) in
    let groups = ap (λ v. v.items) c.in-Ok-over.ensures.groups ∙ c.in_default-set_groups.ensures.set
    ∙ ap (λ (t : Table). map (group_in given) (keys_of t)) rows
    ∙ ap (map (group_in given)) (keys_of-rows_of h) in
    let view : view_of watch ≡ watch_of h.opening c.args.groups given =
    λ j. record { groups = c.in-Ok-over.ensures.len j; of_rows = groups j } in (
      stop,
      view,
      subst (λ (t : Table). AreTallied is_there watch.installed.items watch.groups.items t) rows
          c.in-Ok-over.ensures.counts,
    )
