-- `FileDesk::tell_builds`: the row with the number is the one that is told.
use Rattle.std.proofs.Common.{◌≡◌, ◌+◌, ◌++◌, length, sym, ap, ◌∙◌}
use Rattle.std.specs.Prelude.{slice_get}
use Rattle.std.specs.String.{string_bytes}
use Rattle.std.proofs.lemmas.Result.{on_ok_weaker}
use Rattle.td_rows.specs.declared.row.Row.{Row}
use Rattle.td_rows.specs.Table.{Table}
use Rattle.td_core.specs.History.{History, rows_of}
use Rattle.td_lasting.specs.DeskAnswers.{builds_line}
use Rattle.td_lasting.specs.DeskView.{DeskView}
use Rattle.td_lasting.proofs.Claimable.{no_row_there, row_same}
use Rattle.td_lasting.proofs.desk.FileDesk.tell_builds.Goals as goal

pub returns-in_default-clause-ok : goal.returns-in_default-clause-ok
returns-in_default-clause-ok g c = λ s row same at.
    let rows = c.rows.ensures.rows
    ∙ ap (λ (v : DeskView). rows_of v.history) c.self.view_is in
    absurd (no_row_there (rows_of c.args.self.now.history) c.args.number c.args.key.now row
    (c.in_default.ensures ∙ ap (λ (t : Table). slice_get t c.args.number) rows) at)

pub put_builds-requires : goal.put_builds-requires
put_builds-requires g c =
    c.next.ensures ∙ ap (λ (h : History). length h.journal + 1) (sym c.books.ensures.history)

pub returns-clause-ok : goal.returns-clause-ok
returns-clause-ok g c = λ s row same at.
    let before = string_bytes c.args.out.now in
    let key = c.args.key.now in
    let read = c.in-Some.row.now in
    let rows = c.rows.ensures.rows
    ∙ ap (λ (v : DeskView). rows_of v.history) c.self.view_is in
    let row_is : read ≡ row =
    row_same (rows_of c.args.self.now.history) c.args.number c.in-Some.field-0-0.now key read row
    (c.in-Some.ensures ∙ ap (λ (t : Table). slice_get t c.args.number) rows) at in
    let history : c.books.result.now.history ≡ c.args.self.now.history =
    c.books.ensures.history ∙ ap (λ (v : DeskView). v.history) c.self.view_is in
    let stock : c.books.result.now.stock ≡ c.args.self.now.stock =
    c.books.ensures.stock ∙ ap (λ (v : DeskView). v.stock) c.self.view_is in
    on_ok_weaker c.put_builds.result
    (λ put. put ∙ ap (λ (h : History). before ++ builds_line s h key read) history
    ∙ ap (λ (r : Row). before ++ builds_line s c.args.self.now.history key r) row_is)
    (c.put_builds.ensures.ok s (same ∙ sym stock))
