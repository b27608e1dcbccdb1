-- `put_asked`: a row and an entry.
use Rattle.std.proofs.Common.{List, Option, sym, ap, subst, ◌∙◌}
use Rattle.std.specs.String.{string_bytes}
use Rattle.std.proofs.lemmas.Result.{IfOk-weaker}
use Rattle.td_rows.specs.declared.row.Row.{Row}
use Rattle.td_rows.specs.Table.{Table, row_of}
use Rattle.td_journal.specs.declared.entry.Marked.{Marked}
use Rattle.td_journal.specs.Entries.{entry_at}
use Rattle.td_core.specs.History.{rows_of}
use Rattle.td_script.specs.Replies.{asks}
use Rattle.td_script.specs.Replying.{IsFoundPut, IsRowPut}
use Rattle.td_script.specs.declared.request.Request.{Request}
use Rattle.td_lasting.specs.DeskView.{IsShown}
use Rattle.td_lasting.specs.Terms.{setting_of}
use Rattle.td_lasting.proofs.Asked.{entry_shown, row_shown}
use Rattle.td_lasting.proofs.asking.put_asked.Goals as goal

pub returns-in-Row-clause-ok : goal.returns-in-Row-clause-ok
returns-in-Row-clause-ok c =
    let h = c.args.books.now.history in
    let k = c.in-Row.key in
    let before = string_bytes c.args.out.now in
    let now = string_bytes c.put_asked_row.new.out in
    IfOk-weaker c.put_asked_row.result _ _
    (λ refused put. subst (λ (r : Request).
    IsShown (asks (setting_of c.args.books.now.stock c.args.terms.now) h r) before now refused)
    (sym c.in-Row.is)
    (row_shown h k (row_of (rows_of h) k) before now refused
    (subst (λ (o : Option Row). IsRowPut k o before now refused)
    (c.get.ensures ∙ ap (λ (t : Table). row_of t k) c.rows.ensures.rows) put)))
    c.put_asked_row.ensures.ok

pub returns-in-Entry-clause-ok : goal.returns-in-Entry-clause-ok
returns-in-Entry-clause-ok c =
    let h = c.args.books.now.history in
    let n = c.in-Entry.n in
    let before = string_bytes c.args.out.now in
    let now = string_bytes c.put_asked_entry.new.out in
    IfOk-weaker c.put_asked_entry.result _ _
    (λ refused put. subst (λ (r : Request).
    IsShown (asks (setting_of c.args.books.now.stock c.args.terms.now) h r) before now refused)
    (sym c.in-Entry.is)
    (entry_shown h n (entry_at h.journal n) before now refused
    (subst (λ (o : Option Marked). IsFoundPut n o before now refused)
    (c.entry.ensures.entry ∙ ap (λ (ms : List Marked). entry_at ms n) c.journal.ensures) put)))
    c.put_asked_entry.ensures.ok
