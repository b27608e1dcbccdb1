-- `show_entry`: what it answers.
use Rattle.std.proofs.Common.{Option, ap, subst, ◌∙◌, IfOk}
use Rattle.std.specs.Option.{option_copied}
use Rattle.std.specs.Prelude.{string_bytes}
use Rattle.std.proofs.lemmas.Result.{IfOk-weaker}
use Rattle.td_journal.specs.declared.entry.Marked.{Marked}
use Rattle.td_journal.specs.Entries.{entry_at}
use Rattle.td_script.specs.Answering.{Answers}
use Rattle.td_script.specs.Replying.{IsFoundPut}
use Rattle.td_script.proofs.AnswerLaws.{Answers-entry, found_entry}
use Rattle.td_script.proofs.answering.show_entry.Goals as goal

pub returns-clause-ok : goal.returns-clause-ok
returns-clause-ok c =
    let b = c.args.book.now in
    let n = c.args.n in
    let found = option_copied c.entry.result in
    let before = string_bytes c.args.out.now in
    let now = string_bytes c.put_asked_entry.new.out in
    subst (λ (o : Option Marked).
    IfOk c.put_asked_entry.result (Answers (found_entry b.history n o) b b before now))
    (c.entry.ensures.entry ∙ ap (λ ms. entry_at ms n) c.journal.ensures)
    (IfOk-weaker c.put_asked_entry.result (IsFoundPut n found before now)
    (Answers (found_entry b.history n found) b b before now)
    (Answers-entry n found b before now) c.put_asked_entry.ensures.ok)
