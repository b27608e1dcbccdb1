-- `show_row`: what it answers.
use Rattle.std.proofs.Common.{ap, subst, ◌∙◌, IfOk}
use Rattle.std.specs.Option.{option_copied}
use Rattle.std.specs.Prelude.{string_bytes}
use Rattle.std.proofs.lemmas.Result.{IfOk-weaker}
use Rattle.td_rows.specs.Table.{row_of}
use Rattle.td_script.specs.Answering.{Answers}
use Rattle.td_script.specs.Replies.{shows_row}
use Rattle.td_script.specs.Replying.{IsRowPut}
use Rattle.td_script.proofs.AnswerLaws.{Answers-row}
use Rattle.td_script.proofs.answering.show_row.Goals as goal

pub returns-clause-ok : goal.returns-clause-ok
returns-clause-ok c =
    let b = c.args.book.now in
    let k = c.args.key.now in
    let found = option_copied c.get.result in
    let before = string_bytes c.args.out.now in
    let now = string_bytes c.put_asked_row.new.out in
    subst (λ o. IfOk c.put_asked_row.result (Answers (shows_row b.history k o) b b before now))
    (c.get.ensures ∙ ap (λ t. row_of t k) c.rows.ensures.rows)
    (IfOk-weaker c.put_asked_row.result (IsRowPut k found before now)
    (Answers (shows_row b.history k found) b b before now)
    (Answers-row k found b before now) c.put_asked_row.ensures.ok)
