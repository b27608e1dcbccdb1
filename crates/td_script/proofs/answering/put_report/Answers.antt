-- `put_report`: what it answers.
use Rattle.std.proofs.Common.{subst, ◌∙◌, IfOk}
use Rattle.std.specs.Prelude.{false, string_bytes}
use Rattle.td_script.specs.Replying.{IsPut}
use Rattle.td_script.proofs.AnswerLaws.{IsPut-and, OnErr-and, OnErr-pushed, OnOk-pushed}
use Rattle.td_script.proofs.answering.put_report.Goals as goal

pub returns-clause-ok : goal.returns-clause-ok
returns-clause-ok g c =
    subst (λ text. IfOk c.and.result (IsPut text false (string_bytes c.args.out.now)
    (string_bytes c.push_str.new.self))) (c.as_str.ensures.value ∙ c.in_ok-text.ensures)
    (IsPut-and _ _ _ false c.push_str.result c.and.result c.and.ensures
    (OnOk-pushed _ _ c.as_str.result.now c.push_str.result c.push_str.ensures.bytes))

pub returns-clause-err : goal.returns-clause-err
returns-clause-err g c =
    OnErr-and _ _ false c.push_str.result c.and.result c.and.ensures
    (OnErr-pushed _ _ c.as_str.result.now c.push_str.result c.push_str.ensures.bytes)
