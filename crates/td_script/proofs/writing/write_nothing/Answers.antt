-- `write_nothing`: what it appends.
use Rattle.std.specs.Prelude.{codes}
use Rattle.td_script.specs.Replies.{refusal_line}
use Rattle.td_script.proofs.AnswerLaws.{OnOk-behind}
use Rattle.td_script.proofs.writing.write_nothing.Goals as goal

pub returns-clause-ok : goal.returns-clause-ok
returns-clause-ok c =
    OnOk-behind _ _ _ (refusal_line (codes "NothingApplies")) _ c.write_skips.result
    c.in_ok-put_refusal.ensures.ok c.write_skips.ensures.ok
