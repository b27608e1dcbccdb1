-- `put_new_step`: nothing where the last line was of the step, else the comment.
use Rattle.std.proofs.Common.{string_bytes, sym, ◌∙◌}
use Rattle.std.proofs.lemmas.Result.{on_ok_weaker}
use Rattle.td_plan.specs.inner.Planned.{is_step}
use Rattle.td_plan.proofs.PlanLines.{step-new, step-same}
use Rattle.td_plan.proofs.plan.put_new_step.Goals as goal

pub returns-then-is_step-clause-ok : goal.returns-then-is_step-clause-ok
returns-then-is_step-clause-ok c =
    step-same (is_step c.args.last c.args.step) c.args.step (string_bytes c.args.out.now)
    (sym c.is_step.ensures ∙ c.if-is_step.true)

pub returns-clause-ok : goal.returns-clause-ok
returns-clause-ok c =
    on_ok_weaker c.put_step.result (λ line.
    step-new (is_step c.args.last c.args.step) c.args.step (string_bytes c.args.out.now) _
    (sym c.is_step.ensures ∙ c.if-is_step.false) line) c.put_step.ensures.ok
