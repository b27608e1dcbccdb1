-- `Plan::put_before`: the comments on the step, and on the part.
use Rattle.std.proofs.Common.{string_bytes, sym, ◌∙◌}
use Rattle.std.proofs.lemmas.Result.{on_ok_weaker}
use Rattle.td_plan.specs.inner.Planned.{is_part, is_step, sources_at}
use Rattle.td_plan.proofs.PlanLines.{before-new, before-same}
use Rattle.td_plan.proofs.plan.Plan.put_before.Goals as goal

pub returns-then-is_part-clause-ok : goal.returns-then-is_part-clause-ok
returns-then-is_part-clause-ok c = λ all.
    before-same (is_step c.args.last c.args.step) (is_part c.args.last c.args.first) c.args.step
    (sources_at c.args.self.now.movers.items c.args.members.now) (string_bytes c.args.out.now) _
    (sym c.is_part.ensures ∙ c.if-is_part.true) c.in_ok-put_new_step.ensures.ok

pub returns-clause-ok : goal.returns-clause-ok
returns-clause-ok c =
    on_ok_weaker c.put_part.result (λ more all.
    before-new (is_step c.args.last c.args.step) (is_part c.args.last c.args.first) c.args.step
    (sources_at c.args.self.now.movers.items c.args.members.now) (string_bytes c.args.out.now)
    (string_bytes c.put_new_step.new.out) _ (sym c.is_part.ensures ∙ c.if-is_part.false)
    c.in_ok-put_new_step.ensures.ok (more all)) c.put_part.ensures.ok
