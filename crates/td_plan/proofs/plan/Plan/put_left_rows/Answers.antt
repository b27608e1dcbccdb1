-- `Plan::put_left_rows`: the comments on all rows.
use Rattle.std.proofs.Common.{subst, sym}
use Rattle.std.proofs.lemmas.Result.{on_ok_weaker}
use Rattle.td_plan.specs.inner.Planned.{AreNumbers}
use Rattle.td_plan.proofs.plan.Plan.put_left_rows.Goals as goal

pub returns-clause-ok : goal.returns-clause-ok
returns-clause-ok c = on_ok_weaker c.put_rows.result (λ more p is. more p is
    (subst (AreNumbers c.args.self.now.movers.items) (sym c.deref.ensures.value)
    (c.in_ok-numbers.ensures p is))) c.put_rows.ensures.ok
