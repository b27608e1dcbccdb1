-- `Waiter::wait`: for the package that is chosen, if there is one.
use Rattle.std.proofs.Common.{ap, ◌∙◌}
use Rattle.std.specs.Prelude.{option_map}
use Rattle.td_plan.specs.inner.Waiting.{seen}
use Rattle.td_plan.proofs.WaitSteps.{wait-none, wait-some}
use Rattle.td_plan.proofs.waits.Waiter.wait.Goals as goal

pub returns-in_err-number : goal.returns-in_err-number
returns-in_err-number c = λ p beside s j is at are number.
    ap (option_map seen) c.from_residual.ensures
    ∙ wait-none p beside s c.args.self.now is j c.args.owner.now at c.args.asks.now are c.requires
    (c.in_err-number.ensures p beside s j is at are)

pub returns : goal.returns
returns c = λ p beside s j is at are number.
    wait-some p beside s c.args.self.now is j c.args.owner.now at c.args.asks.now are c.requires
    c.in_ok-number.number c.args.arrival c.in_ok-number.is_older
    (option_map seen c.wait_numbered.result) (c.in_ok-number.ensures p beside s j is at are)
    c.wait_numbered.ensures number
