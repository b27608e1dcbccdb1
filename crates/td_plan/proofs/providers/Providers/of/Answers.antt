-- `Providers::of`: what it answers.
use Rattle.td_plan.proofs.Shared.{of-all}
use Rattle.td_plan.proofs.providers.Providers.of.Goals as goal

pub returns : goal.returns
returns g c =
    of-all c.args.archive.now c.args.movers.now _ c.in_ok-shares.ensures
