-- `waits_are_for_first_packages`: its two clauses.
use Rattle.td_plan.proofs.FirstPackages.{no_waits_are_right, waits_are_for_firsts}
use Rattle.td_plan.proofs.plan_laws.waits_are_for_first_packages.Goals as goal

pub returns-clause-told : goal.returns-clause-told
returns-clause-told c = waits_are_for_firsts

pub returns-clause-untold : goal.returns-clause-untold
returns-clause-untold c = no_waits_are_right
