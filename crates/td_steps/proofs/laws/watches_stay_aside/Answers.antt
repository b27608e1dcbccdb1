-- `watches_stay_aside`: its two clauses.
use Rattle.td_steps.proofs.Watches.{watches_stay_aside, watches_are_refused_for_reasons}
use Rattle.td_steps.proofs.laws.watches_stay_aside.Goals as goal

pub returns-clause-aside : goal.returns-clause-aside
returns-clause-aside c = watches_stay_aside

pub returns-clause-reasons : goal.returns-clause-reasons
returns-clause-reasons c = watches_are_refused_for_reasons
