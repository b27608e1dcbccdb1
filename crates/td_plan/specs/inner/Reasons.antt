-- The reasons as the code has them.
use Rattle.td_plan.specs.declared.reasons.Reason.{Reason}
use Rattle.td_plan.specs.declared.reasons.Reason.TheVariants as code
use Rattle.td_plan.specs.Reasons as spec

-- a reason of the code, as the definitions have it
abbrev pub reason_of : Reason → spec.Reason
reason_of code.State = spec.state
reason_of code.Number = spec.number
reason_of code.Old = spec.old
reason_of code.All = spec.all
reason_of code.Source = spec.source
