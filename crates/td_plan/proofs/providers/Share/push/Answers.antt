-- `Share::push`: what it answers.
use Rattle.std.proofs.Common.{arith}
use Rattle.std.proofs.lemmas.Grind.{text_groups}
use Rattle.td_plan.proofs.providers.Share.push.Goals as goal

pub returns-in_ok-push-in-Vacant : goal.returns-in_ok-push-in-Vacant
returns-in_ok-push-in-Vacant c = λ q. grind (arith, text_groups)

pub returns-in_ok-push-in-Occupied : goal.returns-in_ok-push-in-Occupied
returns-in_ok-push-in-Occupied c = λ q. grind (arith, text_groups)
