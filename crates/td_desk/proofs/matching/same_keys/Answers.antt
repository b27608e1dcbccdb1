-- `same_keys`: what it answers.
use Rattle.std.proofs.Common.{rules}
use Rattle.td_desk.proofs.EqualReceipts.{same_keys-apart}
use Rattle.td_desk.proofs.matching.same_keys.Goals as goal

pub returns-then-these-those : goal.returns-then-these-those
returns-then-these-those c = same_keys-apart c.args.these.now c.args.those.now (search rules)
