-- `without_zeros`: what it answers and its loop.
use Rattle.std.proofs.Common.{◌∙◌, sym, ap, arith}
use Rattle.td_version.specs.Comparing.{without_zeros}
use Rattle.td_version.proofs.Digits.{without_zeros-zero, without_zeros-other, without_zeros-none}
use Rattle.td_version.proofs.Digits.{rest-at_one}
use Rattle.td_version.proofs.order.without_zeros.Goals as goal

pub loop-rest-preserved : goal.loop-rest-preserved
loop-rest-preserved c =
    let z = without_zeros-zero c.loop-rest.rest.now (omega arith) (omega arith) in
    ap without_zeros (rest-at_one c.loop-rest.rest.now) ∙ sym z ∙ c.loop-rest.invariant

pub returns-in_default : goal.returns-in_default
returns-in_default c =
    sym (without_zeros-none c.loop-rest.rest.now (omega arith)) ∙ c.loop-rest.invariant

pub returns-in_default-2 : goal.returns-in_default-2
returns-in_default-2 c =
    sym (without_zeros-other c.loop-rest.rest.now (λ e. omega arith)) ∙ c.loop-rest.invariant
