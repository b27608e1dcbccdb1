-- `each_once`: what it answers and its loop.
use Rattle.std.proofs.Common.{◌∙◌, arith}
use Rattle.td_waves.proofs.Names.{among_all, among_more}
use Rattle.td_waves.proofs.named.each_once.Goals as goal

pub loop-name-preserved : goal.loop-name-preserved
loop-name-preserved c = λ q. among_more c.args.names.now c.loop-name.name-index _ q _ _
    c.loop-name-test.true (c.in_ok-put.ensures q) (c.loop-name.invariant q)

pub returns : goal.returns
returns c = λ q. c.loop-name.invariant q ∙ among_all c.args.names.now c.loop-name.name-index q
    (omega (arith, c.loop-name-test.false))
