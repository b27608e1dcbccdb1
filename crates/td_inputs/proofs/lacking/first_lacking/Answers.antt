-- `first_lacking`: its loop.
use Rattle.std.proofs.Common.{arith}
use Rattle.td_inputs.proofs.LackingRows.{IsLeft-all}
use Rattle.td_inputs.proofs.lacking.first_lacking.Goals as goal

pub loop-rest-init : goal.loop-rest-init
loop-rest-init c = record {
  there = IsLeft-all c.args.rows.now c.args.text.now c.requires;
  small = omega arith;
}
