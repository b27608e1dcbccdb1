-- `the_board_rule_stands`: what it answers.
use Rattle.td_board.proofs.Schedules.{rule_stands}
use Rattle.td_board.proofs.promises.the_board_rule_stands.Goals as goal

pub returns : goal.returns
returns c = rule_stands
