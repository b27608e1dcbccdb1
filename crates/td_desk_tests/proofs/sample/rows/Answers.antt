-- `rows`: what it answers.
use Rattle.td_core.proofs.Openings.{NoneBuilt-state_file}
use Rattle.td_desk_tests.proofs.sample.rows.Goals as goal

pub returns : goal.returns
returns c = NoneBuilt-state_file c.in_ok-read_state.ensures.found
