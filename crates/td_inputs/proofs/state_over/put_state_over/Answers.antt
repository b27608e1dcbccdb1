-- `put_state_over`: its clauses.
use Rattle.td_inputs.proofs.StateLaws.{state_put}
use Rattle.td_inputs.proofs.state_over.put_state_over.Goals as goal

pub returns-clause-rows : goal.returns-clause-rows
returns-clause-rows c =
    (state_put c.args.rows c.args.text.now c.read_state-read.result c.put_over.result c.requires
    c.read_state-read.ensures.found c.read_state-read.ensures.only c.read_state-read.ensures.fault
    c.put_over.ensures.put c.put_over.ensures.refused).rows

pub returns-clause-idle : goal.returns-clause-idle
returns-clause-idle c =
    (state_put c.args.rows c.args.text.now c.read_state-read.result c.put_over.result c.requires
    c.read_state-read.ensures.found c.read_state-read.ensures.only c.read_state-read.ensures.fault
    c.put_over.ensures.put c.put_over.ensures.refused).idle

pub returns-clause-refused : goal.returns-clause-refused
returns-clause-refused c =
    (state_put c.args.rows c.args.text.now c.read_state-read.result c.put_over.result c.requires
    c.read_state-read.ensures.found c.read_state-read.ensures.only c.read_state-read.ensures.fault
    c.put_over.ensures.put c.put_over.ensures.refused).refused

pub returns-clause-only : goal.returns-clause-only
returns-clause-only c =
    (state_put c.args.rows c.args.text.now c.read_state-read.result c.put_over.result c.requires
    c.read_state-read.ensures.found c.read_state-read.ensures.only c.read_state-read.ensures.fault
    c.put_over.ensures.put c.put_over.ensures.refused).only
