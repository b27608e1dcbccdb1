-- `tell`: if there is no simulation to write, no stream has failed.
use Rattle.std.proofs.Common.{false, subst, sym}
use Rattle.td_tool.specs.Streams.{IsDue}
use Rattle.td_tool.proofs.Dues.{simulation_due}
use Rattle.td_tool.proofs.simulation.tell.Goals as goal

pub returns-in-Err-clause-due : goal.returns-in-Err-clause-due
returns-in-Err-clause-due g c =
    subst (IsDue false (g.W.Writer.can_fail c.args.output.now)) (sym c.ending_of_simulation.ensures)
    (simulation_due false (g.W.Writer.can_fail c.args.output.now) c.in-Err.fault)
