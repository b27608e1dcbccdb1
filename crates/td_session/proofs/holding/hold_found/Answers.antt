-- `hold_found`: the clause `due`.
use Rattle.td_session.proofs.holding.hold_found.Goals as goal

pub returns-in-Ok-clause-due : goal.returns-in-Ok-clause-due
returns-in-Ok-clause-due g c = c.hold_at.ensures.due (g.F.DeskFile.can_refuse c.args.file.now)
