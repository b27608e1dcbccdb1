-- `version_in`: what it answers.
use Rattle.td_naming.proofs.Finding.{version_is}
use Rattle.td_naming.proofs.naming.version_in.Goals as goal

pub returns : goal.returns
returns c = version_is c.args.supply.now c.args.source.now _ c.version_parts.ensures
