-- `Version::read`: the clauses `found`, `only`, `fault` and `refused`.
use Rattle.td_version.proofs.Outcomes.{found, only, faulted, refused}
use Rattle.td_version.proofs.version.Version.read.Goals as goal

pub returns-clause-found : goal.returns-clause-found
returns-clause-found c = found c.args.text.now c.read.result c.read.ensures

pub returns-clause-only : goal.returns-clause-only
returns-clause-only c = only c.args.text.now c.read.result c.read.ensures

pub returns-clause-fault : goal.returns-clause-fault
returns-clause-fault c = faulted c.args.text.now c.read.result c.read.ensures

pub returns-clause-refused : goal.returns-clause-refused
returns-clause-refused c = refused c.args.text.now c.read.result c.read.ensures
