-- `rebuilds_rise`: the clauses `read`, `rise`, `base` and `splits`.
use Rattle.td_version.proofs.Suffixed as suffixed
use Rattle.td_version.proofs.Bases.{splits}
use Rattle.td_version.proofs.Rebuilds.{part_again}
use Rattle.td_version.proofs.laws.rebuilds_rise.Goals as goal

pub returns-clause-read : goal.returns-clause-read
returns-clause-read c = suffixed.rebuilds_read

pub returns-clause-rise : goal.returns-clause-rise
returns-clause-rise c = suffixed.rebuilds_rise

pub returns-clause-base : goal.returns-clause-base
returns-clause-base c = part_again

pub returns-clause-splits : goal.returns-clause-splits
returns-clause-splits c = splits
