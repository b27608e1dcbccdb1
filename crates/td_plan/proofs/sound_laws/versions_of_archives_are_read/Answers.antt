-- `versions_of_archives_are_read`: what it answers.
use Rattle.td_plan.proofs.ReadVersions.{versions-of-archives}
use Rattle.td_plan.proofs.sound_laws.versions_of_archives_are_read.Goals as goal

pub returns : goal.returns
returns c = versions-of-archives
