-- `sources_build_on_what_they_ask_for`: what it answers.
use Rattle.td_waves.proofs.AskingLaws.{sources_build_on_what_they_ask_for}
use Rattle.td_waves.proofs.laws.sources_build_on_what_they_ask_for.Goals as goal

pub returns : goal.returns
returns c = sources_build_on_what_they_ask_for
