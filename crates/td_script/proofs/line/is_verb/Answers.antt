-- `is_verb`: what it answers.
use Rattle.std.proofs.Common.{ap, ◌∙◌}
use Rattle.std.specs.Prelude.{is_some}
use Rattle.td_script.proofs.Words.{is_verb-some}
use Rattle.td_script.proofs.line.is_verb.Goals as goal

pub returns : goal.returns
returns c = c.is_some.ensures ∙ ap is_some c.read_verb.ensures ∙ is_verb-some c.args.word.now
