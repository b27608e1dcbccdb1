-- `is_own_verb`: what it answers.
use Rattle.std.proofs.Common.{ap, ◌∙◌}
use Rattle.std.specs.Prelude.{is_some}
use Rattle.td_lasting.proofs.OwnTexts.{is_own_verb-some}
use Rattle.td_lasting.proofs.hearing.is_own_verb.Goals as goal

pub returns : goal.returns
returns c =
    c.is_some.ensures ∙ ap is_some c.read_own_verb.ensures ∙ is_own_verb-some c.args.word.now
