-- `texts_in`: what it answers.
use Rattle.td_script.specs.Openings.{texts_lent}
use Rattle.td_script.proofs.WithoutJournal.{same_indices}
use Rattle.td_script.proofs.opening.texts_in.Goals as goal

pub returns : goal.returns
returns g c =
    same_indices (texts_lent c.args.files) c.read-packages.result c.read-sources.result
    c.read-packages.ensures c.read-sources.ensures
