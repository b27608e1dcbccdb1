-- `cut_at_last`: what it answers.
use Rattle.td_version.proofs.Cuts.{cut_last-from_split}
use Rattle.td_version.proofs.cutting.cut_at_last.Goals as goal

pub returns : goal.returns
returns c =
    cut_last-from_split c.args.mark c.args.text.now c.rsplit_once.result c.requires
    c.rsplit_once.ensures.cases
