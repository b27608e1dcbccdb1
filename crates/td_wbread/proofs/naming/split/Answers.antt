-- `split`: what it answers.
use Rattle.td_wbread.proofs.Names.{split_is}
use Rattle.td_wbread.proofs.naming.split.Goals as goal

pub returns : goal.returns
returns c = split_is c.args.text.now c.split_rebuild.result.0.now c.split_rebuild.result.1
    c.split_rebuild.ensures.found
