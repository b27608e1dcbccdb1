-- `base_of`: what it answers.
use Rattle.std.proofs.Common.{ℕ, List, ap}
use Rattle.td_wbread.proofs.Names.{split_is}
use Rattle.td_lines.proofs.lost.base_of.Goals as goal

pub returns : goal.returns
returns c =
    ap (λ (p : List ℕ × ℕ). p.0)
    (split_is c.args.word.now c.split_rebuild.result.0.now c.split_rebuild.result.1
    c.split_rebuild.ensures.found)
