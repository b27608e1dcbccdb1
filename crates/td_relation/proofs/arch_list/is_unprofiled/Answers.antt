-- `is_unprofiled`: what it answers.
use Rattle.std.specs.List.{slice_split}
use Rattle.td_text.specs.Runs.{is_space}
use Rattle.td_relation.proofs.PieceLaws.{unprofiled-by}
use Rattle.td_relation.proofs.arch_list.is_unprofiled.Goals as goal

pub returns : goal.returns
returns c =
    unprofiled-by (slice_split is_space c.args.list.now) c.all_negated.result c.all_negated.ensures
