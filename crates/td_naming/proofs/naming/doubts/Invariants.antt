-- What the loop of `doubts` keeps.
use Rattle.std.proofs.Common.{◌≡◌, map, take}
use Rattle.td_wbread.specs.Views.{parts_of}
use Rattle.td_naming.specs.Naming.{is_matched_at}
use Rattle.td_naming.specs.Skips.{doubt}
use Rattle.td_naming.proofs.naming.doubts.Given as goal

abbrev pub invariant-loop-key : goal.invariant-loop-key
invariant-loop-key l =
    l.doubts.items ≡ map (doubt (is_matched_at (parts_of l.command) l.supply l.rows))
    (take l.key-index l.named)
