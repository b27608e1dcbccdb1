-- What the loop of `matched` keeps.
use Rattle.std.proofs.Common.{◌≡◌, filter, take}
use Rattle.td_wbread.specs.Views.{parts_of}
use Rattle.td_naming.specs.Naming.{is_matched_at}
use Rattle.td_naming.proofs.naming.matched.Given as goal

abbrev pub invariant-loop-key : goal.invariant-loop-key
invariant-loop-key l =
    l.matched.items
    ≡ filter (is_matched_at (parts_of l.command) l.supply l.rows) (take l.key-index l.named)
