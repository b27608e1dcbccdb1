-- What the loop of `Marks::may_be_affected` keeps.
use Rattle.std.proofs.Common.{◌≡◌, false, get_or, take}
use Rattle.std.specs.List.{list_any}
use Rattle.td_query.specs.Marks.{no_mark}
use Rattle.td_query.proofs.marks.Marks.may_be_affected.Given as goal

-- no mark so far is `affected`
abbrev pub invariant-loop-number : goal.invariant-loop-number
invariant-loop-number l =
    list_any (λ n. (get_or l.self.packages.items n no_mark).affected)
    (take l.number-index l.number-items) ≡ false
