-- What the loop of `Marks::row_mark` keeps.
use Rattle.std.proofs.Common.{◌≡◌, take}
use Rattle.td_query.specs.Marks.{AreMarks, gathered, mark_there}
use Rattle.td_query.specs.Tracking.{Tracking}
use Rattle.td_query.proofs.marks.Marks.row_mark.Given as goal

-- the mark says what holds on the stanzas so far
abbrev pub invariant-loop-number : goal.invariant-loop-number
invariant-loop-number l = (t : Tracking) → AreMarks l.archive t l.self
    → l.mark ≡ gathered l.initial.mark (mark_there l.archive t.patterns t l.place)
    (take l.number-index l.number-items)
