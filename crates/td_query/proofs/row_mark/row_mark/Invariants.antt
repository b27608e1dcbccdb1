-- What the loop of `row_mark` keeps.
use Rattle.std.proofs.Common.{◌≡◌, map, take}
use Rattle.regex.specs.Strings.{matcher_pattern}
use Rattle.td_query.specs.Marks.{gathered, mark_there}
use Rattle.td_query.specs.Tracking.{tracking}
use Rattle.td_query.proofs.row_mark.row_mark.Given as goal

-- the mark says what holds on the stanzas so far
abbrev pub invariant-loop-number : goal.invariant-loop-number
invariant-loop-number l = record {
  same : map matcher_pattern l.matchers.items ≡ map matcher_pattern l.fn.matchers.items;
  mark : l.mark ≡ gathered l.initial.mark
      (mark_there l.archive (map matcher_pattern l.fn.matchers.items) (tracking l.tracker) l.place)
      (take l.number-index l.number-items);
}
