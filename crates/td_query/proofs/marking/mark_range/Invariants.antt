-- What the loop of `mark_range` keeps.
use Rattle.std.proofs.Common.{◌≡◌, List, map}
use Rattle.regex.specs.Patterns.{Re}
use Rattle.regex.specs.Strings.{matcher_pattern}
use Rattle.td_query.specs.Marks.{MarkBetween, kept_fields, mark_by}
use Rattle.td_query.specs.Tracking.{tracking}
use Rattle.td_query.specs.inner.Alike.{AreAlike}
use Rattle.td_query.proofs.marking.mark_range.Given as goal

-- the marks so far are those of the stanzas up to the number
abbrev pub invariant-loop-number : goal.invariant-loop-number
invariant-loop-number l = record {
  same : map matcher_pattern l.matchers.items ≡ map matcher_pattern l.fn.matchers.items;
  marks : (ps : List Re) → AreAlike ps (map matcher_pattern l.fn.matchers.items)
      → MarkBetween (mark_by ps (tracking l.tracker)) (kept_fields l.archive l.file) l.from
      l.number l.marks.items;
}
