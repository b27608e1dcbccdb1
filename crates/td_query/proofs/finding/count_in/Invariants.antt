-- What the loop of `count_in` keeps.
use Rattle.std.proofs.Common.{◌≡◌, ◌≤◌, count_by, map, take}
use Rattle.regex.specs.Strings.{matcher_pattern}
use Rattle.td_query.specs.Marks.{kept_fields}
use Rattle.td_query.specs.Query.{shape_of}
use Rattle.td_query.specs.Truth.{truth}
use Rattle.td_query.proofs.finding.count_in.Given as goal

-- those of the stanzas so far are counted
abbrev pub invariant-loop-number : goal.invariant-loop-number
invariant-loop-number l = record {
  same : map matcher_pattern l.matchers.items ≡ map matcher_pattern l.fn.matchers.items;
  count : l.count ≡ count_by
      (λ fields. truth (map matcher_pattern l.fn.matchers.items) fields (shape_of l.query))
      (take l.number (kept_fields l.archive l.file));
  few : l.count ≤ l.number;
}
