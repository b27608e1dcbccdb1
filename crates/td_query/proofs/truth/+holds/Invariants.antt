-- What the loop of `holds` keeps.
use Rattle.std.proofs.Common.{◌≡◌, List, drop, map}
use Rattle.regex.specs.Patterns.{Re}
use Rattle.regex.specs.Strings.{matcher_pattern}
use Rattle.td_stanza.specs.Table.{fields_of}
use Rattle.td_query.specs.Query.{joined, shape_of}
use Rattle.td_query.specs.Truth.{truth}
use Rattle.td_query.specs.inner.Alike.{AreAlike}
use Rattle.td_query.proofs.truth.+holds.Given as goal

-- what is left decides
abbrev pub invariant-parts_hold-loop-i : goal.invariant-parts_hold-loop-i
invariant-parts_hold-loop-i l = record {
  same : map matcher_pattern l.matchers.items ≡ map matcher_pattern l.fn.matchers.items;
  decides : (ps : List Re) → AreAlike ps (map matcher_pattern l.fn.matchers.items)
      → truth ps (fields_of l.stanza) (joined l.fn.joint (map shape_of (drop l.i l.parts)))
      ≡ truth ps (fields_of l.stanza) (joined l.fn.joint (map shape_of l.parts));
}
