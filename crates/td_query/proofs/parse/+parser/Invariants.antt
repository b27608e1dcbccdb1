-- What the loop of `parser` keeps, and why it ends.
use Rattle.std.proofs.Common.{◌<◌, length, ◌≡◌, ℕ, ◌+◌, ◌*◌, ◌≤◌, map}
use denote.Shadow.{shadow}
use denote.Text.{Utf8}
use Rattle.td_query.specs.declared.query.Joint.{Joint}
use Rattle.td_query.specs.declared.query.Joint.TheVariants.{And, Or}
use Rattle.td_query.specs.Query.{shape_of}
use Rattle.td_query.specs.QueryGrammar.{more, part_at, parts_at}
use Rattle.td_query.specs.Views.{raw_of}
use Rattle.td_query.proofs.parse.+parser.Given as goal

-- the calls before that of `read_not` at one depth
abbrev pub before : Joint → ℕ
before And = 1
before Or = 3

abbrev pub decreases-read_not : goal.decreases-read_not
decreases-read_not l = 5 * l.depth

abbrev pub decreases-read_part : goal.decreases-read_part
decreases-read_part l = 5 * l.depth + before l.joint

abbrev pub decreases-read_parts : goal.decreases-read_parts
decreases-read_parts l = 5 * l.depth + before l.joint + 1

-- what is left decides
abbrev pub invariant-read_parts-loop-after : goal.invariant-read_parts-loop-after
invariant-read_parts-loop-after l = record {
  decides : (n : ℕ) × (length l.rest ≤ n)
      × (more l.joint (part_at l.joint l.depth) n (map shape_of l.parts.items)
      (map raw_of l.log.items) l.rest
      ≡ parts_at l.joint l.depth (map raw_of l.fn.log.items) l.fn.text);
  shorter : length l.rest < length l.fn.text;
  utf8 : shadow (Utf8 l.rest);
}

abbrev pub decreases-read_parts-loop-after : goal.decreases-read_parts-loop-after
decreases-read_parts-loop-after l = length l.rest
