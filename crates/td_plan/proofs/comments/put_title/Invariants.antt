-- What the loop of `put_title` keeps, and its measure.
use Rattle.std.proofs.Common.{◌≡◌, ◌++◌, map, string_bytes}
use Rattle.td_text.specs.Lines.{left_len, lines_left, text_of}
use Rattle.td_rows.specs.Appending.{Grown}
use Rattle.td_plan.specs.Lines.{comment, title_of}
use Rattle.td_plan.proofs.comments.put_title.Given as goal

-- the lines so far, and those to come
abbrev pub invariant-loop-rest : goal.invariant-loop-rest
invariant-loop-rest l = record {
  text : string_bytes l.out ++ text_of (map comment (lines_left l.rest))
      ≡ string_bytes l.fn.out ++ text_of (title_of l.fn.title);
  front : Grown (string_bytes l.fn.out) (string_bytes l.out);
}

abbrev pub decreases-loop-rest : goal.decreases-loop-rest
decreases-loop-rest l = left_len l.rest
