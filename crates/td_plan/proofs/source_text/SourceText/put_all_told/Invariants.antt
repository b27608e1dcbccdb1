-- What the loop of `SourceText::put_all_told` keeps.
use Rattle.std.proofs.Common.{◌≡◌, ◌++◌, map, take, string_bytes}
use Rattle.std.specs.List.{flat_map}
use Rattle.td_text.specs.Lines.{text_of}
use Rattle.td_plan.specs.inner.Inputs.{kept_source}
use Rattle.td_plan.specs.inner.Told.{seen_told}
use Rattle.td_plan.specs.inner.Writing.{group_lines, seen_words}
use Rattle.td_plan.proofs.source_text.SourceText.put_all_told.Given as goal

-- the lines of the relations so far
abbrev pub invariant-loop-one : goal.invariant-loop-one
invariant-loop-one l = string_bytes l.out ≡ string_bytes l.fn.out
    ++ text_of (flat_map (group_lines (seen_words l.self.words.now) l.self.archive.now.table
    (kept_source l.mover.source) l.all) (map seen_told (take l.one-index l.told)))
