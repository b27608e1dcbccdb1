-- What the loop of `SourceText::put_all_checks` keeps.
use Rattle.std.proofs.Common.{◌≡◌, ◌++◌, take, string_bytes}
use Rattle.std.specs.List.{flat_map}
use Rattle.td_text.specs.Lines.{text_of}
use Rattle.td_plan.specs.inner.Writing.{checks_at}
use Rattle.td_plan.proofs.source_text.SourceText.put_all_checks.Given as goal

-- the comments of the places so far
abbrev pub invariant-loop-place : goal.invariant-loop-place
invariant-loop-place l = string_bytes l.out ≡ string_bytes l.fn.out
    ++ text_of (flat_map (checks_at l.self.archive.now.table l.mover.source.name.now l.all)
    (take l.place-index l.places))
