-- What the loop of `SourceText::due_places` keeps.
use Rattle.std.proofs.Common.{◌≡◌, ◌<◌, false, filter, length}
use Rattle.std.specs.Prelude.{slice_get}
use Rattle.std.specs.List.{All, range_with_len}
use Rattle.std.specs.Option.{option_map_or}
use Rattle.td_plan.specs.inner.Movers.{is_due_motion}
use Rattle.td_plan.proofs.source_text.SourceText.due_places.Given as goal

-- the due places so far
abbrev pub invariant-loop-place : goal.invariant-loop-place
invariant-loop-place l = record {
  within : All (λ place. place < length l.self.archive.now.table) l.places.items;
  due : l.places.items ≡ filter (λ place. option_map_or is_due_motion
      (slice_get l.mover.motions.at.items place) false) (range_with_len 0 l.place);
}
