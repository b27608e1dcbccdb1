-- What the loop of `is_built` keeps.
use Rattle.std.proofs.Common.{◌≡◌, false, slice_get, take}
use Rattle.std.specs.List.{list_any}
use Rattle.std.specs.Option.{option_map_or}
use Rattle.td_version.specs.Version.{parts_of}
use Rattle.td_indices.specs.Archive.{numbers_of}
use Rattle.td_indices.specs.Opening.{is_current}
use Rattle.td_details.proofs.queued.is_built.Given as goal

-- none of the packages so far was built there
abbrev pub invariant-loop-number : goal.invariant-loop-number
invariant-loop-number l = list_any
    (λ n. option_map_or (is_current (parts_of l.source.parts) l.place)
    (slice_get l.archive.binaries n) false)
    (take l.number-index (numbers_of l.archive l.source.name.now)) ≡ false
