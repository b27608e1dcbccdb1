-- What the loop of `read_part` keeps.
use Rattle.std.proofs.Common.{◌≡◌, List}
use Rattle.td_relation.specs.TableView.{table}
use Rattle.td_indices.specs.Kept.{KeptBinary, binaries_of}
use Rattle.td_indices.specs.inner.Parts.{kept_from, put_all}
use Rattle.td_indices.proofs.part_reading.read_part.Given as goal

-- what is left decides, with the packages so far put to what was kept
abbrev pub invariant-loop-number : goal.invariant-loop-number
invariant-loop-number l =
    (seen : List KeptBinary) → kept_from (table l.archs) l.stanzas l.number
    (put_all seen (binaries_of l.packages.items)) ≡ kept_from (table l.archs) l.stanzas l.from seen
