-- What the loop of `is_in_packages` keeps.
use Rattle.std.proofs.Common.{◌≡◌, false, take}
use Rattle.std.specs.List.{list_any}
use Rattle.td_indices.specs.Stanzas.{package_fields}
use Rattle.td_details.specs.Swapped.{has_field}
use Rattle.td_details.proofs.anywhere.is_in_packages.Given as goal

-- no stanza so far has the field
abbrev pub invariant-loop-number : goal.invariant-loop-number
invariant-loop-number l = list_any (λ s. has_field (package_fields l.archive s) l.field)
    (take l.number l.archive.binaries) ≡ false
