-- What the loop of `put_packages` keeps.
use Rattle.std.proofs.Common.{◌≡◌, ◌++◌, string_bytes, take}
use Rattle.std.specs.List.{flat_map}
use Rattle.td_indices.specs.Supplying.{supply_of}
use Rattle.td_wbread.specs.Views.{package_of}
use Rattle.td_lines.specs.Notes.{package_notes}
use Rattle.td_lines.proofs.noting.put_packages.Given as goal

-- the notes so far are appended
abbrev pub invariant-loop-named : goal.invariant-loop-named
invariant-loop-named l =
    string_bytes l.out ≡ string_bytes l.fn.out
    ++ flat_map (λ p. package_notes (supply_of l.fn.offered.archive.now) l.fn.number
    (package_of p)) (take l.named-index l.packages)
