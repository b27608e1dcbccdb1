-- The lines of the details of an archive. This project's own.
use Rattle.std.specs.Prelude.{ℕ, ◌==◌, List, [], ◌∷◌, ◌++◌, codes, decimal, length, map, slice_get}
use Rattle.std.specs.Prelude.{if◌then◌else◌}
use Rattle.std.specs.List.{flat_map, range_with_len}
use Rattle.std.specs.Option.{option_map_or}
use Rattle.td_indices.specs.Archive.{Contents}
use Rattle.td_details.specs.Counts.{counts_at, own_count}
use Rattle.td_details.specs.Swapped.{swapped_packages, swapped_sources}
use Rattle.td_details.specs.declared.counts.ArchCounts.{ArchCounts}

-- ---- 1. architectures

-- the line of an architecture: its binary packages, its rows, and those that open as Needs-Build
abbrev pub arch_line : List ℕ → ArchCounts → List ℕ
arch_line name n =
    (codes "arch " ++ name)
    ++ (codes " binaries " ++ (decimal n.binaries
    ++ (codes " rows " ++ (decimal n.rows
    ++ (codes " needs-build " ++ decimal n.queued)))))

-- the name of the architecture at a place
abbrev pub name_at : Contents → ℕ → List ℕ
name_at c place = option_map_or (λ a. a.name) (slice_get c.table place) []

-- the line of the architecture at a place
abbrev pub arch_line_at : Contents → ℕ → List ℕ
arch_line_at c place = arch_line (name_at c place) (counts_at c place)

-- the places of the table, in their order
abbrev pub places : Contents → List ℕ
places c = range_with_len 0 (length c.table)

-- the lines of all architectures, in the order of the table
abbrev pub arch_lines : Contents → List (List ℕ)
arch_lines c = map (arch_line_at c) (places c)

-- ---- 2. warnings

-- the warning of an architecture of which there is no package
abbrev pub no_package_line : List ℕ → List ℕ
no_package_line name = codes "warning: Packages has no package of " ++ name

-- the warning of the architecture at a place, if it has no package of its own
abbrev pub missing_at : Contents → ℕ → List (List ℕ)
missing_at c place =
    if own_count c place == 0 then no_package_line (name_at c place) ∷ [] else []

-- the warnings of architectures without a package, in the order of the table
abbrev pub missing_lines : Contents → List (List ℕ)
missing_lines c = flat_map (missing_at c) (places c)

-- the warning of stanzas in the wrong index, by words for that, if there are some
abbrev pub swapped_at : List ℕ → ℕ → List (List ℕ)
swapped_at words count =
    if count == 0 then [] else (codes "warning: " ++ (words ++ (codes ": " ++ decimal count))) ∷ []

-- what is said of Packages
abbrev pub swapped_package_lines : Contents → List (List ℕ)
swapped_package_lines c =
    swapped_at (codes "Packages has stanzas of sources") (swapped_packages c)

-- what is said of Sources
abbrev pub swapped_source_lines : Contents → List (List ℕ)
swapped_source_lines c = swapped_at (codes "Sources has stanzas of packages") (swapped_sources c)

-- the warnings of stanzas in the wrong index
abbrev pub swapped_lines : Contents → List (List ℕ)
swapped_lines c = swapped_package_lines c ++ swapped_source_lines c

-- all warnings: of architectures without a package, and of stanzas in the wrong index
abbrev pub warning_lines : Contents → List (List ℕ)
warning_lines c = missing_lines c ++ swapped_lines c

-- ---- 3. all lines

-- the details of an archive: its architectures, and the warnings
abbrev pub details_lines : Contents → List (List ℕ)
details_lines c = arch_lines c ++ warning_lines c
