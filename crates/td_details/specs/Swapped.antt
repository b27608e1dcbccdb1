-- Stanzas of one index in the other. This project's own: what tells them apart is the field for
-- their files, `Directory` in a Sources index and `Filename` in a Packages index, of which the
-- other index has none.
use Rattle.std.specs.Prelude.{ℕ, ◌&&◌, not, Bool, List, codes, count_by, is_some}
use Rattle.td_stanza.specs.Field.{Entry}
use Rattle.td_indices.specs.Archive.{Contents}
use Rattle.td_indices.specs.Fields.{value_of}
use Rattle.td_indices.specs.Kept.{KeptBinary}
use Rattle.td_indices.specs.Sources.{KeptSource}
use Rattle.td_indices.specs.Stanzas.{package_fields, source_fields}

-- whether a stanza has a field
abbrev pub has_field : List Entry → List ℕ → Bool
has_field fields name = is_some (value_of fields name)

-- whether a stanza is a source's
abbrev pub is_of_sources : List Entry → Bool
is_of_sources fields =
    has_field fields (codes "Directory") && not (has_field fields (codes "Filename"))

-- whether a stanza is a binary package's
abbrev pub is_of_packages : List Entry → Bool
is_of_packages fields =
    has_field fields (codes "Filename") && not (has_field fields (codes "Directory"))

-- whether a package was kept of a source's stanza
abbrev pub is_swapped_package : Contents → KeptBinary → Bool
is_swapped_package c b = is_of_sources (package_fields c b)

-- whether a source was kept of a package's stanza
abbrev pub is_swapped_source : Contents → KeptSource → Bool
is_swapped_source c s = is_of_packages (source_fields c s)

-- how many packages count that were kept of a source's stanza
abbrev pub swapped_packages : Contents → ℕ
swapped_packages c = count_by (is_swapped_package c) c.binaries

-- how many sources count that were kept of a package's stanza
abbrev pub swapped_sources : Contents → ℕ
swapped_sources c = count_by (is_swapped_source c) c.sources
