-- What a stanza of a Packages index says (Debian Policy 5.3).
use Rattle.std.specs.Prelude.{ℕ, ◌==◌, ◌&&◌, List, Option, Some, None, option_map, Result, Ok, Err}
use Rattle.std.specs.Prelude.{length, codes, if◌then◌else◌}
use Rattle.std.specs.Borrow.{Bor}
use Rattle.std.specs.Str.{bytes_eq}
use Rattle.td_text.specs.Cut.{cut}
use Rattle.td_text.specs.Lines.{on_ok}
use Rattle.td_text.specs.Words.{is_name, is_name_byte}
use Rattle.td_stanza.specs.Field.{Entry}
use Rattle.td_version.specs.Version.{Parts, parts_of}
use Rattle.td_relation.specs.Arch.{ArchWords}
use Rattle.td_text.specs.Runs.{run, behind, is_blank}
use Rattle.td_relation.specs.Table.{place_of}
use Rattle.td_indices.specs.declared.archive_fault.IndexField.TheVariants as field
use Rattle.td_indices.specs.declared.archive_fault.VersionField.TheVariants.{Version, Source}
use Rattle.td_indices.specs.declared.archive_fault.EntryFault.{EntryFault}
use Rattle.td_indices.specs.declared.archive_fault.EntryFault.TheVariants.{Missing, BadVersion}
use Rattle.td_indices.specs.declared.packaged.Head.{Head}
use Rattle.td_indices.specs.Fields.{value_of, needed, name_in, version_in}

-- ---- 1. where a package is

-- where packages with this Architecture field are: nowhere here; everywhere (`all`); at a place of
-- the table
unfoldable pub home_of : List ArchWords → List ℕ → Option (Option ℕ)
home_of table arch =
    if bytes_eq arch (codes "all") then Some None else option_map Some (place_of table arch)

-- ---- 2. its source

-- the name before a version in brackets; whitespace may come after it
unfoldable pub front_name : List ℕ → Option (List ℕ)
front_name front =
    if is_name (run is_name_byte front) && is_blank (behind is_name_byte front)
    then Some (run is_name_byte front) else None

-- the name before the bracket, if there is one, and what comes after the bracket
abbrev pub named_front : Option (List ℕ) → List ℕ → Result (List ℕ × Option (List ℕ)) EntryFault
named_front None rest = Err (Missing field.Source)
named_front (Some name) rest = Ok (name, Some rest)

-- a Source field: a name, or a name and a bracket
abbrev pub source_text : List ℕ → Option (List ℕ × List ℕ)
    → Result (List ℕ × Option (List ℕ)) EntryFault
source_text text None = if is_name text then Ok (text, None) else Err (Missing field.Source)
source_text text (Some p) = named_front (front_name p.0) p.1

-- the source's name, and what comes after the bracket, if there is one; without the field the
-- source has the package's name (Debian Policy 5.6.1)
unfoldable pub origin_of : List ℕ → Option (List ℕ) → Result (List ℕ × Option (List ℕ)) EntryFault
origin_of name None = Ok (name, None)
origin_of name (Some text) = source_text text (cut 40 text)

-- the version up to the closing bracket, after which nothing comes
abbrev pub bracketed : Option (List ℕ × List ℕ) → Result Parts EntryFault
bracketed None = Err (BadVersion Source)
bracketed (Some p) = if length p.1 == 0 then version_in Source p.0 else Err (BadVersion Source)

-- the source's version: the package's own, where none stands in brackets (Debian Policy 5.6.1)
unfoldable pub source_version : Parts → Option (List ℕ) → Result Parts EntryFault
source_version own None = Ok own
source_version own (Some rest) = bracketed (cut 41 rest)

-- ---- 3. the stanza

-- a binary package: its name, where it is, its version as it is written and by its parts, and its
-- source's name and version
pub record BinaryPackage : Type 0 where
  pub name : List ℕ
  pub home : Option ℕ
  pub version : List ℕ
  pub parts : Parts
  pub source : List ℕ
  pub source_parts : Parts

-- the versions and the source of a package that is here
unfoldable pub local_at : List Entry → List ℕ → List ℕ → Option ℕ → Result BinaryPackage EntryFault
local_at fields name version home =
    on_ok (origin_of name (value_of fields (codes "Source"))) (λ origin.
    on_ok (version_in Version version) (λ parts.
    on_ok (source_version parts origin.1) (λ source_parts.
    Ok (record {
      name = name;
      home = home;
      version = version;
      parts = parts;
      source = origin.0;
      source_parts = source_parts;
    }))))

-- a package that isn't here is skipped; its versions aren't read (this project's own)
abbrev pub if_here : List Entry → List ℕ → List ℕ → Option (Option ℕ)
    → Result (Option BinaryPackage) EntryFault
if_here fields name version None = Ok None
if_here fields name version (Some home) =
    on_ok (local_at fields name version home) (λ p. Ok (Some p))

-- the package of a stanza, if it is here: first the fields that it needs, then the versions
unfoldable pub package_at : List ArchWords → List Entry → Result (Option BinaryPackage) EntryFault
package_at table fields =
    on_ok (name_in field.Package (value_of fields (codes "Package"))) (λ name.
    on_ok (needed field.Version (value_of fields (codes "Version"))) (λ version.
    on_ok (needed field.Architecture (value_of fields (codes "Architecture"))) (λ arch.
    if_here fields name version (home_of table arch))))

-- ---- what the readers give, without where it lies in memory

-- the package of a stanza's head
abbrev pub headed : Head → BinaryPackage
headed h = record {
  name = h.key.name.now;
  home = h.key.arch;
  version = h.version.now;
  parts = parts_of h.parts;
  source = h.source.now;
  source_parts = parts_of h.source_parts;
}

-- the package of a stanza's head, or the stanza's fault
abbrev pub head_found : Result Head EntryFault → Result BinaryPackage EntryFault
head_found (Ok head) = Ok (headed head)
head_found (Err fault) = Err fault

-- the package of a stanza's head, if the package is here, or the stanza's fault
abbrev pub heads_found : Result (Option Head) EntryFault → Result (Option BinaryPackage) EntryFault
heads_found (Ok head) = Ok (option_map headed head)
heads_found (Err fault) = Err fault

-- the name of a source, and the version that stands in brackets if one does, or the fault
abbrev pub origin_found : Result (Bor (List ℕ) × Option (Bor (List ℕ))) EntryFault
    → Result (List ℕ × Option (List ℕ)) EntryFault
origin_found (Ok p) = Ok (p.0.now, option_map (λ x. x.now) p.1)
origin_found (Err fault) = Err fault
