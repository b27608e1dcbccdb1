-- What is said of a name that no source has, and of a version that a source hasn't. This project's
-- own.
use Rattle.std.specs.Prelude.{ℕ, ◌&&◌, Bool, false, List, ◌++◌, Option, Some, None, Result, Ok, Err}
use Rattle.std.specs.Prelude.{codes, is_some, option_map, if◌then◌else◌}
use Rattle.std.specs.List.{find}
use Rattle.std.specs.Option.{option_and_then}
use Rattle.std.specs.Str.{bytes_eq}
use Rattle.td_version.specs.Order.{same_version}
use Rattle.td_version.specs.Reading.{reading}
use Rattle.td_version.specs.Version.{Parts}
use Rattle.td_version.specs.declared.version.VersionFault.{VersionFault}
use Rattle.td_indices.specs.Archive.{Contents, source_named}
use Rattle.td_indices.specs.Seen.{BinarySeen}
use Rattle.td_supply.specs.Supplied.{Supplied}
use Rattle.td_supply.specs.Supply.{Stock, opened, version_of}
use Rattle.td_wbread.specs.Naming.{split_of}

-- an offer is a binary package of this name whose source is there
abbrev pub is_built_as : List ℕ → Supplied → Bool
is_built_as name o = bytes_eq name o.name && is_some o.build

-- the source whose package an offer is
abbrev pub source_of : Supplied → Option (List ℕ)
source_of o = option_map (λ b. b.source) o.build

-- the source of the first binary package of this name
abbrev pub source_built_as : List Supplied → List ℕ → Option (List ℕ)
source_built_as offers name = option_and_then source_of (find (is_built_as name) offers)

-- the version of a source, as it is written
abbrev pub version_in : Stock → List ℕ → Option (List ℕ)
version_in s name = version_of (opened s) name

-- what is said of a name that is no source's, by the source whose package it is
abbrev pub name_said : List ℕ → Option (List ℕ) → List ℕ
name_said name None = codes "no source " ++ name
name_said name (Some source) = name ++ (codes " is a package of " ++ source)

-- what is said of a name that is no source's
abbrev pub lost_said : Stock → List ℕ → List ℕ
lost_said s name = name_said name (source_built_as s.offers name)

-- two readings are of versions that are equal in order
abbrev pub same_read : Result Parts VersionFault → Result Parts VersionFault → Bool
same_read (Ok a) (Ok b) = same_version a b
same_read (Ok a) (Err f) = false
same_read (Err e) b = false

-- a word's version, without its rebuild number, is equal in order to a source's
abbrev pub is_version : List ℕ → List ℕ → Bool
is_version version word = same_read (reading (split_of word).0) (reading version)

-- what is said of a source with this version, of which a word has another one
abbrev pub version_said : List ℕ → List ℕ → List ℕ → List ℕ
version_said source version word =
    source ++ (codes " is " ++ (version ++ (codes ", not " ++ word)))

-- ---- as it is found, from package to package

-- the source of a package, if the package has this name and its source is there
abbrev pub built_as : Contents → List ℕ → Option BinarySeen → Option (List ℕ)
built_as a name None = None
built_as a name (Some b) =
    if bytes_eq name b.head.name && is_some (source_named a b.head.source)
    then Some b.head.source else None
