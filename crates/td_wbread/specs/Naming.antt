-- The rows that a command names, and where a row's version matches.
-- This project's own, in the style of wanna-build.
use Rattle.std.specs.Prelude.{ℕ, ◌==◌, ◌&&◌, ◌||◌, Bool, true, false, List, Option, Some, None}
use Rattle.std.specs.Prelude.{is_none, unwrap_or, Result, Ok, Err}
use Rattle.std.specs.List.{list_any}
use Rattle.std.specs.Str.{bytes_eq}
use Rattle.td_version.specs.Order.{same_version}
use Rattle.td_version.specs.Reading.{reading}
use Rattle.td_version.specs.Splitting.{rebuild_at}
use Rattle.td_version.specs.Version.{Parts}
use Rattle.td_version.specs.declared.version.VersionFault.{VersionFault}
use Rattle.td_wbread.specs.Command.{CommandParts}

-- a row is named where a package word has its source, and its architecture is chosen
abbrev pub is_named : CommandParts → List ℕ → List ℕ → Bool
is_named c source arch = list_any (λ p. bytes_eq p.source source) c.packages
    && list_any (λ a. bytes_eq a arch) c.archs

-- a base is equal in order to a source's version; a base that is no version is equal to nothing
abbrev pub is_base : Parts → Result Parts VersionFault → Bool
is_base version (Ok parts) = same_version parts version
is_base version (Err fault) = false

-- the base of a text and its rebuild number; a text that ends in no rebuild suffix is its own base,
-- with 0
abbrev pub split_of : List ℕ → List ℕ × ℕ
split_of text = unwrap_or (rebuild_at text) (text, 0)

-- a version has no rebuild number, or the row's
abbrev pub is_numbered : ℕ → ℕ → Bool
is_numbered rebuild number = (rebuild == 0) || (rebuild == number)

-- the version of a word: its base is the source's, and its rebuild number, if it has one, the row's
abbrev pub is_rebuild_of : Parts → ℕ → List ℕ × ℕ → Bool
is_rebuild_of version number split = is_base version (reading split.0) && is_numbered split.1 number

-- a word without a version matches every version
abbrev pub version_matches : Parts → ℕ → Option (List ℕ) → Bool
version_matches version number None = true
version_matches version number (Some text) = is_rebuild_of version number (split_of text)

-- the version of a row matches where some package word with its source has a version that does;
-- given are the source, its version, and the row's number
abbrev pub is_matched : CommandParts → List ℕ → Parts → ℕ → Bool
is_matched c source version number = list_any (λ p.
    bytes_eq p.source source && version_matches version number p.version) c.packages

-- some package word has the source, without a version: such a word names the source's rows whatever
-- their version
abbrev pub is_bare : CommandParts → List ℕ → Bool
is_bare c source = list_any (λ p. bytes_eq p.source source && is_none p.version) c.packages
