-- The versions of sources: texts that are versions (Debian Policy 5.6.12), and their parts.
use Rattle.std.specs.Prelude.{◌≡◌, ℕ, List, Option, Some, None}
use Rattle.std.specs.List.{AllByRecursion}
use Rattle.td_version.specs.Grammar.{IsVersion}
use Rattle.td_version.specs.Version.{Parts}
use Rattle.td_supply.specs.Supply.{SupplyView, version_of}

-- the text is a version, of some parts
abbrev pub IsVersionText : List ℕ → Type 0
IsVersionText text = (parts : Parts) × IsVersion text parts

-- the version of each source is one
abbrev pub AreVersions : List (List ℕ × List ℕ) → Type 0
AreVersions sources = AllByRecursion (λ p. IsVersionText p.1) sources

-- the source's version has these parts; none where it has no version
abbrev pub HasVersion : SupplyView → List ℕ → Option Parts → Type 0
HasVersion s name None = version_of s name ≡ None
HasVersion s name (Some parts) = (text : List ℕ) × (version_of s name ≡ Some text)
    × IsVersion text parts
