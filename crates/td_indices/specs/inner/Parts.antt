-- What a part of the stanzas of Packages comes to, before it is known which packages count. This
-- project's own.
use Rattle.std.specs.Prelude.{◌≡◌, ℕ, List, Result, MatchResult, drop, fold, flat_map}
use Rattle.std.specs.Global.{Vec}
use Rattle.td_stanza.specs.Field.{Entry}
use Rattle.td_relation.specs.Arch.{ArchWords}
use Rattle.td_indices.specs.declared.archive_fault.ArchiveFault.{ArchiveFault}
use Rattle.td_indices.specs.declared.packaged.PackageKey.{PackageKey}
use Rattle.td_indices.specs.declared.packaged.Packaged.{Packaged}
use Rattle.td_indices.specs.inner.IndexReading.{IsOfStanza}
use Rattle.td_indices.specs.Kept.{KeptBinary, binaries_of, lower_package, put, same_package}
use Rattle.td_indices.specs.Reading.{binary_step, over_stanzas}

-- what is kept with packages more, one after the other
abbrev pub put_all : List KeptBinary → List KeptBinary → List KeptBinary
put_all seen packages = fold (put same_package lower_package) seen packages

-- what was kept before, together with what the stanzas from a number on keep
abbrev pub kept_from : List ArchWords → List (List Entry) → ℕ → List KeptBinary
    → Result (List KeptBinary) ArchiveFault
kept_from table stanzas number seen =
    over_stanzas (binary_step table) number seen (drop number stanzas)

-- the stanzas from a number up to another stand for these packages: whatever was kept before, the
-- reading goes on after them as if these had been put to it
abbrev pub StandFor : List ArchWords → List (List Entry) → ℕ → ℕ → List (PackageKey × Packaged)
    → Type 0
StandFor table stanzas from to packages =
    (seen : List KeptBinary) → kept_from table stanzas from seen
    ≡ kept_from table stanzas to (put_all seen (binaries_of packages))

-- the first fault of the stanzas from a number on, whatever was kept before, or that memory ran out
abbrev pub IsFaultFrom : List ArchWords → List (List Entry) → ℕ → ArchiveFault → Type 0
IsFaultFrom table stanzas from fault =
    (seen : List KeptBinary) → IsOfStanza (kept_from table stanzas from seen) fault

-- the stanzas from a number up to another, read as one list of packages
abbrev pub IsPartRead : List ArchWords → List (List Entry) → ℕ → ℕ
    → Result (Vec (PackageKey × Packaged)) ArchiveFault → Type 0
IsPartRead table stanzas from to read =
    MatchResult read (λ packages. StandFor table stanzas from to packages.items)
    (IsFaultFrom table stanzas from)

-- the packages of some lists, one list after the other
abbrev pub packages_in : List (Vec (PackageKey × Packaged)) → List (PackageKey × Packaged)
packages_in parts = flat_map (λ packages. packages.items) parts

-- the stanzas from a number up to another, read as a list of packages for each part
abbrev pub ArePartsRead : List ArchWords → List (List Entry) → ℕ → ℕ
    → Result (Vec (Vec (PackageKey × Packaged))) ArchiveFault → Type 0
ArePartsRead table stanzas from to read =
    MatchResult read (λ parts. StandFor table stanzas from to (packages_in parts.items))
    (IsFaultFrom table stanzas from)
