-- The package of a source for which another one waits. This project's own: packages of `all`
-- aren't rebuilt by `nmu`, so it is of exactly the architecture.
use Rattle.std.specs.Prelude.{ℕ, ◌≤◌, ◌&&◌, ◌==◌, nat_lt, ◌||◌, not, Bool, IsTrue, List, [], ◌++◌}
use Rattle.std.specs.Prelude.{Option, Some, None, length, decimal, codes, if◌then◌else◌}
use Rattle.std.specs.List.{list_any}
use Rattle.std.specs.Option.{option_or}
use Rattle.td_text.specs.Limits.{max_rebuild}
use Rattle.td_version.specs.Base.{base_of}
use Rattle.td_version.specs.Grammar.{IsVersion}
use Rattle.td_version.specs.Rebuild.{rebuild_suffix}
use Rattle.td_version.specs.Version.{Parts}
use Rattle.td_supply.specs.Supplied.{last_part, with_rebuild}
use Rattle.td_indices.specs.Archive.{Contents, is_of}
use Rattle.td_indices.specs.Kept.{KeptBinary}
use Rattle.td_indices.specs.Sources.{KeptSource}
use Rattle.td_indices.specs.Supplying.{base_version}
use Rattle.td_plan.specs.BuildsThere.{asks_active, names_itself, names_offer}
use Rattle.td_plan.specs.Due.{is_present}
use Rattle.td_plan.specs.InOrder.{first_where}
use Rattle.td_plan.specs.Reasons.{is_exactly}

-- the name of a package
abbrev pub package_name : KeptBinary → List ℕ
package_name b = b.head.name

-- the first, in byte order, of the packages of t at a place that are of t's present version: of
-- those that s asks for there under a name that they offer, else of all
abbrev pub present_package : Contents → KeptSource → KeptSource → ℕ → Option KeptBinary
present_package a s t place = option_or
    (first_where package_name (λ b. is_present t place b
    && asks_active a s place (names_offer b)) a.binaries)
    (first_where package_name (is_present t place) a.binaries)

-- the first of the packages of t on exactly the architecture at a place, of whatever version, that
-- s asks for there under their own name
abbrev pub own_package : Contents → KeptSource → KeptSource → ℕ → Option KeptBinary
own_package a s t place = first_where package_name (λ b. is_of t.head.name b
    && (is_exactly place b && asks_active a s place (names_itself b))) a.binaries

-- the version whose rebuild the arrival of t offers for a package of t
abbrev pub arrival_base : KeptSource → KeptBinary → Parts
arrival_base t b = base_version b.head.parts b.head.source_parts t.head.parts

-- a rebuild's version can be written: its last part isn't empty
abbrev pub is_written : Parts → ℕ → Bool
is_written base number = nat_lt 0 number || nat_lt 0 (length (last_part base))

-- an epoch is written if it isn't 0, or if the upstream part has a colon
abbrev pub epoch_text : ℕ → List ℕ → List ℕ
epoch_text epoch upstream = if (epoch == 0) && not (list_any (λ c. c == 58) upstream) then []
    else decimal epoch ++ codes ":"

-- the hyphen and the revision, if there is one
abbrev pub revision_text : Option (List ℕ) → List ℕ
revision_text None = []
revision_text (Some revision) = codes "-" ++ revision

-- a version as it is written (deb-version(7))
abbrev pub version_text : Parts → List ℕ
version_text v = epoch_text v.epoch v.upstream ++ (v.upstream ++ revision_text v.revision)

-- the version of a rebuild as it is written
abbrev pub rebuilt_text : Parts → ℕ → List ℕ
rebuilt_text base number = version_text base ++ rebuild_suffix number

-- the rebuild of a version that was read is written so that it is read as the version under which
-- it is offered (td_supply, specs/Supplied.antt), if it can be written
abbrev pub RebuiltTextsAreRead : Type 0
RebuiltTextsAreRead = (text : List ℕ) (p : Parts) (number : ℕ) → number ≤ max_rebuild
    → IsVersion text p → IsTrue (is_written (base_of p) number)
    → IsVersion (rebuilt_text (base_of p) number) (with_rebuild (base_of p) number)
