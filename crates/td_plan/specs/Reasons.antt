-- Why a wanted row isn't planned. This project's own.
use Rattle.std.specs.Prelude.{ℕ, ◌&&◌, not, List, None, codes, if◌then◌else◌}
use Rattle.std.specs.List.{list_any}
use Rattle.std.specs.Prelude.{Bool, Some}
use Rattle.td_rows.specs.States.{is_installed}
use Rattle.td_indices.specs.Archive.{is_of}
use Rattle.td_indices.specs.Kept.{KeptBinary}
use Rattle.td_indices.specs.PackageKeys.{same_home}
use Rattle.td_indices.specs.Sources.{KeptSource}
use Rattle.td_plan.specs.Due.{has_number, is_due, is_wanted}
use Rattle.td_plan.specs.Premises.{Premises, has_row_that, is_bad}

-- the row isn't Installed; the source has no number left; what is bad on exactly the architecture
-- is of another source version; a package of `all` is bad; the source's own stanza is bad
pub data Reason : Type 0 where
  state : Reason
  number : Reason
  old : Reason
  all : Reason
  source : Reason

-- how a reason is written
abbrev pub reason_name : Reason → List ℕ
reason_name state = codes "state"
reason_name number = codes "number"
reason_name old = codes "old"
reason_name all = codes "all"
reason_name source = codes "source"

-- some package of the source that passes a test is bad
abbrev pub some_bad : (KeptBinary → Bool) → Premises → KeptSource → Bool
some_bad test p s = list_any (λ b. is_of s.head.name b && (test b && is_bad p b)) p.archive.binaries

-- a package of exactly the architecture at a place
abbrev pub is_exactly : ℕ → KeptBinary → Bool
is_exactly place b = same_home b.head.home (Some place)

-- a package of `all`
abbrev pub is_of_all : KeptBinary → Bool
is_of_all b = same_home b.head.home None

-- the first reason that holds of a row that is wanted and not due
abbrev pub reason_of : Premises → KeptSource → ℕ → Reason
reason_of p s place =
    if not (has_row_that (λ r. is_installed r.state) p s place) then state
    else (if not (has_number p s) then number
    else (if some_bad (is_exactly place) p s then old
    else (if some_bad is_of_all p s then all
    else source)))

-- a row that is wanted and not due
abbrev pub is_left : Premises → KeptSource → ℕ → Bool
is_left p s place = is_wanted p s place && not (is_due p s place)
