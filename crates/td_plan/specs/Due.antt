-- Which rows a plan rebuilds, and which are on their way already. This project's own.
use Rattle.std.specs.Prelude.{ℕ, nat_le, ◌&&◌, ◌||◌, Bool, true, false, List, Option, Some, None}
use Rattle.std.specs.Prelude.{filter, if◌then◌else◌}
use Rattle.std.specs.List.{list_any}
use Rattle.std.specs.Option.{option_map_or}
use Rattle.td_text.specs.Limits.{max_rebuild}
use Rattle.td_rows.specs.declared.state.State.{State}
use Rattle.td_rows.specs.declared.state.State.TheVariants.{NeedsBuild, Building, Built, Uploaded}
use Rattle.td_rows.specs.declared.state.State.TheVariants.{Installed, DepWait, BdUninstallable}
use Rattle.td_rows.specs.declared.state.State.TheVariants.{BuildAttempted, Failed, NotForUs}
use Rattle.td_rows.specs.States.{is_installed}
use Rattle.td_indices.specs.Archive.{is_of}
use Rattle.td_indices.specs.Kept.{KeptBinary}
use Rattle.td_indices.specs.Opening.{is_current}
use Rattle.td_indices.specs.Sources.{KeptSource}
use Rattle.td_query.specs.declared.status.Status.{Status}
use Rattle.td_query.specs.declared.status.Status.TheVariants.{Good, Bad, Partial, Unknown}
use Rattle.td_query.specs.Statuses.{row_status}
use Rattle.td_plan.specs.Numbers.{number_over}
use Rattle.td_plan.specs.Premises.{Premises, has_row_that, is_bad, places, row_at}

-- ---- 1. what is asked for

-- a status that asks for a rebuild: bad or partial
abbrev pub asks_rebuild : Option Status → Bool
asks_rebuild None = false
asks_rebuild (Some Good) = false
asks_rebuild (Some Bad) = true
asks_rebuild (Some Partial) = true
asks_rebuild (Some Unknown) = false

-- a row is wanted if it is affected, and bad or partial
abbrev pub is_wanted : Premises → KeptSource → ℕ → Bool
is_wanted p s place = asks_rebuild (row_status p.archive p.tracker s place)

-- ---- 2. what is due

-- a package of the source on exactly the architecture at a place, of the source's present version
abbrev pub is_present : KeptSource → ℕ → KeptBinary → Bool
is_present s place b = is_of s.head.name b && is_current s.head.parts place b

-- a row is due except for the number if it is wanted and Installed, and a present package is bad
abbrev pub is_ready : Premises → KeptSource → ℕ → Bool
is_ready p s place = is_wanted p s place
    && (has_row_that (λ r. is_installed r.state) p s place
    && list_any (λ b. is_present s place b && is_bad p b) p.archive.binaries)

-- the number under which the source's rows are rebuilt that are due except for the number
abbrev pub number_of : Premises → KeptSource → ℕ
number_of p s = number_over (is_ready p s) p s

-- the source has a number left
abbrev pub has_number : Premises → KeptSource → Bool
has_number p s = nat_le (number_of p s) max_rebuild

-- a row is due if it is due except for the number, and a number is left
abbrev pub is_due : Premises → KeptSource → ℕ → Bool
is_due p s place = has_number p s && is_ready p s place

-- the places of a source's due rows, in the table's order
abbrev pub due_places : Premises → KeptSource → List ℕ
due_places p s = filter (is_due p s) (places p)

-- some row of the source is due
abbrev pub has_due : Premises → KeptSource → Bool
has_due p s = list_any (is_due p s) (places p)

-- ---- 3. what is on its way

-- the states of a build that is asked for, or under way
abbrev pub is_under_way : State → Bool
is_under_way NeedsBuild = true
is_under_way (Building b) = true
is_under_way Built = true
is_under_way Uploaded = true
is_under_way DepWait = true
is_under_way Installed = false
is_under_way BdUninstallable = false
is_under_way BuildAttempted = false
is_under_way Failed = false
is_under_way NotForUs = false

-- a row is pending if it is wanted, and its build is asked for or under way
abbrev pub is_pending : Premises → KeptSource → ℕ → Bool
is_pending p s place = is_wanted p s place && has_row_that (λ r. is_under_way r.state) p s place

-- a row that is due or pending
abbrev pub is_moving : Premises → KeptSource → ℕ → Bool
is_moving p s place = is_due p s place || is_pending p s place

-- some row of the source is due or pending
abbrev pub moves : Premises → KeptSource → Bool
moves p s = list_any (is_moving p s) (places p)

-- the number under which the packages of a row that moves arrive: the plan's if it is due, else the
-- row's own
abbrev pub arrival_number : Premises → KeptSource → ℕ → ℕ
arrival_number p s place = if is_due p s place then number_of p s
    else option_map_or (λ r. r.number) (row_at p s place) 0
