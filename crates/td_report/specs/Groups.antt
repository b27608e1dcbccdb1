-- Affected rows in groups, by where their sources stand. This project's own.
use Rattle.std.specs.Prelude.{◌≡◌, ℕ, ◌-◌, ◌≤◌, ◌==◌, ◌&&◌, Bool, false, List, Option, Some, None}
use Rattle.std.specs.Prelude.{count_by, is_some, option_map, slice_get, if◌then◌else◌}
use Rattle.std.specs.List.{filter_map}
use Rattle.td_rows.specs.declared.key.Key.{Key}
use Rattle.td_rows.specs.declared.row.Row.{Row}
use Rattle.td_rows.specs.States.{is_installed}
use Rattle.td_rows.specs.Table.{Table}
use Rattle.td_query.specs.Statuses.{status_of}
use Rattle.td_waves.specs.declared.level.Level.{Level}
use Rattle.td_waves.specs.declared.level.Level.TheVariants.{At, Cyclic}
use Rattle.td_report.specs.TransitionView.{contents_of, depth_of, level_of, tracking_of}
use Rattle.td_report.specs.declared.transition.Transition.{Transition}

-- the group of a level: level k has number k - 1, and what is cyclic has the number after all
-- levels
abbrev pub level_group : ℕ → Option Level → Option ℕ
level_group depth None = None
level_group depth (Some (At k)) = Some (k - 1)
level_group depth (Some Cyclic) = Some depth

-- the group of a key's row: none if it isn't affected
abbrev pub group_of : Transition → Key → Option ℕ
group_of x k =
    if is_some (status_of (contents_of x) (tracking_of x) k)
    then level_group (depth_of x) (level_of x k.source)
    else None

-- a row's key with its group, if it has one
abbrev pub with_group : Transition → Key × Row → Option (Key × ℕ)
with_group x p = option_map (λ g. (p.0, g)) (group_of x p.0)

-- the keys of the rows that have a group, each with it, in the order of the rows
abbrev pub grouped : Transition → Table → List (Key × ℕ)
grouped x rows = filter_map (with_group x) rows

-- whether a row's group is this one
abbrev pub is_group : Option ℕ → ℕ → Bool
is_group None group = false
is_group (Some g) group = g == group

-- whether a row is Installed, and of the group
abbrev pub is_there : Transition → ℕ → Key × Row → Bool
is_there x group p = is_group (group_of x p.0) group && is_installed p.1.state

-- how many rows of the group are Installed
abbrev pub installed_of : Transition → Table → ℕ → ℕ
installed_of x rows group = count_by (is_there x group) rows

-- the counts, in the order of the groups, are of their Installed rows
pub record AreCounts (x : Transition) (rows : Table) (counts : List ℕ) : Type 0 where
  pub each : (group : ℕ) → group ≤ depth_of x
      → slice_get counts group ≡ Some (installed_of x rows group)
