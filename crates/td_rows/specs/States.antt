-- What is asked of a state. This project's own.
use Rattle.std.specs.Prelude.{ℕ, Bool, true, false, ◌==◌}
use Rattle.td_rows.specs.declared.state.State.{State}
use Rattle.td_rows.specs.declared.state.State.TheVariants.{NeedsBuild, Building, Built, Uploaded}
use Rattle.td_rows.specs.declared.state.State.TheVariants.{Installed, DepWait, BdUninstallable}
use Rattle.td_rows.specs.declared.state.State.TheVariants.{BuildAttempted, Failed, NotForUs}

-- the states from which a build is given back
abbrev pub gives_back : State → Bool
gives_back Built = true
gives_back BuildAttempted = true
gives_back Failed = true
gives_back DepWait = true
gives_back NeedsBuild = false
gives_back (Building b) = false
gives_back Uploaded = false
gives_back Installed = false
gives_back BdUninstallable = false
gives_back NotForUs = false

-- the states in which a build can be made to wait
abbrev pub waits_for : State → Bool
waits_for NeedsBuild = true
waits_for BuildAttempted = true
waits_for Failed = true
waits_for DepWait = true
waits_for BdUninstallable = true
waits_for (Building b) = false
waits_for Built = false
waits_for Uploaded = false
waits_for Installed = false
waits_for NotForUs = false

-- whether the state is Installed
abbrev pub is_installed : State → Bool
is_installed Installed = true
is_installed s = false

-- whether the state is Needs-Build
abbrev pub is_queued : State → Bool
is_queued NeedsBuild = true
is_queued s = false

-- whether the state is Building by the builder
abbrev pub is_building_by : ℕ → State → Bool
is_building_by b (Building c) = c == b
is_building_by b s = false

-- the states from which packages arrive
abbrev pub is_coming : State → Bool
is_coming Built = true
is_coming Uploaded = true
is_coming s = false

-- whether the state is Dep-Wait
abbrev pub is_waiting : State → Bool
is_waiting DepWait = true
is_waiting s = false

-- whether the state is Building by anyone
abbrev pub is_building : State → Bool
is_building (Building b) = true
is_building s = false
