-- For what a source that is rebuilt waits on an architecture. This project's own.
use Rattle.std.specs.Prelude.{ℕ, ◌&&◌, not, Bool, true, false, List, Option, Some, None, filter}
use Rattle.std.specs.Prelude.{is_none, if◌then◌else◌}
use Rattle.std.specs.List.{filter_map}
use Rattle.td_version.specs.Version.{Parts}
use Rattle.td_supply.specs.Supplied.{with_rebuild}
use Rattle.td_indices.specs.Archive.{Contents}
use Rattle.td_indices.specs.Kept.{KeptBinary}
use Rattle.td_indices.specs.Sources.{KeptSource}
use Rattle.td_plan.specs.BuildsThere.{builds_there}
use Rattle.td_plan.specs.Due.{arrival_number, is_moving, moves}
use Rattle.td_plan.specs.InOrder.{in_order, is_before}
use Rattle.td_plan.specs.Packages.{arrival_base, is_written, own_package, package_name}
use Rattle.td_plan.specs.Packages.{present_package, rebuilt_text}
use Rattle.td_plan.specs.Premises.{Premises}

-- a package, and the version from which on it is waited for; the source whose it is, and whether
-- the package is of an older version of that source
pub record Wait : Type 0 where
  pub name : List ℕ
  pub version : List ℕ
  pub parts : Parts
  pub on : List ℕ
  pub older : Bool

-- whether one wait is before another, by its name
abbrev pub is_wait_before : Wait → Wait → Bool
is_wait_before v w = is_before v.name w.name

-- the wait for a package of t from the arrival of a rebuild on, if its version can be written
abbrev pub wait_for : KeptSource → KeptBinary → Parts → ℕ → Bool → Option Wait
wait_for t b base number older = if is_written base number
    then Some (record {
      name = package_name b;
      version = rebuilt_text base number;
      parts = with_rebuild base number;
      on = t.head.name;
      older = older;
    })
    else None

-- the wait for a package of t that may not be there, and whose arrival has a number
abbrev pub wait_if : KeptSource → ℕ → Bool → Option KeptBinary → Option Wait
wait_if t number older None = None
wait_if t number older (Some b) = wait_for t b (arrival_base t b) number older

-- what s waits for at a place if it builds on t there: a package of t's present version, or if
-- there is none yet, one of an older version that s names
abbrev pub wait_with : Premises → KeptSource → KeptSource → ℕ → Option KeptBinary → Option Wait
wait_with p s t place None =
    wait_if t (arrival_number p t place) true (own_package p.archive s t place)
wait_with p s t place (Some b) = wait_if t (arrival_number p t place) false (Some b)

-- what s waits for at a place if it builds on t there
abbrev pub wait_of : Premises → KeptSource → ℕ → KeptSource → Option Wait
wait_of p s place t = wait_with p s t place (present_package p.archive s t place)

-- whether one source is before another by its name
abbrev pub is_source_before : KeptSource → KeptSource → Bool
is_source_before s t = is_before s.head.name t.head.name

-- the sources of an archive that pass a test, in byte order
abbrev pub sources_where : (KeptSource → Bool) → Contents → List KeptSource
sources_where test a = in_order is_source_before (filter test a.sources)

-- the sources with a row that is due or pending, in byte order
abbrev pub moving_sources : Premises → List KeptSource
moving_sources p = sources_where (moves p) p.archive

-- the sources of other parts on which s builds at a place, and whose rows there are due or pending;
-- a test says of a source whether it is of the part of s
abbrev pub awaited : (KeptSource → Bool) → Premises → KeptSource → ℕ → List KeptSource
awaited is_of_part p s place = filter (λ t. is_moving p t place
    && (builds_there p.archive place s t && not (is_of_part t))) (moving_sources p)

-- what s waits for at a place, in the order of the packages
abbrev pub waits_of : (KeptSource → Bool) → Premises → KeptSource → ℕ → List Wait
waits_of is_of_part p s place =
    in_order is_wait_before (filter_map (wait_of p s place) (awaited is_of_part p s place))

-- whether no wait can be written for t
abbrev pub is_waitless : Premises → KeptSource → ℕ → KeptSource → Bool
is_waitless p s place t = is_none (wait_of p s place t)
