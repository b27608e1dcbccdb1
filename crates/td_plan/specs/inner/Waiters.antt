-- Who waits at a place, and what was found for it to wait for.
use Rattle.std.specs.Prelude.{◌≡◌, ℕ, ◌<◌, ◌&&◌, ◌==◌, ◌++◌, not, Bool, true, false, List, Option}
use Rattle.std.specs.Prelude.{Some, None, filter, length, map, option_map, slice_get}
use Rattle.std.specs.List.{filter_map}
use Rattle.std.specs.Option.{option_and_then, option_map_or}
use Rattle.td_indices.specs.Archive.{Contents}
use Rattle.td_indices.specs.Kept.{KeptBinary}
use Rattle.td_indices.specs.Sources.{KeptSource}
use Rattle.td_plan.specs.declared.movers.Mover.{Mover}
use Rattle.td_plan.specs.declared.waits.Waiter.{Waiter}
use Rattle.td_plan.specs.declared.waits.Waits.{Waits}
use Rattle.td_plan.specs.BuildsThere.{builds_there}
use Rattle.td_plan.specs.Due.{is_moving}
use Rattle.td_plan.specs.Packages.{own_package, present_package}
use Rattle.td_plan.specs.Premises.{AreSound, PackagesAreApart, Premises, name_of}
use Rattle.td_plan.specs.Waits as spec
use Rattle.td_plan.specs.Waits.{awaited, is_waitless, wait_of, waits_of}
use Rattle.td_plan.specs.inner.Inputs.{kept_source}
use Rattle.td_plan.specs.inner.Movers.{AreMovers}
use Rattle.td_plan.specs.inner.Waiting.{seen}

-- ---- 1. who waits

-- what the archive keeps of an affected source
abbrev pub kept_of : Mover → KeptSource
kept_of m = kept_source m.source

-- by the first sources of the parts, whether a source is of the part of another
abbrev pub is_of_part : List ℕ → ℕ → ℕ → Bool
is_of_part firsts own number = option_map_or (λ mine.
    option_map_or (λ first. first == mine) (slice_get firsts number) false)
    (slice_get firsts own) false

-- a source of the plan's premises, and a place; a test says which sources are of its part
pub record IsWaiter (p : Premises) (beside : KeptSource → Bool) (s : KeptSource) (w : Waiter)
    : Type 0 where
  pub archive : w.archive.now ≡ p.archive
  pub sound : AreSound p
  pub apart : PackagesAreApart p
  pub movers : AreMovers p w.movers.now
  pub own : Mover
  pub at : slice_get w.movers.now w.mover ≡ Some own
  pub is : kept_of own ≡ s
  pub place : w.place < length p.archive.table
  pub parts : (k : ℕ) (m : Mover) → slice_get w.movers.now k ≡ Some m
      → is_of_part w.firsts.now w.mover k ≡ beside (kept_of m)

-- ---- 2. for which package

-- a package of the present version, else one of an older version
abbrev pub either_package : Option KeptBinary → Option KeptBinary → Option (KeptBinary × Bool)
either_package None old = option_map (λ b. (b, true)) old
either_package (Some b) old = Some (b, false)

-- the package of t for which s waits there, and whether it is of an older version
abbrev pub package_for : Contents → KeptSource → KeptSource → ℕ → Option (KeptBinary × Bool)
package_for a s t place = either_package (present_package a s t place) (own_package a s t place)

-- the package by its number, and whether it is of an older version
abbrev pub chosen_package : Contents → Option (ℕ × Bool) → Option (KeptBinary × Bool)
chosen_package a chosen =
    option_and_then (λ q. option_map (λ b. (b, q.1)) (slice_get a.binaries q.0))
    chosen

-- ---- 3. what was found

-- the waits, without where they lie
abbrev pub seen_waits : Waits → List spec.Wait
seen_waits w = map seen w.waits.items

-- the names of the sources for which another can't be told to wait
abbrev pub waitless_names : Waits → List (List ℕ)
waitless_names w = map (λ name. name.now) w.waitless.items

-- whether s waits there for t
abbrev pub is_awaited : Premises → (KeptSource → Bool) → KeptSource → ℕ → KeptSource → Bool
is_awaited p beside s place t = is_moving p t place
    && (builds_there p.archive place s t && not (beside t))

-- the sources among some for which s waits at a place
abbrev pub awaited_among : Premises → (KeptSource → Bool) → KeptSource → ℕ → List KeptSource
    → List KeptSource
awaited_among p beside s place ts = filter (is_awaited p beside s place) ts

-- what s waits for at a place was added, as far as it is of some sources
pub record AreAdded (p : Premises) (beside : KeptSource → Bool) (s : KeptSource) (place : ℕ)
    (ts : List KeptSource) (old new : Waits) : Type 0 where
  pub waits : seen_waits new ≡ seen_waits old
      ++ filter_map (wait_of p s place) (awaited_among p beside s place ts)
  pub waitless : waitless_names new ≡ waitless_names old
      ++ map name_of (filter (is_waitless p s place) (awaited_among p beside s place ts))

-- what s waits for at a place was found, source by source
pub record AreFound (p : Premises) (beside : KeptSource → Bool) (s : KeptSource) (place : ℕ)
    (ts : List KeptSource) (found : Waits) : Type 0 where
  pub waits : seen_waits found
      ≡ filter_map (wait_of p s place) (awaited_among p beside s place ts)
  pub waitless : waitless_names found
      ≡ map name_of (filter (is_waitless p s place) (awaited_among p beside s place ts))

-- what s waits for at a place was found for all sources, in the order of the packages
pub record AreWaits (p : Premises) (beside : KeptSource → Bool) (s : KeptSource) (place : ℕ)
    (found : Waits) : Type 0 where
  pub waits : seen_waits found ≡ waits_of beside p s place
  pub waitless : waitless_names found
      ≡ map name_of (filter (is_waitless p s place) (awaited beside p s place))
