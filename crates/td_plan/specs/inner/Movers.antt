-- The affected sources, with what a plan has to do with their rows, as the code has them. This
-- project's own.
use Rattle.std.specs.Prelude.{◌≡◌, ℕ, ◌<◌, Bool, true, false, List, Option, None, Some, length}
use Rattle.std.specs.Prelude.{◌++◌, ◌∷◌, [], map, slice_get, slice_index_or, if◌then◌else◌}
use Rattle.std.specs.List.{All, Contains, list_any}
use Rattle.std.specs.Option.{option_and_then}
use Rattle.std.specs.Prelude.{Result, Ok, Err}
use Rattle.std.specs.declared.alloc.AllocError.{AllocError}
use Rattle.td_indices.specs.Archive.{Contents, number_named}
use Rattle.td_indices.specs.Kept.{KeptBinary}
use Rattle.td_indices.specs.Sources.{KeptSource}
use Rattle.td_query.specs.Statuses.{is_affected}
use Rattle.td_query.specs.Tracking.{Tracking}
use Rattle.td_plan.specs.declared.due.Motion.{Motion}
use Rattle.td_plan.specs.declared.due.Motion.TheVariants.{Due, Pending, Still}
use Rattle.td_plan.specs.declared.movers.Mover.{Mover}
use Rattle.td_plan.specs.Due.{is_present}
use Rattle.td_plan.specs.InOrder.{first_where, is_before}
use Rattle.td_plan.specs.Packages.{package_name}
use Rattle.td_plan.specs.Premises.{Premises}
use Rattle.td_plan.specs.inner.Inputs.{kept_source}
use Rattle.td_plan.specs.inner.Motions.{AreMotions}

-- ---- 1. what is to be done

-- a row is rebuilt
abbrev pub is_due_motion : Motion → Bool
is_due_motion Still = false
is_due_motion Due = true
is_due_motion (Pending number) = false

-- a row is rebuilt, or on its way
abbrev pub is_moving_motion : Motion → Bool
is_moving_motion Still = false
is_moving_motion Due = true
is_moving_motion (Pending number) = true

-- the number under which a row arrives; due rows have the number that is given
abbrev pub arrival_of : ℕ → Motion → Option ℕ
arrival_of number Still = None
arrival_of number Due = Some number
arrival_of number (Pending own) = Some own

-- some row of a source is rebuilt
abbrev pub has_due_motion : Mover → Bool
has_due_motion m = list_any is_due_motion m.motions.at.items

-- some row of a source is rebuilt, or on its way
abbrev pub has_moving_motion : Mover → Bool
has_moving_motion m = list_any is_moving_motion m.motions.at.items

-- ---- 2. packages by their numbers

-- the package with a number, if there is a number
abbrev pub package_numbered : Contents → Option ℕ → Option KeptBinary
package_numbered a number = option_and_then (λ n. slice_get a.binaries n) number

-- a step with an item, if there is one and it passes a test
abbrev pub stepped : {A B : Type 0} → (B → A → B) → (A → Bool) → B → Option A → B
stepped step test found None = found
stepped step test found (Some x) = if test x then step found x else found

-- by place the first package, in byte order, of exactly the architecture there and of the source's
-- present version
pub record ArePackages (p : Premises) (s : KeptSource) (numbers : List (Option ℕ)) : Type 0 where
  pub len : length numbers ≡ length p.archive.table
  pub at : (place : ℕ) → place < length p.archive.table
      → package_numbered p.archive (slice_index_or numbers place None)
      ≡ first_where package_name (is_present s place) p.archive.binaries

-- ---- 3. the affected sources

-- a source of the archive that is affected, and what a plan has to do with its rows
pub record IsMover (p : Premises) (m : Mover) (s : KeptSource) : Type 0 where
  pub shown : kept_source m.source ≡ s
  pub at : slice_get p.archive.sources m.number ≡ Some s
  pub affected : is_affected p.archive p.tracker s ≡ true
  pub motions : AreMotions p s m.motions
  pub packages : ArePackages p s m.packages.items

-- the source with a number is affected, and is the one with this name
pub record IsNameAffected (a : Contents) (t : Tracking) (name : List ℕ) : Type 0 where
  pub number : ℕ
  pub source : KeptSource
  pub named : number_named a name ≡ Some number
  pub at : slice_get a.sources number ≡ Some source
  pub affected : is_affected a t source ≡ true

abbrev pub IsAffectedName : Premises → List ℕ → Type 0
IsAffectedName p name = IsNameAffected p.archive p.tracker name

-- the name of an affected source
abbrev pub mover_name : Mover → List ℕ
mover_name m = m.source.name.now

-- the source with this name comes after the others, and is of some kind
pub record HasMoreOf (Is : Mover → Type 0) (name : List ℕ) (old new : List Mover) : Type 0 where
  pub mover : Mover
  pub more : new ≡ old ++ mover ∷ []
  pub named : mover_name mover ≡ name
  pub is : Is mover

-- what was made for a name is the source with this name, of some kind, unless memory ran out
abbrev pub IsMadeOf : (Mover → Type 0) → List ℕ → Option (Result Mover AllocError) → Type 0
IsMadeOf Is name None = ⊥
IsMadeOf Is name (Some (Ok m)) = (mover_name m ≡ name) × Is m
IsMadeOf Is name (Some (Err e)) = Unit {0}

-- the sources with these names, in their order, all of some kind
pub record AreNamedOf (Is : Mover → Type 0) (names : List (List ℕ)) (ms : List Mover)
    : Type 0 where
  pub each : All Is ms
  pub named : map mover_name ms ≡ names

-- all affected sources, of some kind each, in the byte order of their names
pub record AreAllOf (Is : Mover → Type 0) (a : Contents) (t : Tracking) (ms : List Mover)
    : Type 0 where
  pub each : (k : ℕ) (m : Mover) → slice_get ms k ≡ Some m → Is m
  pub all : (s : KeptSource) → Contains a.sources s → is_affected a t s ≡ true
      → (k : ℕ) × (m : Mover) × (slice_get ms k ≡ Some m) × (kept_source m.source ≡ s)
  pub rising : (j k : ℕ) (m n : Mover) → j < k → slice_get ms j ≡ Some m
      → slice_get ms k ≡ Some n → is_before (mover_name m) (mover_name n) ≡ true

-- ---- 4. what a plan has to do with their rows

-- what was made for a name is the source with this name, with what a plan has to do with its rows,
-- unless memory ran out
abbrev pub IsMade : Premises → List ℕ → Option (Result Mover AllocError) → Type 0
IsMade p name made = IsMadeOf (λ m. IsMover p m (kept_source m.source)) name made

-- the sources with these names, in their order, with what a plan has to do with their rows
abbrev pub AreNamed : Premises → List (List ℕ) → List Mover → Type 0
AreNamed p names ms = AreNamedOf (λ m. IsMover p m (kept_source m.source)) names ms

-- all affected sources, in the byte order of their names, with what a plan has to do with their
-- rows
abbrev pub AreMovers : Premises → List Mover → Type 0
AreMovers p ms = AreAllOf (λ m. IsMover p m (kept_source m.source)) p.archive p.tracker ms

-- ---- 5. affected sources whatever their rows are

-- an affected source of the archive, as one that moves
pub record IsAffectedMover (a : Contents) (t : Tracking) (m : Mover) : Type 0 where
  pub at : slice_get a.sources m.number ≡ Some (kept_source m.source)
  pub affected : is_affected a t (kept_source m.source) ≡ true
  pub moves : has_moving_motion m ≡ true

-- all affected sources, in the byte order of their names, each as one that moves
abbrev pub AreAffected : Contents → Tracking → List Mover → Type 0
AreAffected a t ms = AreAllOf (IsAffectedMover a t) a t ms
