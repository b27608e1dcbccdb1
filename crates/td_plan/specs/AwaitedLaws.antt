-- For which sources a row waits, and for which package of each. This project's own.
use Rattle.std.specs.Prelude.{◌≡◌, ◌⊎◌, ℕ, Bool, true, false, IsTrue, List, Some}
use Rattle.std.specs.List.{AllPairs, Contains}
use Rattle.td_relation.specs.Asked.{Asked}
use Rattle.td_supply.specs.Supplied.{with_rebuild}
use Rattle.td_indices.specs.Kept.{KeptBinary}
use Rattle.td_indices.specs.OfferedNames.{offered_names}
use Rattle.td_indices.specs.Sources.{KeptSource}
use Rattle.td_indices.specs.Stanzas.{build_depends_of, build_depends_arch_of}
use Rattle.td_waves.specs.BuildsOn.{is_active_at}
use Rattle.td_plan.specs.BuildsThere.{BuildsThere}
use Rattle.td_plan.specs.Due.{arrival_number, is_moving}
use Rattle.td_plan.specs.InOrder.{is_before}
use Rattle.td_plan.specs.Packages.{arrival_base, is_written, rebuilt_text}
use Rattle.td_plan.specs.Placing.{Placing}
use Rattle.td_plan.specs.Plan.{is_beside}
use Rattle.td_plan.specs.Premises.{PackagesAreApart, Premises}
use Rattle.td_plan.specs.RowLaws.{IsPackageOf, IsPresentThere, IsThere}
use Rattle.td_plan.specs.WaitLaws.{IsPlanned}
use Rattle.td_plan.specs.Waits.{Wait, is_waitless, wait_of, waits_of}

-- ---- 1. for which sources

-- s waits for t at a place: the row of t there is due or pending, s builds on t there, and t is of
-- another part
pub record WaitsFor (p : Premises) (x : Placing) (s : KeptSource) (place : ℕ) (t : KeptSource)
    : Type 0 where
  pub kept : Contains p.archive.sources t
  pub there : IsTrue (is_moving p t place)
  pub builds : BuildsThere p.archive place s t
  pub apart : ¬ IsTrue (is_beside x s t)

-- a wait of s at a place is for t
pub record IsWaitFor (p : Premises) (x : Placing) (s : KeptSource) (place : ℕ) (w : Wait)
    (t : KeptSource) : Type 0 where
  pub awaits : WaitsFor p x s place t
  pub written : wait_of p s place t ≡ Some w
  pub on : w.on ≡ t.head.name

-- these are the waits of s at a place: one for each source for which s waits there, unless none can
-- be written for it; none that is for no such source; and in byte order of the packages, no package
-- twice
pub record AreWaits (p : Premises) (x : Placing) (s : KeptSource) (place : ℕ) (waits : List Wait)
    : Type 0 where
  pub each : (t : KeptSource) → WaitsFor p x s place t
      → IsTrue (is_waitless p s place t)
      ⊎ ((w : Wait) × Contains waits w × IsWaitFor p x s place w t)
  pub no_more : (w : Wait) → Contains waits w → (t : KeptSource) × IsWaitFor p x s place w t
  pub rising : AllPairs (λ v w. IsTrue (is_before v.name w.name)) waits

-- a row of a plan waits for each source for which it is to wait, and for nothing else
abbrev pub WaitsAreAll : Type 0
WaitsAreAll = (p : Premises) (x : Placing) (s : KeptSource) (place : ℕ)
    → IsPlanned p x s place → PackagesAreApart p
    → AreWaits p x s place (waits_of (is_beside x s) p s place)

-- ---- 2. for which package of a source

-- s asks at a place for a name: an alternative of its build that is active there has that name
pub record AsksFor (p : Premises) (s : KeptSource) (place : ℕ) (name : List ℕ) : Type 0 where
  pub member : List Asked
  pub in_field : Contains (build_depends_of p.archive s) member
      ⊎ Contains (build_depends_arch_of p.archive s) member
  pub alternative : Asked
  pub among : Contains member alternative
  pub active : IsTrue (is_active_at p.archive.table place alternative)
  pub named : alternative.name ≡ name

-- a package of t on exactly the architecture at a place, of t's present version
abbrev pub IsPresent : Premises → KeptSource → ℕ → KeptBinary → Type 0
IsPresent p t place b = IsPackageOf p t b × IsPresentThere t place b

-- such a package for which s asks there, by the package's name or by one that it provides
abbrev pub IsNamed : Premises → KeptSource → KeptSource → ℕ → KeptBinary → Type 0
IsNamed p s t place b = IsPresent p t place b
    × ((name : List ℕ) × Contains (offered_names b) name × AsksFor p s place name)

-- a package of t on exactly the architecture at a place, of any version, for which s asks there by
-- the package's name
abbrev pub IsOwnNamed : Premises → KeptSource → KeptSource → ℕ → KeptBinary → Type 0
IsOwnNamed p s t place b =
    IsPackageOf p t b × IsThere place b × AsksFor p s place b.head.name

-- the first, in byte order of the names, of the packages of which something holds
pub record IsFirstOf (Holds : KeptBinary → Type 0) (b : KeptBinary) : Type 0 where
  pub holds : Holds b
  pub first : (c : KeptBinary) → Holds c → is_before c.head.name b.head.name ≡ false

-- something holds of no package
abbrev pub NoPackage : (KeptBinary → Type 0) → Type 0
NoPackage Holds = (b : KeptBinary) → ¬ Holds b

-- the package of t for which s waits at a place, and whether it is of an older version: of the
-- packages of t's present version the first for which s asks, or the first of all if s asks for
-- none; or, if there is no such package yet, the first for which s asks by its name
abbrev pub IsPackageFor : Premises → KeptSource → KeptSource → ℕ → KeptBinary → Bool → Type 0
IsPackageFor p s t place b older = ((older ≡ false) × IsFirstOf (IsNamed p s t place) b)
    ⊎ (((older ≡ false) × NoPackage (IsNamed p s t place) × IsFirstOf (IsPresent p t place) b)
    ⊎ ((older ≡ true) × NoPackage (IsPresent p t place) × IsFirstOf (IsOwnNamed p s t place) b))

-- a wait of s at a place is for that package of t, in the version of its arrival or a later one
pub record IsForPackage (p : Premises) (s t : KeptSource) (place : ℕ) (w : Wait) : Type 0 where
  pub binary : KeptBinary
  pub is : IsPackageFor p s t place binary w.older
  pub name : w.name ≡ binary.head.name
  pub version : w.version ≡ rebuilt_text (arrival_base t binary) (arrival_number p t place)
  pub parts : w.parts ≡ with_rebuild (arrival_base t binary) (arrival_number p t place)

-- each wait is for the package that the rule says
abbrev pub WaitsAreForFirsts : Type 0
WaitsAreForFirsts = (p : Premises) (s t : KeptSource) (place : ℕ) (w : Wait)
    → wait_of p s place t ≡ Some w → IsForPackage p s t place w

-- a row has no wait for a source only if there is no such package, or if the version of its arrival
-- can't be written
abbrev pub NoWaitsAreRight : Type 0
NoWaitsAreRight = (p : Premises) (s t : KeptSource) (place : ℕ)
    → IsTrue (is_waitless p s place t)
    → (NoPackage (IsPresent p t place) × NoPackage (IsOwnNamed p s t place))
    ⊎ ((b : KeptBinary) × (older : Bool) × IsPackageFor p s t place b older
    × (is_written (arrival_base t b) (arrival_number p t place) ≡ false))
