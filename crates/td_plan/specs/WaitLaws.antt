-- When a row that waits is freed. This project's own.
use Rattle.std.specs.Prelude.{◌≡◌, ◌⊎◌, ℕ, ◌<◌, true, IsTrue, List, [], ◌∷◌, Some, None, Ok}
use Rattle.std.specs.Prelude.{length, map}
use Rattle.std.specs.List.{Contains}
use Rattle.std.specs.Ordering.{is_ge}
use Rattle.td_version.specs.Order.{version_cmp}
use Rattle.td_version.specs.Version.{Parts}
use Rattle.td_relation.specs.Asked.{Asked}
use Rattle.td_relation.specs.Meeting.{is_on}
use Rattle.td_relation.specs.RelationGrammar.{relation_at}
use Rattle.td_relation.specs.RelationWriting.{alternative_asked}
use Rattle.td_supply.specs.Supplied.{Item, Supplied, is_built_by, rebuild_of}
use Rattle.td_supply.specs.Supply.{SupplyView, arrived, meets, opened, stock_of}
use Rattle.td_indices.specs.Archive.{IsArchive, source_named}
use Rattle.td_indices.specs.Kept.{KeptBinary}
use Rattle.td_indices.specs.OfferLaws.{IsProvidedBy}
use Rattle.td_indices.specs.Sources.{KeptSource}
use Rattle.td_indices.specs.Supplying.{supply_of}
use Rattle.td_plan.specs.Due.{arrival_number, is_due}
use Rattle.td_plan.specs.Placing.{IsPlacing, Placing}
use Rattle.td_plan.specs.Plan.{is_beside}
use Rattle.td_plan.specs.Premises.{AreSound, PackagesAreApart, Premises, arch_at}
use Rattle.td_plan.specs.Relations.{member_of, relation_of}
use Rattle.td_plan.specs.SoundLaws.{WasRead}
use Rattle.td_plan.specs.Waits.{Wait, awaited, is_waitless, wait_of, waits_of}

-- ---- 1. what is on offer

-- the arrival of a source's row on an architecture, with a number
pub record Arrival : Type 0 where
  pub source : List ℕ
  pub arch : List ℕ
  pub number : ℕ

-- a supply after some arrivals
abbrev pub after_arrivals : SupplyView → List Arrival → SupplyView
after_arrivals v [] = v
after_arrivals v (a ∷ arrivals) = after_arrivals (arrived v a.source a.arch a.number) arrivals

-- what the archive offers, after some arrivals
pub record IsOnOffer (p : Premises) (v : SupplyView) : Type 0 where
  pub arrivals : List Arrival
  pub is : v ≡ after_arrivals (opened (supply_of p.archive)) arrivals

-- a source's row at a place has arrived with a number: its arrival with that changes nothing more
abbrev pub HasArrived : Premises → SupplyView → KeptSource → ℕ → ℕ → Type 0
HasArrived p v t place number =
    arrived v t.head.name (arch_at p.archive.table place) number ≡ v

-- a row hasn't arrived under a number: each of its packages there is offered in the index's
-- version, or as a rebuild with a lower number
abbrev pub HasNotArrived : Premises → SupplyView → KeptSource → ℕ → ℕ → Type 0
HasNotArrived p v t place number = (i : Item) → Contains v.items i
    → IsTrue (is_built_by p.archive.table t.head.name (arch_at p.archive.table place) i.offer)
    → (i.rebuilt ≡ None) ⊎ ((m : ℕ) × (m < number) × (i.rebuilt ≡ rebuild_of m i.offer))

-- ---- 2. what rows wait for

-- a row of a plan: it is due, and its source is one of the archive
pub record IsPlanned (p : Premises) (x : Placing) (s : KeptSource) (place : ℕ) : Type 0 where
  pub sound : AreSound p
  pub placed : IsPlacing p x
  pub named : source_named p.archive s.head.name ≡ Some s
  pub there : place < length p.archive.table
  pub due : IsTrue (is_due p s place)

-- what some waits ask for as a relation: a package each, in the version or a later one
abbrev pub members_of : List Wait → List (List Asked)
members_of waits = map (λ w. map alternative_asked (member_of w)) waits

-- the relation of some waits is read as what they ask for
abbrev pub IsReadAgain : List Wait → Type 0
IsReadAgain waits = relation_at (relation_of waits) ≡ Ok (members_of waits)

-- over an archive that was read, the relation of a planned row's waits is read as what they ask for
abbrev pub WaitsAreReadAgain : Type 0
WaitsAreReadAgain = (p : Premises) (x : Placing) (s : KeptSource) (place : ℕ)
    (packages sources : List (List ℕ)) → IsPlanned p x s place
    → IsArchive p.archive.table packages sources p.archive
    → 0 < length (waits_of (is_beside x s) p s place)
    → IsReadAgain (waits_of (is_beside x s) p s place)

-- ---- 3. when a row is freed

-- once each source for which a planned row waits has arrived there, its relation is met
abbrev pub RowsAreReleased : Type 0
RowsAreReleased = (p : Premises) (x : Placing) (s : KeptSource) (place : ℕ) (v : SupplyView)
    → IsPlanned p x s place → stock_of v ≡ supply_of p.archive
    → ((t : KeptSource) → Contains (awaited (is_beside x s) p s place) t
    → HasArrived p v t place (arrival_number p t place))
    → IsReadAgain (waits_of (is_beside x s) p s place)
    → meets v (relation_of (waits_of (is_beside x s) p s place)) (arch_at p.archive.table place)
    ≡ true

-- over an archive that was read, the relation of a planned row that waits for something is met once
-- each source for which the row waits has arrived there
abbrev pub ReadRowsAreReleased : Type 0
ReadRowsAreReleased = (p : Premises) (x : Placing) (s : KeptSource) (place : ℕ) (v : SupplyView)
    (packages sources : List (List ℕ)) → IsPlanned p x s place
    → IsArchive p.archive.table packages sources p.archive
    → 0 < length (waits_of (is_beside x s) p s place) → stock_of v ≡ supply_of p.archive
    → ((t : KeptSource) → Contains (awaited (is_beside x s) p s place) t
    → HasArrived p v t place (arrival_number p t place))
    → meets v (relation_of (waits_of (is_beside x s) p s place)) (arch_at p.archive.table place)
    ≡ true

-- the index itself offers what is waited for: the name, there or on `all`, in the version or a
-- later one
pub record IsInIndex (p : Premises) (place : ℕ) (w : Wait) : Type 0 where
  pub offer : Supplied
  pub offered : Contains (supply_of p.archive).offers offer
  pub name : offer.name ≡ w.name
  pub there : IsTrue (is_on place offer.arch)
  pub version : Parts
  pub has : offer.version ≡ Some version
  pub late : IsTrue (is_ge (version_cmp version w.parts))

-- while an awaited source hasn't arrived, the relation is met only if the index offers its package
abbrev pub RowsAreHeld : Type 0
RowsAreHeld = (p : Premises) (x : Placing) (s t : KeptSource) (place : ℕ) (v : SupplyView)
    (w : Wait) → IsPlanned p x s place → PackagesAreApart p → IsOnOffer p v
    → Contains (awaited (is_beside x s) p s place) t → wait_of p s place t ≡ Some w
    → HasNotArrived p v t place (arrival_number p t place)
    → IsReadAgain (waits_of (is_beside x s) p s place)
    → meets v (relation_of (waits_of (is_beside x s) p s place)) (arch_at p.archive.table place)
    ≡ true → IsInIndex p place w

-- if the awaited row is due, the index offers that only as a package of `all`, or as a name that a
-- package provides: the awaited package itself is in the index in a lower version
abbrev pub DueVersionsAreNew : Type 0
DueVersionsAreNew = (p : Premises) (x : Placing) (s t : KeptSource) (place : ℕ) (w : Wait)
    → WasRead p.archive → IsPlanned p x t place → wait_of p s place t ≡ Some w
    → (i : IsInIndex p place w) → (i.offer.arch ≡ None)
    ⊎ ((b : KeptBinary) × Contains p.archive.binaries b × IsProvidedBy b i.offer)

-- for a source whose row there is due, a row can always be told to wait
abbrev pub DueRowsAreWaitedFor : Type 0
DueRowsAreWaitedFor = (p : Premises) (x : Placing) (s t : KeptSource) (place : ℕ)
    → IsPlanned p x s place → Contains (awaited (is_beside x s) p s place) t
    → IsTrue (is_due p t place) → ¬ IsTrue (is_waitless p s place t)
