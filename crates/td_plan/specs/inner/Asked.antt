-- What the build of a source asks for at a place, package by package.
use Rattle.std.specs.Prelude.{◌≡◌, ℕ, ◌&&◌, not, Bool, true, false, List, Some, slice_get}
use Rattle.std.specs.List.{Contains, list_any}
use Rattle.td_relation.specs.Asked.{Asked}
use Rattle.td_relation.specs.Meeting.{is_on}
use Rattle.td_indices.specs.Archive.{Contents, is_of}
use Rattle.td_indices.specs.Kept.{KeptBinary}
use Rattle.td_indices.specs.Rows.{has_row}
use Rattle.td_indices.specs.Sources.{KeptSource}
use Rattle.td_plan.specs.declared.asks.Ask.{Ask}
use Rattle.td_plan.specs.declared.movers.Mover.{Mover}
use Rattle.td_plan.specs.BuildsThere.{asks_active, names_itself, names_offer}
use Rattle.td_plan.specs.inner.Asking.{IsByOwner}
use Rattle.td_plan.specs.inner.Movers.{is_moving_motion}

-- an alternative names a package by the package's own name, or by another that it provides
abbrev pub names_as : Bool → KeptBinary → Asked → Bool
names_as true b x = names_itself b x
names_as false b x = names_offer b x && not (names_itself b x)

-- the build of a source asks for a package at a place, by its own name or by another
abbrev pub is_asked : Contents → KeptSource → ℕ → Bool → KeptBinary → Bool
is_asked a s place own b = has_row a.table s.head.archs place
    && (is_on place b.head.home && asks_active a s place (names_as own b))

-- a package of another source that moves is asked for
pub record IsAsk (a : Contents) (ms : List Mover) (own : ℕ) (s : KeptSource) (place : ℕ)
    (ask : Ask) : Type 0 where
  pub owner : Mover
  pub at : slice_get ms ask.owner ≡ Some owner
  pub moves : list_any is_moving_motion owner.motions.at.items ≡ true
  pub apart : ¬ (ask.owner ≡ own)
  pub item : KeptBinary
  pub there : slice_get a.binaries ask.binary ≡ Some item
  pub of : is_of owner.source.name.now item ≡ true
  pub asked : is_asked a s place ask.is_own item ≡ true

-- these are all asks of a source at a place, in the order of their owners
pub record AreAsks (a : Contents) (ms : List Mover) (own : ℕ) (s : KeptSource) (place : ℕ)
    (asks : List Ask) : Type 0 where
  pub each : (ask : Ask) → Contains asks ask → IsAsk a ms own s place ask
  pub all : (ask : Ask) → IsAsk a ms own s place ask → Contains asks ask
  pub in_order : IsByOwner asks

-- these are all asks of a source at a place for packages of one owner
pub record AreAsksFor (a : Contents) (ms : List Mover) (own : ℕ) (s : KeptSource) (place : ℕ)
    (owner : ℕ) (asks : List Ask) : Type 0 where
  pub each : (ask : Ask) → Contains asks ask → IsAsk a ms own s place ask × (ask.owner ≡ owner)
  pub all : (ask : Ask) → IsAsk a ms own s place ask → ask.owner ≡ owner → Contains asks ask
