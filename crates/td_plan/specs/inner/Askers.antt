-- What each of the affected sources asks for, by its number among them.
use Rattle.std.specs.Prelude.{◌≡◌, ℕ, ◌<◌, [], true, false, List, Some, length, slice_get}
use Rattle.std.specs.Global.{Vec}
use Rattle.td_indices.specs.Archive.{Contents}
use Rattle.td_indices.specs.Sources.{KeptSource}
use Rattle.td_plan.specs.declared.asks.Ask.{Ask}
use Rattle.td_plan.specs.declared.movers.Mover.{Mover}
use Rattle.td_plan.specs.inner.Asked.{AreAsks}
use Rattle.td_plan.specs.inner.Asking.{AreWithin, asks_at}
use Rattle.td_plan.specs.inner.Movers.{has_moving_motion}

-- the source with a number asks for these at each place; for nothing if it doesn't move
pub record AreAsksOf (a : Contents) (ms : List Mover) (own : ℕ) (m : Mover)
    (asks : List (Vec Ask)) : Type 0 where
  pub still : has_moving_motion m ≡ false → asks ≡ []
  pub len : (s : KeptSource) → slice_get a.sources m.number ≡ Some s
      → has_moving_motion m ≡ true → length asks ≡ length a.table
  pub within : AreWithin (length ms) asks
  pub at : (s : KeptSource) (place : ℕ) → slice_get a.sources m.number ≡ Some s
      → has_moving_motion m ≡ true → place < length a.table
      → AreAsks a ms own s place (asks_at asks place)

-- these are the asks of the affected source with a number, if there is one
abbrev pub AreAsksAt : Contents → List Mover → ℕ → List (Vec Ask) → Type 0
AreAsksAt a ms own asks = (m : Mover) → slice_get ms own ≡ Some m → AreAsksOf a ms own m asks

-- these are the asks of each affected source
pub record AreAllAsks (a : Contents) (ms : List Mover) (all : List (Vec (Vec Ask))) : Type 0 where
  pub len : length all ≡ length ms
  pub at : (k : ℕ) (m : Mover) (asks : Vec (Vec Ask)) → slice_get ms k ≡ Some m
      → slice_get all k ≡ Some asks → AreAsksOf a ms k m asks.items
