-- The source whose lines are written, and what it waits for place by place.
use Rattle.std.specs.Prelude.{◌≡◌, ℕ, ◌<◌, [], List, Some, filter, length, map, slice_get}
use Rattle.std.specs.Prelude.{if◌then◌else◌}
use Rattle.td_indices.specs.Sources.{KeptSource}
use Rattle.td_plan.specs.declared.movers.Mover.{Mover}
use Rattle.td_plan.specs.declared.source_text.SourceText.{SourceText}
use Rattle.td_plan.specs.declared.waits.Waits.{Waits}
use Rattle.td_plan.specs.Due.{is_due}
use Rattle.td_plan.specs.Placing.{Placing}
use Rattle.td_plan.specs.Plan.{is_beside}
use Rattle.td_plan.specs.Premises.{AreSound, PackagesAreApart, Premises, name_of}
use Rattle.td_plan.specs.Waits.{awaited, is_waitless, waits_of}
use Rattle.td_plan.specs.inner.Asked.{AreAsks}
use Rattle.td_plan.specs.inner.Asking.{asks_at}
use Rattle.td_plan.specs.inner.Movers.{AreMovers}
use Rattle.td_plan.specs.inner.Waiters.{is_of_part, kept_of, seen_waits, waitless_names}

-- a source of the plan's premises, and what it asks for; the first sources of the parts say which
-- others are of its part
pub record IsTold (p : Premises) (x : Placing) (s : KeptSource) (t : SourceText) : Type 0 where
  pub archive : t.archive.now ≡ p.archive
  pub sound : AreSound p
  pub apart : PackagesAreApart p
  pub movers : AreMovers p t.movers.now
  pub own : Mover
  pub at : slice_get t.movers.now t.number ≡ Some own
  pub is : kept_of own ≡ s
  pub parts : (k : ℕ) (m : Mover) → slice_get t.movers.now k ≡ Some m
      → is_of_part t.firsts.now t.number k ≡ is_beside x s (kept_of m)
  pub asks : (place : ℕ) → place < length p.archive.table
      → AreAsks p.archive t.movers.now t.number s place (asks_at t.asks.now.items place)

-- what a source waits for at a place, if its row there is due
pub record AreRowWaits (p : Premises) (x : Placing) (s : KeptSource) (place : ℕ) (w : Waits)
    : Type 0 where
  pub waits : seen_waits w
      ≡ (if is_due p s place then waits_of (is_beside x s) p s place else [])
  pub waitless : waitless_names w ≡ (if is_due p s place
      then map name_of (filter (is_waitless p s place) (awaited (is_beside x s) p s place)) else [])

-- what a source waits for at each place of the table, if its row there is due
pub record AreAllWaits (p : Premises) (x : Placing) (s : KeptSource) (all : List Waits) : Type 0
  where
    pub len : length all ≡ length p.archive.table
    pub at : (place : ℕ) (w : Waits) → slice_get all place ≡ Some w → AreRowWaits p x s place w
