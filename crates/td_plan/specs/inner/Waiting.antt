-- What is waited for, where it lies in memory.
use Rattle.std.specs.Prelude.{ℕ, ◌&&◌, Option, slice_get}
use Rattle.td_version.specs.Version.{Parts, parts_of}
use Rattle.td_supply.specs.Supplied.{with_rebuild}
use Rattle.td_indices.specs.Archive.{Contents}
use Rattle.td_indices.specs.Kept.{KeptBinary}
use Rattle.td_indices.specs.Opening.{is_current}
use Rattle.td_plan.specs.declared.asks.Ask.{Ask}
use Rattle.td_plan.specs.declared.waits.Wait.{Wait}
use Rattle.td_plan.specs.InOrder.{earlier}
use Rattle.td_plan.specs.Packages.{package_name}
use Rattle.td_plan.specs.Reasons.{is_exactly}
use Rattle.td_plan.specs.Waits as spec
use Rattle.td_plan.specs.inner.Movers.{stepped}
use Rattle.td_plan.specs.inner.Rebuilt.{text_of}

-- a wait, without where it lies
abbrev pub seen : Wait → spec.Wait
seen w = record {
  name = w.name.now;
  version = text_of w.version;
  parts = with_rebuild (parts_of w.version.base) w.version.number;
  on = w.on.now;
  older = w.is_older;
}

-- the first of the packages asked for that are of exactly the architecture at a place and of a
-- source version, with one ask more
abbrev pub next_named : Contents → Parts → ℕ → Option KeptBinary → Ask → Option KeptBinary
next_named a parts place best ask =
    stepped (earlier package_name) (is_current parts place) best (slice_get a.binaries ask.binary)

-- the first of the packages of an architecture that are asked for by their own name, one ask more
abbrev pub next_own : Contents → ℕ → Option KeptBinary → Ask → Option KeptBinary
next_own a place best ask = stepped (earlier package_name)
    (λ b. ask.is_own && is_exactly place b) best (slice_get a.binaries ask.binary)
