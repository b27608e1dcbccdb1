-- What a source builds on, by what it asks for anywhere.
use Rattle.std.specs.Prelude.{ℕ, ◌<◌, ◌==◌, true, if◌then◌else◌, Bool, List, [], ◌∷◌, ◌++◌, Option}
use Rattle.std.specs.Prelude.{None, codes, fold}
use Rattle.std.specs.Prelude.{length, map, slice_get}
use Rattle.std.specs.Global.{Vec}
use Rattle.std.specs.List.{Contains, join_by, list_any}
use Rattle.std.specs.Option.{option_map_or}
use Rattle.td_indices.specs.Archive.{Contents}
use Rattle.td_indices.specs.Kept.{KeptBinary}
use Rattle.td_indices.specs.Sources.{KeptSource}
use Rattle.td_query.specs.Tracking.{Tracking}
use Rattle.td_plan.specs.declared.asks.Ask.{Ask}
use Rattle.td_plan.specs.declared.bases.Bases.{Bases}
use Rattle.td_plan.specs.declared.movers.Mover.{Mover}
use Rattle.td_plan.specs.InOrder.{earlier}
use Rattle.td_plan.specs.Packages.{package_name}
use Rattle.td_plan.specs.Premises.{SourcesAreApart}
use Rattle.td_plan.specs.Why.{bases_among, reason_text}
use Rattle.td_plan.specs.inner.Asked.{IsAsk}
use Rattle.td_plan.specs.inner.Asking.{IsByOwner}
use Rattle.td_plan.specs.inner.Movers.{AreAffected, stepped}
use Rattle.td_plan.specs.inner.Planned.{name_at}
use Rattle.td_plan.specs.inner.Waiters.{kept_of}

-- ---- 1. what is asked for anywhere

-- all affected sources of an archive that has none twice
pub record AreBases (t : Tracking) (b : Bases) : Type 0 where
  pub apart : SourcesAreApart b.archive.now
  pub sources : AreAffected b.archive.now t b.movers.now

-- some ask at some place passes a test
abbrev pub any_asked : (Ask → Bool) → List (Vec Ask) → Bool
any_asked test asks = list_any (λ (list : Vec Ask). list_any test list.items) asks

-- a source asks for a package somewhere
pub record IsAskAnywhere (a : Contents) (ms : List Mover) (own : ℕ) (s : KeptSource) (ask : Ask)
    : Type 0 where
  pub place : ℕ
  pub within : place < length a.table
  pub is : IsAsk a ms own s place ask

-- these are all asks of a source, at whatever place, in the order of their owners
pub record AreAsksAnywhere (a : Contents) (ms : List Mover) (own : ℕ) (s : KeptSource)
    (asks : List Ask) : Type 0 where
  pub each : (ask : Ask) → Contains asks ask → IsAskAnywhere a ms own s ask
  pub all : (ask : Ask) → IsAskAnywhere a ms own s ask → Contains asks ask
  pub in_order : IsByOwner asks

-- ---- 2. by which package

-- the first of the packages asked for, with one ask more
abbrev pub next_asked : Contents → Option KeptBinary → Ask → Option KeptBinary
next_asked a best ask =
    stepped (earlier package_name) (λ b. true) best (slice_get a.binaries ask.binary)

-- the first of the packages asked for, in byte order
abbrev pub first_asked : Contents → List Ask → Option KeptBinary
first_asked a asks = fold (next_asked a) None asks

-- the owner with a number, and the first of its packages that are asked for
abbrev pub asked_text : Contents → List Mover → ℕ → List Ask → List ℕ
asked_text a ms owner asks =
    name_at ms owner ++ 32 ∷ option_map_or package_name (first_asked a asks) []

-- ---- 3. reasons

-- what comes after the name of a source with these reasons
abbrev pub after_name : List (List ℕ) → List ℕ
after_name [] = []
after_name (first ∷ more) = codes ": " ++ join_by (λ text. text) (codes ", ") (first ∷ more)

-- what stands before a reason: the first has another mark than the others
abbrev pub mark_at : ℕ → List ℕ
mark_at start = if start == 0 then codes ": " else codes ", "

-- on which of some sources a source builds, and why
abbrev pub reasons_among : Contents → KeptSource → List Mover → List (List ℕ)
reasons_among a s ms = map (reason_text a s) (bases_among a (map kept_of ms) s)
