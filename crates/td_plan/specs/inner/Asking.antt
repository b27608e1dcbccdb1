-- What the build of a source asks for, place by place.
use Rattle.std.specs.Prelude.{◌<◌, ℕ, ◌&&◌, ◌||◌, ◌==◌, not, Bool, List, [], map}
use Rattle.std.specs.Prelude.{slice_index_or}
use Rattle.std.specs.Global.{Vec}
use Rattle.std.specs.List.{All, flat_map, list_any}
use Rattle.std.specs.List.Sorted.{IsNonDecreasingBy}
use Rattle.td_relation.specs.Asked.{Asked}
use Rattle.td_waves.specs.BuildsOn.{asked_first, asked_for_arch, fits_at, some_asked}
use Rattle.td_plan.specs.declared.asks.Ask.{Ask}
use Rattle.td_plan.specs.declared.asks.Asker.{Asker}
use Rattle.td_plan.specs.declared.providers.Provider.{Provider}
use Rattle.td_plan.specs.declared.providers.Share.{Share}
use Rattle.td_plan.specs.inner.Providing.{shared_under, under}

-- what is asked for at a place
abbrev pub asks_at : List (Vec Ask) → ℕ → List Ask
asks_at asks place = slice_index_or (map (λ (list : Vec Ask). list.items) asks) place []

-- what was found, as it is asked for
abbrev pub ask_of : Provider → Ask
ask_of p = record { binary = p.binary; owner = p.owner; is_own = p.is_own }

-- at a place an alternative asks for a package that was found, and that passes a test
abbrev pub asks_one : Asker → ℕ → (Ask → Bool) → Asked → Provider → Bool
asks_one asker place test x p =
    fits_at asker.archive.now asker.number x p.home place && test (ask_of p)

-- at a place an alternative asks for a package of another source that was found, and passes a test
abbrev pub asks_other : Asker → ℕ → (Ask → Bool) → Asked → Provider → Bool
asks_other asker place test x p = not (p.owner == asker.mover) && asks_one asker place test x p

-- at a place an alternative asks for some package of another source in a share that passes a test
abbrev pub asks_shared : Asker → ℕ → (Ask → Bool) → Asked → Share → Bool
asks_shared asker place test x share =
    list_any (asks_other asker place test x) (shared_under share x.name)

-- at a place an alternative asks for some package of another source that passes a test
abbrev pub asks_some : Asker → ℕ → (Ask → Bool) → Asked → Bool
asks_some asker place test x =
    list_any (asks_other asker place test x) (under asker.providers.now x.name)

-- at a place some alternative of a build asks for a package of another source that passes a test
abbrev pub asks_any : Asker → ℕ → (Ask → Bool) → Bool
asks_any asker place test =
    some_asked (asks_some asker place test) (asked_first asker.archive.now asker.number)
    || some_asked (asks_some asker place test) (asked_for_arch asker.archive.now asker.number)

-- the owners of all that is asked for at each place are below a limit
abbrev pub AreWithin : ℕ → List (Vec Ask) → Type 0
AreWithin limit asks = All (λ (list : Vec Ask). All (λ (ask : Ask). ask.owner < limit) list.items)
    asks

-- asks in the order of their owners
abbrev pub IsByOwner : List Ask → Type 0
IsByOwner asks = IsNonDecreasingBy (λ (ask : Ask). ask.owner) asks

-- the owners of all that is asked for, place by place
abbrev pub owners_of : List (Vec Ask) → List ℕ
owners_of asks = flat_map (λ (list : Vec Ask). map (λ (ask : Ask). ask.owner) list.items) asks
