-- What is found under a name: the packages of the sources that move and offer it.
use Rattle.std.specs.Prelude.{◌≡◌, ℕ, ◌%◌, ◌==◌, Bool, false, ◌&&◌, List, [], length, map}
use Rattle.std.specs.Prelude.{slice_get}
use Rattle.std.specs.Global.{Vec}
use Rattle.std.specs.HashMap.{get_by}
use Rattle.std.specs.List.{flat_map, list_any, range_with_len}
use Rattle.std.specs.Option.{option_map_or}
use Rattle.std.specs.Str.{bytes_eq}
use Rattle.td_indices.specs.Archive.{Contents, numbers_of}
use Rattle.td_indices.specs.Kept.{KeptBinary}
use Rattle.td_indices.specs.OfferedNames.{offered_names}
use Rattle.td_plan.specs.declared.movers.Mover.{Mover}
use Rattle.td_plan.specs.declared.providers.Provider.{Provider}
use Rattle.td_plan.specs.declared.providers.Providers.{Providers}
use Rattle.td_plan.specs.declared.providers.Share.{Share}
use Rattle.td_plan.specs.inner.Movers.{has_moving_motion, mover_name}

-- the number of the share that the source with a number is in
abbrev pub share_of : ℕ → ℕ
share_of owner = owner % 4

-- the packages that are found under a name in a share
abbrev pub shared_under : Share → List ℕ → List Provider
shared_under share name = option_map_or (λ (found : Vec Provider). found.items)
    (get_by (λ k. bytes_eq name k.now) share.by_name) []

-- the packages that are found under a name
abbrev pub under : Providers → List ℕ → List Provider
under providers name = flat_map (λ share. shared_under share name) providers.shares.items

-- the package with a number, of a source with a number, under a name that it offers
abbrev pub provider : ℕ → ℕ → KeptBinary → List ℕ → Provider
provider number owner b name = record {
  binary = number;
  owner = owner;
  home = b.head.home;
  is_own = bytes_eq name b.head.name;
}

-- a package offers the name, and what is kept of it under that passes a test
abbrev pub passes_under : List ℕ → (Provider → Bool) → ℕ → ℕ → KeptBinary → Bool
passes_under q test owner number b = list_any (λ name. bytes_eq q name
    && test (provider number owner b name)) (offered_names b)

-- the package with a number offers the name, and what is kept of it under that passes a test
abbrev pub passes_numbered : Contents → List ℕ → (Provider → Bool) → ℕ → ℕ → Bool
passes_numbered a q test owner number = option_map_or (passes_under q test owner number)
    (slice_get a.binaries number) false

-- some package of a source offers the name and passes the test
abbrev pub some_passes : Contents → List ℕ → (Provider → Bool) → List ℕ → ℕ → Bool
some_passes a q test source owner =
    list_any (passes_numbered a q test owner) (numbers_of a source)

-- some package of an affected source that moves, by its number, offers the name and passes the test
abbrev pub passes_of : Contents → List Mover → List ℕ → (Provider → Bool) → ℕ → Bool
passes_of a ms q test owner = option_map_or (λ m.
    has_moving_motion m && some_passes a q test (mover_name m) owner) (slice_get ms owner) false

-- some package of an affected source that is in the share and moves offers the name and passes
abbrev pub shared_passes : Contents → List Mover → List ℕ → (Provider → Bool) → ℕ → ℕ → Bool
shared_passes a ms q test share owner = (share_of owner == share) && passes_of a ms q test owner

-- what is found under each name in a share are the packages of its sources that move and offer it
abbrev pub AreInShare : Contents → List Mover → ℕ → Share → Type 0
AreInShare a ms share found = (q : List ℕ) (test : Provider → Bool)
    → list_any test (shared_under found q)
    ≡ list_any (shared_passes a ms q test share) (range_with_len 0 (length ms))

-- these are all shares: what is found in each is what is found in the one with its number
abbrev pub AreShares : Contents → List Mover → List Share → Type 0
AreShares a ms shares = (q : List ℕ) (test : Provider → Bool)
    → map (λ share. list_any test (shared_under share q)) shares
    ≡ map (λ k. list_any (shared_passes a ms q test k) (range_with_len 0 (length ms)))
    (range_with_len 0 4)

-- what is found under each name are the packages of the sources that move and offer it
abbrev pub AreProviders : Contents → List Mover → Providers → Type 0
AreProviders a ms providers = (q : List ℕ) (test : Provider → Bool)
    → list_any test (under providers q)
    ≡ list_any (passes_of a ms q test) (range_with_len 0 (length ms))
