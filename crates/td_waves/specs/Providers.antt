-- What is found under a name: the packages of the affected sources that offer it.
-- This project's own.
use Rattle.std.specs.Prelude.{◌≡◌, ℕ, zero, suc, Bool, false, ◌&&◌, ◌||◌, List, [], ◌∷◌, Option}
use Rattle.std.specs.Prelude.{length, slice_get, slice_index_or}
use Rattle.std.specs.Borrow.{Bor}
use Rattle.std.specs.List.{list_any}
use Rattle.std.specs.HashMap.{get_by}
use Rattle.std.specs.Option.{option_map_or}
use Rattle.std.specs.Str.{bytes_eq}
use Rattle.td_indices.specs.Archive.{Contents, is_of}
use Rattle.td_indices.specs.Kept.{KeptBinary}
use Rattle.td_indices.specs.OfferedNames.{offered_names}
use Rattle.td_waves.specs.declared.providers.Found.{Found}
use Rattle.td_waves.specs.declared.providers.Provider.{Provider}
use Rattle.td_waves.specs.declared.providers.Providers.{Providers}
use Rattle.td_waves.specs.Named.{texts}

-- the first that is found under a name, and the others
abbrev pub all_found : Found → List Provider
all_found found = found.first ∷ found.others.items

-- the packages that are found under a name
abbrev pub under : Providers → List ℕ → List Provider
under providers name = option_map_or all_found
    (get_by (λ k. bytes_eq name k.now) providers.by_name) []

-- a package at a place, of the source with a number
abbrev pub provider : Option ℕ → ℕ → Provider
provider home owner = record { home = home; owner = owner }

-- a package offers the name, and what is kept of it passes a test
abbrev pub passes_under : List ℕ → (Provider → Bool) → ℕ → KeptBinary → Bool
passes_under q test owner b = list_any (λ name.
    bytes_eq q name && test (provider b.head.home owner)) (offered_names b)

-- the package with a number offers the name, and what is kept of it passes a test
abbrev pub passes_numbered : Contents → List ℕ → (Provider → Bool) → ℕ → ℕ → Bool
passes_numbered a q test owner number = option_map_or (passes_under q test owner)
    (slice_get a.binaries number) false

-- some package of a source offers the name, and what is kept of it passes a test
abbrev pub some_passes : Contents → List ℕ → (Provider → Bool) → List ℕ → ℕ → Bool
some_passes a q test source owner = list_any (λ b.
    is_of source b && passes_under q test owner b) a.binaries

-- some package of the first n of the sources offers the name, and what is kept of it passes a test
abbrev pub some_below : Contents → List (List ℕ) → List ℕ → (Provider → Bool) → ℕ → Bool
some_below a names q test zero = false
some_below a names q test (suc n) = some_below a names q test n
    || some_passes a q test (slice_index_or names n []) n

-- what is found under each name are the packages of the affected sources that offer it
abbrev pub AreProviders : Contents → List (Bor (List ℕ)) → Providers → Type 0
AreProviders a names providers =
    (q : List ℕ) (test : Provider → Bool)
    → list_any test (under providers q) ≡ some_below a (texts names) q test (length names)
