-- Where the packages of a command stand, found by their source. This project's own.
use mathlib.Core.Bool.{Bool-set}
use mathlib.Core.HLevel.{Π_prop}
use Rattle.std.specs.Prelude.{◌≡◌, ℕ, ◌&&◌, Bool, false, List, [], Option, Some, is_none, slice_get}
use Rattle.std.specs.Prelude.{string_bytes}
use Rattle.std.specs.HashMap.{get_by_text}
use Rattle.std.specs.List.{list_any}
use Rattle.std.specs.Option.{option_map, option_map_or}
use Rattle.std.specs.Str.{bytes_eq}
use Rattle.td_version.specs.Version.{Parts}
use Rattle.td_wbread.specs.declared.command.Package.{Package}
use Rattle.td_wbread.specs.declared.places.Places.{Places}
use Rattle.td_wbread.specs.Naming.{version_matches}

-- the places that are kept of a source
abbrev pub places_of : Places → List ℕ → List ℕ
places_of places source = option_map_or (λ list. list.items)
    (get_by_text places.by_source source) []

-- whatever is asked of packages: some place of a source has a package of which it holds if and only
-- if it holds of some package of the source
abbrev pub FindsPackages : List Package → Places → Type 0
FindsPackages packages places = (source : List ℕ) (test : Option Package → Bool) →
    list_any (λ place. test (slice_get packages place)) (places_of places source)
    ≡ list_any (λ p. bytes_eq (string_bytes p.source) source && test (Some p)) packages

-- that the places find the packages is so in one way at most
pub FindsPackages-prop : (packages : List Package) (places : Places)
    → IsProp (FindsPackages packages places)
FindsPackages-prop packages places = Π_prop λ source. Π_prop λ test. Bool-set _ _

-- there is a package, and its version matches
abbrev pub is_matching : Parts → ℕ → Option Package → Bool
is_matching version number found = option_map_or
    (λ p. version_matches version number (option_map string_bytes p.version)) found false

-- there is a package, and it has no version
abbrev pub is_without_version : Option Package → Bool
is_without_version found = option_map_or
    (λ p. is_none (option_map string_bytes p.version)) found false
