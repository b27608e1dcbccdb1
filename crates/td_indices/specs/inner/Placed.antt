-- The packages that stand at places of the parts in which they were read. This project's own.
use Rattle.std.specs.Prelude.{◌≡◌, List, [], ◌∷◌, Option, Some, option_map, option_and_then}
use Rattle.std.specs.Prelude.{slice_get}
use Rattle.std.specs.Global.{Vec}
use Rattle.td_indices.specs.declared.packaged.PackageKey.{PackageKey}
use Rattle.td_indices.specs.declared.packaged.Packaged.{Packaged}
use Rattle.td_indices.specs.declared.placing.Place.{Place}
use Rattle.td_indices.specs.Counting.{consed}

-- the package at a place of the parts, if there is one
abbrev pub packaged_in : List (Vec (PackageKey × Packaged)) → Place → Option Packaged
packaged_in parts place =
    option_and_then (λ packages. option_map (λ p. p.1) (slice_get packages.items place.at))
    (slice_get parts place.part)

-- the keys of a map, each with the package at its place
abbrev pub placed : List (Vec (PackageKey × Packaged)) → List (PackageKey × Place)
    → List (PackageKey × Packaged)
placed parts [] = []
placed parts (e ∷ es) =
    consed (option_map (λ packaged. (e.0, packaged)) (packaged_in parts e.1)) (placed parts es)

-- at each place there is one
abbrev pub ArePlaced : List (Vec (PackageKey × Packaged)) → List (PackageKey × Place) → Type 0
ArePlaced parts [] = Unit {0}
ArePlaced parts (e ∷ es) =
    ((packaged : Packaged) × (packaged_in parts e.1 ≡ Some packaged)) × ArePlaced parts es
