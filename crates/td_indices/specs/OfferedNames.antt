-- The names that a binary package offers: its own, and those that it provides (Debian Policy 7.5).
use Rattle.std.specs.Prelude.{◌≡◌, ℕ, List, [], ◌∷◌, ◌++◌, Option, Some, None, map, option_map}
use Rattle.std.specs.List.{flat_map}
use Rattle.td_relation.specs.Asked.{Asked}
use Rattle.td_relation.specs.MembersLeft.{members_left}
use Rattle.td_indices.specs.Kept.{KeptBinary}
use Rattle.td_indices.specs.Sources.{KeptSource}
use Rattle.td_indices.specs.Supplying.{offers_by, provided}
use Rattle.td_indices.specs.declared.offered_names.OfferedNames.{OfferedNames}

-- the names that a member of a Provides field offers, the same wherever the package is
abbrev pub provided_names : List Asked → List (List ℕ)
provided_names member = map (λ o. o.name) (provided None member)

-- a package's own name, and those that it provides
abbrev pub offered_names : KeptBinary → List (List ℕ)
offered_names b = b.head.name ∷ flat_map provided_names b.provides

-- the names that a package offers are those of what it puts on offer, whatever the sources
abbrev pub NamesAreThoseOfOffers : Type 0
NamesAreThoseOfOffers =
    (sources : List KeptSource) (b : KeptBinary)
    → map (λ o. o.name) (offers_by sources b) ≡ offered_names b

-- one name, or none
abbrev pub name_if : Option (List ℕ) → List (List ℕ)
name_if None = []
name_if (Some name) = name ∷ []

-- the names that are still to come, where they are gone through
abbrev pub names_left : OfferedNames → List (List ℕ)
names_left names =
    name_if (option_map (λ x. x.now) names.own)
    ++ flat_map provided_names (members_left names.provided)
