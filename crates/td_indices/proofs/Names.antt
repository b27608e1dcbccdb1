-- The names that a package offers.
use Rattle.std.proofs.Common.{◌≡◌, ℕ, List, [], ◌∷◌, ◌++◌, Option, Some, None, map, refl, sym, ap}
use Rattle.std.proofs.Common.{◌∙◌, inl, inr}
use Rattle.std.specs.List.{flat_map}
use Rattle.std.proofs.lemmas.Bool.{cases_Bool}
use Rattle.std.proofs.lemmas.List.{map-append}
use Rattle.std.proofs.lemmas.List.Concat.{flat_map-cons}
use Rattle.td_relation.specs.Asked.{Asked, Bound}
use Rattle.td_supply.specs.Supplied.{Supplied}
use Rattle.td_indices.specs.Supplying.{is_equal, provided, provided_at}
use Rattle.td_indices.specs.OfferedNames.{NamesAreThoseOfOffers, provided_names}

abbrev names : List Supplied → List (List ℕ)
names offers = map (λ o. o.name) offers

at_home : (home : Option ℕ) (n : List ℕ) (r : Option Bound)
    → names (provided_at home n r) ≡ names (provided_at None n r)
at_home home n None = refl
at_home home n (Some r) =
    elim (cases_Bool (is_equal r.operator)) [
      | inl is ↦ rw is refl
      | inr other ↦ rw other refl
    ]

anywhere : (home : Option ℕ) (m : List Asked) → names (provided home m) ≡ provided_names m
anywhere home [] = refl
anywhere home (x ∷ []) = at_home home x.name x.restriction
anywhere home (x ∷ y ∷ more) = refl

all_names : (home : Option ℕ) (ms : List (List Asked))
    → names (flat_map (provided home) ms) ≡ flat_map provided_names ms
all_names home [] = refl
all_names home (m ∷ ms) =
    ap names (flat_map-cons (provided home) m ms)
    ∙ map-append (λ (o : Supplied). o.name) (provided home m) (flat_map (provided home) ms)
    ∙ ap (λ (l : List (List ℕ)). l ++ names (flat_map (provided home) ms)) (anywhere home m)
    ∙ ap (λ (l : List (List ℕ)). provided_names m ++ l) (all_names home ms)
    ∙ sym (flat_map-cons provided_names m ms)

pub names_are : NamesAreThoseOfOffers
names_are sources b = ap (λ (l : List (List ℕ)). b.head.name ∷ l) (all_names b.head.home b.provides)
