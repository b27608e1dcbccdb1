-- The items under a name, asked by their numbers.
use Rattle.std.proofs.Common.{◌≡◌, ℕ, ◌||◌, Bool, false, List, [], ◌∷◌, map, filter}
use Rattle.std.proofs.Common.{refl, ap, ◌∙◌, inl, inr}
use Rattle.std.specs.List.{list_any}
use Rattle.std.specs.Option.{option_map_or}
use Rattle.std.proofs.lemmas.Bool.{cases_Bool}
use Rattle.td_supply.specs.Asking.{passes_at}
use Rattle.td_supply.specs.Places.{places_from}
use Rattle.td_supply.proofs.Places.{any-filter, any-places}

-- some item that passes one test passes another
pub any-asked : {A : Type 0} (named test : A → Bool) (items : List A)
    → list_any (λ (k : ℕ). passes_at test items k) (places_from named 0 items)
    ≡ list_any test (filter named items)
any-asked named test items =
    any-places named (passes_at test items) test items items 0
    (λ k x at. ap (λ o. option_map_or test o false) at) refl ∙ any-filter named test items

-- the same of what is seen of the items
pub any-seen : {A B C : Type 0} (named : B → Bool) (test : C → Bool) (f : A → B) (g : B → C)
    (xs : List A) → list_any (λ x. test (g (f x))) (filter (λ x. named (f x)) xs)
    ≡ list_any test (map g (filter named (map f xs)))
any-seen named test f g [] = refl
any-seen named test f g (x ∷ xs) =
    let later = any-seen named test f g xs in
    elim (cases_Bool (named (f x))) [
      | inl is ↦ rw is (ap (λ (b : Bool). test (g (f x)) || b) later)
      | inr other ↦ rw other later
    ]
