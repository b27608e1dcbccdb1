-- Items with a text between two, one item more.
use Rattle.std.proofs.Common.{◌≡◌, ◌<◌, ◌++◌, ◌∷◌, ℕ, List, [], ◌∙◌, ap, sym, length}
use Rattle.std.proofs.Common.{append_assoc, arith}
use Rattle.std.specs.List.{flat_map, join_by}
use Rattle.std.proofs.lemmas.Grind.{flat_map-append}
use Rattle.std.proofs.lemmas.List.{append-nil}

-- one item more after the first ones
pub join-push : {X : Type 0} (f : X → List ℕ) (sep : List ℕ) (x : X) (xs : List X) (y : X)
    → join_by f sep (x ∷ (xs ++ y ∷ [])) ≡ join_by f sep (x ∷ xs) ++ (sep ++ f y)
join-push f sep x xs y =
    ap (λ t. f x ++ t) (flat_map-append (λ z. sep ++ f z) xs (y ∷ [])
    ∙ ap (λ t. flat_map (λ z. sep ++ f z) xs ++ t) (append-nil (sep ++ f y)))
    ∙ sym (append_assoc (f x) (flat_map (λ z. sep ++ f z) xs) (sep ++ f y))

-- the first item
pub join-first : {X : Type 0} (f : X → List ℕ) (sep : List ℕ) (y : X)
    → join_by f sep (y ∷ []) ≡ f y
join-first f sep y = append-nil (f y)

-- one item more, which isn't the first
pub join-more : {X : Type 0} (f : X → List ℕ) (sep : List ℕ) (xs : List X) (y : X)
    → 0 < length xs → join_by f sep (xs ++ y ∷ []) ≡ join_by f sep xs ++ (sep ++ f y)
join-more f sep [] y some = absurd (omega arith)
join-more f sep (x ∷ xs) y some = join-push f sep x xs y
