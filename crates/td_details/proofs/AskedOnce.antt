-- Items of which each is kept once, item by item.
use Rattle.std.proofs.Common.{◌≡◌, ◌<◌, ◌+◌, ◌∷◌, [], ℕ, Bool, List, ap, get_or, length}
use Rattle.std.proofs.Common.{map, sym, take, ◌∙◌}
use Rattle.std.proofs.lemmas.List.{map-append, take_more}
use Rattle.std.proofs.lemmas.List.Sums.{fold-append}
use Rattle.td_details.specs.Asked.{firsts, with_new}

-- those that were kept so far and the next, if it is new, are those that are kept of one item more
pub firsts_more : {A B : Type 0} (alike : B → B → Bool) (view : A → B) (xs : List A) (i : ℕ)
    (d : A) → i < length xs → (old new : List B) → old ≡ firsts alike (map view (take i xs))
    → new ≡ with_new alike old (view (get_or xs i d))
    → new ≡ firsts alike (map view (take (i + 1) xs))
firsts_more alike view xs i d within old new so added =
    added ∙ ap (λ l. with_new alike l (view (get_or xs i d))) so
    ∙ sym (ap (λ l. firsts alike (map view l)) (take_more xs i d within)
    ∙ ap (firsts alike) (map-append view (take i xs) (get_or xs i d ∷ []))
    ∙ fold-append (with_new alike) [] (map view (take i xs)) (view (get_or xs i d) ∷ []))
