-- A map after one item more, by what its entries are kept as: what is put among them.
use Rattle.std.proofs.Common.{◌≡◌, Bool, true, false, not, List, [], ◌∷◌, Option, Some, None, map}
use Rattle.std.proofs.Common.{refl, sym, ap, ◌∙◌, inl, inr}
use Rattle.std.specs.Map.{lookup}
use Rattle.std.proofs.lemmas.Bool.{cases_Bool, not-false, not-true}
use Rattle.indexmap.specs.IndexMap.{insert_entry}
use Rattle.td_indices.specs.Kept.{put}

-- `item` is what an entry is kept as; two entries have one key where `same` says so of their keys,
-- and `alike` of what they are kept as; `stays` says whether an earlier one isn't lower
module _ {K V A : Type 0} (item : K × V → A) (same : K → K → Bool) (alike lower : A → A → Bool)
    (stays : Option V → V → Bool)
    (keys : (k : K) (v : V) (e : K × V) → alike (item (k, v)) (item e) ≡ same k e.0)
    (again : (k q : K) (v : V) → same k q ≡ true → item (q, v) ≡ item (k, v))
    (none : (v : V) → stays None v ≡ false)
    (some : (e : K × V) (k : K) (v : V)
    → stays (Some e.1) v ≡ not (lower (item e) (item (k, v)))) where
  -- an earlier one of its key isn't lower
  pub map_stays : (es : List (K × V)) (k : K) (v : V) → stays (lookup (same k) es) v ≡ true
      → map item es ≡ put alike lower (map item es) (item (k, v))
  map_stays [] k v h = absurd (let bad : true ≡ false = sym h ∙ none v in cc)
  map_stays (e ∷ es) k v h =
      elim (cases_Bool (same k e.0)) [
        | inl is ↦
            let higher : lower (item e) (item (k, v)) ≡ false =
            not-true _ (sym (some e k v) ∙ (sym (rw is refl) ∙ h)) in
            rw (keys k v e ∙ is, higher) refl
        | inr other ↦
            rw (keys k v e ∙ other) (ap (λ (l : List A). item e ∷ l)
            (map_stays es k v (sym (rw other refl) ∙ h)))
      ]

  -- none is, or it is lower
  pub map_enters : (es : List (K × V)) (k : K) (v : V) → stays (lookup (same k) es) v ≡ false
      → map item (insert_entry same es k v) ≡ put alike lower (map item es) (item (k, v))
  map_enters [] k v h = refl
  map_enters (e ∷ es) k v h =
      elim (cases_Bool (same k e.0)) [
        | inl is ↦
            let less : lower (item e) (item (k, v)) ≡ true =
            not-false _ (sym (some e k v) ∙ (sym (rw is refl) ∙ h)) in
            rw (is, keys k v e ∙ is, less) (ap (λ (x : A). x ∷ map item es) (again k e.0 v is))
        | inr other ↦
            rw (other, keys k v e ∙ other) (ap (λ (l : List A). item e ∷ l)
            (map_enters es k v (sym (rw other refl) ∙ h)))
      ]
