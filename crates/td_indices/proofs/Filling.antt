-- A supply that is filled offer by offer.
use Rattle.std.proofs.Common.{◌≡◌, ℕ, zero, suc, ◌+◌, true, false, List, [], ◌∷◌, ◌++◌, Some, None}
use Rattle.std.proofs.Common.{map, option_map, drop, take, slice_get, refl, sym, ap, ◌∙◌, inl, inr}
use Rattle.std.proofs.Common.{append_assoc}
use Rattle.std.specs.List.{find, flat_map}
use Rattle.std.specs.Str.{bytes_eq}
use Rattle.std.proofs.lemmas.Bool.{cases_Bool}
use Rattle.std.proofs.lemmas.List.{map-append}
use Rattle.std.proofs.lemmas.Slice.Eq.{bytes_eq-Decides}
use Rattle.td_rows.proofs.Lists.{drop-next, take-next}
use Rattle.td_supply.specs.Supplied.{Item, Supplied, fresh}
use Rattle.td_supply.specs.Supply.{SupplyView, version_of}
use Rattle.td_indices.specs.Counting.{Apart}
use Rattle.td_indices.specs.Sources.{KeptSource, same_source}
use Rattle.td_indices.specs.Supplying.{listed, with_offers, with_sources}
use Rattle.td_indices.proofs.LegalNames.{all_at}

-- some, and then others
pub offers_joined : (s : SupplyView) (xs ys : List Supplied)
    → with_offers (with_offers s xs) ys ≡ with_offers s (xs ++ ys)
offers_joined s xs ys =
    let items : (s.items ++ map fresh xs) ++ map fresh ys ≡ s.items ++ map fresh (xs ++ ys) =
    append_assoc s.items (map fresh xs) (map fresh ys)
    ∙ ap (λ (l : List Item). s.items ++ l) (sym (map-append fresh xs ys)) in
    λ i. record { table = s.table; sources = s.sources; items = items i }

pub sources_joined : (s : SupplyView) (x : KeptSource) (ys : List KeptSource)
    → with_sources (with_sources s (x ∷ [])) ys ≡ with_sources s (x ∷ ys)
sources_joined s x ys =
    λ i. record {
      table = s.table;
      sources = append_assoc s.sources (listed x ∷ []) (map listed ys) i;
      items = s.items;
    }

-- what is left decides: one item, and those behind it
pub offered_next : {A : Type 0} (f : A → List Supplied) (old new total : SupplyView) (x : A)
    (xs left : List A) → left ≡ x ∷ xs → new ≡ with_offers old (f x)
    → with_offers old (flat_map f left) ≡ total → with_offers new (flat_map f xs) ≡ total
offered_next f old new total x xs left is more h =
    ap (λ (s : SupplyView). with_offers s (flat_map f xs)) more
    ∙ offers_joined old (f x) (flat_map f xs)
    ∙ sym (ap (λ (l : List _). with_offers old (flat_map f l)) is)
    ∙ h

-- the source with a number has the name of none before it
apart_before : (ss : List KeptSource) (n : ℕ) (s : KeptSource) → Apart same_source ss
    → slice_get ss n ≡ Some s
    → find (λ (p : List ℕ × List ℕ). bytes_eq s.head.name p.0) (map listed (take n ss)) ≡ None
apart_before [] n s apart at = absurd (let bad : None ≡ Some s = at in cc)
apart_before (t ∷ ss) zero s apart at = refl
apart_before (t ∷ ss) (suc n) s apart at =
    elim (cases_Bool (bytes_eq s.head.name t.head.name)) [
      | inl bad ↦
          let back : bytes_eq t.head.name s.head.name ≡ true =
          (bytes_eq-Decides t.head.name s.head.name).1
          (sym ((bytes_eq-Decides s.head.name t.head.name).0 bad)) in
          absurd (let e : true ≡ false =
          sym back ∙ all_at (λ (y : KeptSource). same_source t y ≡ false) ss n s apart.0 at in cc)
      | inr other ↦ rw other (apart_before ss n s apart.1 at)
    ]

pub not_there : (v : SupplyView) (ss : List KeptSource) (n : ℕ) (s : KeptSource)
    → Apart same_source ss → slice_get ss n ≡ Some s → v.sources ≡ map listed (take n ss)
    → version_of v s.head.name ≡ None
not_there v ss n s apart at is =
    ap (λ (l : List (List ℕ × List ℕ)).
    option_map (λ (p : List ℕ × List ℕ). p.1)
    (find (λ (p : List ℕ × List ℕ). bytes_eq s.head.name p.0) l)) is
    ∙ ap (option_map (λ (p : List ℕ × List ℕ). p.1)) (apart_before ss n s apart at)

-- the sources before one, and it
pub listed_next : (ss : List KeptSource) (n : ℕ) (s : KeptSource) (old new : SupplyView)
    → slice_get ss n ≡ Some s → new ≡ with_sources old (s ∷ [])
    → old.sources ≡ map listed (take n ss) → new.sources ≡ map listed (take (n + 1) ss)
listed_next ss n s old new at more is =
    ap (λ (v : SupplyView). v.sources) more
    ∙ ap (λ (l : List (List ℕ × List ℕ)). l ++ listed s ∷ []) is
    ∙ sym (map-append listed (take n ss) (s ∷ []))
    ∙ sym (ap (map listed) (take-next ss n s at))

pub listed_left : (ss : List KeptSource) (n : ℕ) (s : KeptSource) (old new total : SupplyView)
    → slice_get ss n ≡ Some s → new ≡ with_sources old (s ∷ [])
    → with_sources old (drop n ss) ≡ total → with_sources new (drop (n + 1) ss) ≡ total
listed_left ss n s old new total at more h =
    ap (λ (v : SupplyView). with_sources v (drop (n + 1) ss)) more
    ∙ sources_joined old s (drop (n + 1) ss)
    ∙ sym (ap (with_sources old) (drop-next ss n s at))
    ∙ h
