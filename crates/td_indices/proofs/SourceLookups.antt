-- The source of a name in the map of sources.
use Rattle.std.proofs.Common.{◌≡◌, ℕ, Bool, List, [], ◌∷◌, Some, None, refl, sym, ◌∙◌, inl, inr}
use Rattle.std.specs.Borrow.{Bor}
use Rattle.std.specs.List.{find}
use Rattle.std.specs.Map.{lookup, lookup_key}
use Rattle.std.specs.Str.{bytes_eq}
use Rattle.std.proofs.lemmas.Bool.{cases_Bool}
use Rattle.std.proofs.lemmas.Slice.Eq.{bytes_eq-Decides}
use Rattle.td_text.proofs.Chain.{some_is}
use Rattle.td_indices.specs.declared.sourced.Sourced.{Sourced}
use Rattle.td_indices.specs.Sources.{KeptSource, source_of, sources_of}
use Rattle.td_version.specs.Version.{parts_of}

-- whether a key is the name
abbrev pub is_name_of : List ℕ → Bor (List ℕ) → Bool
is_name_of name k = bytes_eq name k.now

pub found_source : (name : List ℕ) (es : List (Bor (List ℕ) × Sourced)) (k : Bor (List ℕ))
    (v : Sourced) → lookup_key (is_name_of name) es ≡ Some k → lookup (is_name_of name) es ≡ Some v
    → find (λ (s : KeptSource). bytes_eq name s.head.name) (sources_of es) ≡ Some (source_of (k, v))
found_source name [] k v key value = absurd cc
found_source name (e ∷ es) k v key value =
    elim (cases_Bool (bytes_eq name e.0.now)) [
      | inl is ↦
          let a : e.0 ≡ k = some_is e.0 k (sym (rw is refl) ∙ key) in
          let b : e.1 ≡ v = some_is e.1 v (sym (rw is refl) ∙ value) in
          rw is (λ i. Some (source_of (a i, b i)))
      | inr other ↦
          rw other
          (found_source name es k v (sym (rw other refl) ∙ key) (sym (rw other refl) ∙ value))
    ]

-- the same of a name that stands in the map, by its value alone: equal names are one
pub own_source : (name : Bor (List ℕ)) (es : List (Bor (List ℕ) × Sourced)) (v : Sourced)
    → lookup (is_name_of name.now) es ≡ Some v
    → find (λ (s : KeptSource). bytes_eq name.now s.head.name) (sources_of es)
    ≡ Some (source_of (name, v))
own_source name [] v value = absurd cc
own_source name (e ∷ es) v value =
    elim (cases_Bool (bytes_eq name.now e.0.now)) [
      | inl is ↦
          let a : e.0.now ≡ name.now = sym ((bytes_eq-Decides name.now e.0.now).0 is) in
          let b : e.1 ≡ v = some_is e.1 v (sym (rw is refl) ∙ value) in
          rw is (λ i. Some (record {
            head = record {
              name = a i;
              version = (b i).version.now;
              parts = parts_of (b i).parts;
              archs = (b i).archs.now;
            };
            stanza = (b i).stanza;
          }))
      | inr other ↦ rw other (own_source name es v (sym (rw other refl) ∙ value))
    ]

pub no_source : (name : List ℕ) (es : List (Bor (List ℕ) × Sourced))
    → lookup (is_name_of name) es ≡ None
    → find (λ (s : KeptSource). bytes_eq name s.head.name) (sources_of es) ≡ None
no_source name [] gone = refl
no_source name (e ∷ es) gone =
    elim (cases_Bool (bytes_eq name e.0.now)) [
      | inl is ↦ absurd (let bad : Some e.1 ≡ None = sym (rw is refl) ∙ gone in cc)
      | inr other ↦ rw other (no_source name es (sym (rw other refl) ∙ gone))
    ]
