-- The version of a source in the map of sources.
use Rattle.std.proofs.Common.{◌≡◌, ℕ, List, [], ◌∷◌, Option, Some, None, option_map, refl}
use Rattle.std.proofs.Common.{◌∙◌, inl, inr}
use Rattle.std.specs.Prelude.{IfSome}
use Rattle.std.specs.Borrow.{Bor}
use Rattle.std.specs.List.{AllByRecursion, find}
use Rattle.std.specs.Map.{lookup}
use Rattle.std.specs.Str.{bytes_eq}
use Rattle.std.proofs.lemmas.Bool.{cases_Bool}
use Rattle.td_supply.specs.SupplyViews.{sources_of}

pub version_found : (name : List ℕ) (es : List (Bor (List ℕ) × Bor (List ℕ)))
    → option_map (λ (v : Bor (List ℕ)). v.now) (lookup (λ k. bytes_eq name k.now) es)
    ≡ option_map (λ (p : List ℕ × List ℕ). p.1)
    (find (λ (p : List ℕ × List ℕ). bytes_eq name p.0) (sources_of es))
version_found name [] = refl
version_found name (e ∷ es) =
    elim (cases_Bool (bytes_eq name e.0.now)) [
      | inl is ↦ rw is refl
      | inr other ↦ rw other (version_found name es)
    ]

none_of : {A B : Type 0} (f : A → B) (o : Option A) → option_map f o ≡ None → o ≡ None
none_of f None h = refl
none_of f (Some x) h = absurd (let bad : Some (f x) ≡ None = h in cc)

-- a name without a version isn't among the keys
pub no_version : (name : List ℕ) (es : List (Bor (List ℕ) × Bor (List ℕ)))
    → option_map (λ (p : List ℕ × List ℕ). p.1) (find (λ (p : List ℕ × List ℕ). bytes_eq name p.0)
    (sources_of es)) ≡ None → lookup (λ (k : Bor (List ℕ)). bytes_eq name k.now) es ≡ None
no_version name es gone =
    none_of (λ (v : Bor (List ℕ)). v.now) (lookup (λ (k : Bor (List ℕ)). bytes_eq name k.now) es)
    (version_found name es ∙ gone)

-- what holds of each version holds of the one that is found
pub version_has : (P : List ℕ → Type 0) (name : List ℕ) (es : List (Bor (List ℕ) × Bor (List ℕ)))
    → AllByRecursion (λ (p : List ℕ × List ℕ). P p.1) (sources_of es)
    → IfSome (lookup (λ (k : Bor (List ℕ)). bytes_eq name k.now) es) (λ v. P v.now)
version_has P name [] all = tt
version_has P name (e ∷ es) all =
    elim (cases_Bool (bytes_eq name e.0.now)) [
      | inl is ↦ rw is all.0
      | inr other ↦ rw other (version_has P name es all.1)
    ]
