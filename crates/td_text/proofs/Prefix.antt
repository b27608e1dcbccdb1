-- What follows a prefix.
use Rattle.std.proofs.Common.{◌≡◌, ◌≢◌, ℕ, ◌+◌, List, [], ◌∷◌, ◌++◌, length, drop, Option, Some}
use Rattle.std.proofs.Common.{None, option_map, refl, sym, ap, ◌∙◌, inl, inr}
use Rattle.std.specs.Prelude.{MatchOption, IfSome}
use Rattle.std.specs.Borrow.{Bor}
use Rattle.std.specs.Str.Pattern.{FindsTextPrefix}
use Rattle.std.proofs.lemmas.Bool.{eq-eqb}
use Rattle.std.proofs.lemmas.Bool.Decides.{eqb_tells}
use Rattle.td_text.specs.Cut.{strip}
use Rattle.td_text.proofs.Chain.{some_is}

pub strip_again : (p t : List ℕ) → strip p (p ++ t) ≡ Some t
unfolding strip
strip_again [] t = refl
strip_again (x ∷ p) t = rw (eq-eqb x x refl, strip_again p t) refl

pub strip_found : (p t r : List ℕ) → strip p t ≡ Some r → t ≡ p ++ r
unfolding strip
strip_found [] t r e = some_is t r e
strip_found (x ∷ p) [] r e = absurd cc
strip_found (x ∷ p) (y ∷ t) r e =
    elim (eqb_tells x y) [
      | inl is ↦
          let q : strip p t ≡ Some r = sym (rw is.0 refl) ∙ e in rw (is.1, strip_found p t r q) refl
      | inr other ↦ absurd (let q : None ≡ Some r = sym (rw other.0 refl) ∙ e in cc)
    ]

pub strip_none : (p t : List ℕ) → ((r : List ℕ) → t ≢ p ++ r) → strip p t ≡ None
strip_none p t h =
    elim (strip p t) as (λ o. strip p t ≡ o → o ≡ None) [
      | None ↦ λ e. refl
      | Some r ↦ λ e. absurd (h r (strip_found p t r e))
    ] refl

-- what `strip_prefix` gives
abbrev pub IsStripped : List ℕ → List ℕ → Option (Bor (List ℕ)) → Type 0
IsStripped p t r =
    MatchOption r (FindsTextPrefix p t None)
    (λ x.
    (n : ℕ) × FindsTextPrefix p t (Some n) × (x.now ≡ drop n t) × (length x.now + n ≡ length t))

pub strip-from_prefix : (p t : List ℕ) (r : Option (Bor (List ℕ))) → IsStripped p t r
    → option_map (λ x. x.now) r ≡ strip p t
strip-from_prefix p t None h = sym (strip_none p t (λ r e. h r e))
strip-from_prefix p t (Some x) h =
    sym (ap (strip p) h.1.1 ∙ strip_again p (drop h.0 t) ∙ ap (λ (l : List ℕ). Some l) (sym h.2))

pub prefix_found : (p t : List ℕ) (r : Option (Bor (List ℕ)))
    → option_map (λ x. x.now) r ≡ strip p t → IfSome r (λ x. t ≡ p ++ x.now)
prefix_found p t None h = tt
prefix_found p t (Some x) h = strip_found p t x.now (sym h)
