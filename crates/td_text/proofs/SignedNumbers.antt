-- A signed number is read exactly.
use Rattle.std.proofs.Common.{◌≡◌, ◌≢◌, ℕ, suc, zero, ◌<◌, ◌≤◌, ◌^◌, cond, eqb, List, ◌∷◌, Option}
use Rattle.std.proofs.Common.{Some, None, refl, sym, ap, subst, ◌∙◌, arith, lit<}
use Rattle.std.specs.Prelude.{codes, ℤ, pos, negsuc}
use Rattle.std.specs.Fmt.{decimal, signed_decimal}
use lib.IntN.{neg_ℤ}
use Rattle.std.proofs.lemmas.Int.{ints}
use Rattle.std.proofs.lemmas.Bool.{ne_eqb}
use Rattle.td_text.specs.Cut.{Without, strip}
use Rattle.td_text.specs.Exact.{Exact}
use Rattle.td_text.specs.Numbers.{number_at, signed_after, signed_at, IsWithin}
use Rattle.td_text.proofs.Chain.{chained, some_is}
use Rattle.td_text.proofs.Prefix.{strip_again, strip_found, strip_none}
use Rattle.td_text.proofs.Numbers.{number_exact, Without-decimal}

no_minus : (n : ℕ) → n < 2 ^ 64 → strip (codes "-") (decimal n) ≡ None
no_minus n small =
    strip_none (codes "-") (decimal n)
    (λ r e. (let w : Without 45 (45 ∷ r) =
    subst (λ (t : List ℕ). Without 45 t) e (Without-decimal 45 n (lit< tt) small) in w.0 refl))

again : (max : ℕ) → max < 2 ^ 15 → (z : ℤ) → IsWithin max z
    → signed_at max (signed_decimal z) ≡ Some z
unfolding signed_at
again max small (pos n) h =
    rw (
      no_minus n (omega (arith, ints, h.1)),
      (number_exact max (omega arith)).again n (omega (arith, ints, h.1)),
    ) refl
again max small (negsuc n) h =
    rw (
      strip_again (codes "-") (decimal (suc n)),
      (number_exact max (omega arith)).again (suc n) (omega (arith, ints, h.0)),
      ne_eqb (suc n) 0 (λ e. omega arith),
    ) refl

minus_found : (max : ℕ) (t : List ℕ) (n : ℕ) (z : ℤ) → t ≡ 45 ∷ decimal n → n ≤ max
    → cond (eqb n 0) None (Some (neg_ℤ (pos n))) ≡ Some z → (t ≡ signed_decimal z) × IsWithin max z
minus_found max t zero z is le e = absurd cc
minus_found max t (suc n) z is le e =
    let q : Some (negsuc n) ≡ Some z = sym (rw (ne_eqb (suc n) 0 (λ y. omega arith)) refl) ∙ e in
    subst (λ (y : ℤ). (t ≡ signed_decimal y) × IsWithin max y) (some_is (negsuc n) z q)
    (is, (omega (arith, ints), omega (arith, ints)))

by_sign : (max : ℕ) → max < 2 ^ 15 → (t : List ℕ) (o : Option (List ℕ)) (z : ℤ)
    → strip (codes "-") t ≡ o → signed_after max t o ≡ Some z
    → (t ≡ signed_decimal z) × IsWithin max z
by_sign max small t None z is e =
    let a : (n : ℕ) × (number_at max t ≡ Some n) × (Some (pos n) ≡ Some z) = chained _ _ _ e in
    let n = (number_exact max (omega arith)).found t a.0 a.1 in
    subst (λ (y : ℤ). (t ≡ signed_decimal y) × IsWithin max y) (some_is (pos a.0) z a.2)
    (n.0, (omega (arith, ints), omega (arith, ints, n.1)))
by_sign max small t (Some digits) z is e =
    let a : (n : ℕ) × (number_at max digits ≡ Some n)
    × (cond (eqb n 0) None (Some (neg_ℤ (pos n))) ≡ Some z) = chained _ _ _ e in
    let n = (number_exact max (omega arith)).found digits a.0 a.1 in
    minus_found max t a.0 z (strip_found (codes "-") t digits is ∙ ap (λ (d : List ℕ). 45 ∷ d) n.0)
    n.1 a.2

found : (max : ℕ) → max < 2 ^ 15 → (t : List ℕ) (z : ℤ) → signed_at max t ≡ Some z
    → (t ≡ signed_decimal z) × IsWithin max z
unfolding signed_at
found max small t z e = by_sign max small t (strip (codes "-") t) z refl e

pub signed_exact : (max : ℕ) → max < 2 ^ 15 → Exact (signed_at max) signed_decimal (IsWithin max)
signed_exact max small = record { found = found max small; again = again max small }

-- spaces, periods and slashes aren't in a signed number
pub Without-signed_decimal : (c max : ℕ) (z : ℤ) → c < 48 → c ≢ 45 → max < 2 ^ 15 → IsWithin max z
    → Without c (signed_decimal z)
Without-signed_decimal c max (pos n) low other small h =
    Without-decimal c n low (omega (arith, ints, h.1))
Without-signed_decimal c max (negsuc n) low other small h =
    (λ e. other (sym e), Without-decimal c (suc n) low (omega (arith, ints, h.0)))
