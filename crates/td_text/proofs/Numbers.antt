-- A number without leading zeros is read exactly.
use Rattle.std.proofs.Common.{◌≡◌, ◌≢◌, ℕ, suc, zero, ◌<◌, ◌≤◌, ◌^◌, ◌&&◌, not, true, false, cond}
use Rattle.std.proofs.Common.{eqb, ltb, leb, List, [], ◌∷◌, length, get_or, Some, None, Ok, Err}
use Rattle.std.proofs.Common.{refl, sym, subst, arith, inl, inr, lit<}
use Rattle.std.specs.Fmt.{decimal}
use Rattle.std.specs.Str.{all_ascii_digits}
use Rattle.std.specs.Str.Parse.{digits_value, ParsesUnsigned}
use Rattle.std.proofs.lemmas.Bool.{eqb-false, eq-eqb, ne_eqb, and_parts, and_from, and_right}
use Rattle.std.proofs.lemmas.Bool.{cases_lt, cases_Bool, ltb-true, lt-ltb, le-leb, leb-true}
use Rattle.std.proofs.lemmas.Str.Parse.{IsNumeralModel, numerals_by_value, tells_all_ascii_digits}
use Rattle.std.proofs.lemmas.Str.Parse.{parse_plain}
use Rattle.std.proofs.lemmas.Fmt.{decimal-digits_value, digits_decimal, digits_value-decimal}
use Rattle.std.proofs.lemmas.Fmt.{decimal_nonempty, first_decimal, decimal_digit}
use Rattle.td_text.specs.Exact.{Exact}
use Rattle.td_text.specs.Numbers.{has_spare_front, is_numeral, number_at}
use Rattle.td_text.specs.Cut.{Without}
use Rattle.td_text.proofs.Chain.{when_some, not-true, or-false}

pub decimal_model : IsNumeralModel (λ ds. all_ascii_digits ds ≡ true) (digits_value 10)
decimal_model = numerals_by_value (λ ds. all_ascii_digits ds ≡ true) tells_all_ascii_digits

zero_alone : (t : List ℕ) → has_spare_front t ≡ false → 0 < length t → get_or t 0 0 ≡ 48
    → length t ≡ 1
zero_alone t front some first =
    let parts =
    or-false (eqb (get_or t 0 0) 43) (eqb (get_or t 0 0) 48 && ltb 1 (length t)) front in
    elim (cases_lt 1 (length t)) [
      | inl lt ↦
          absurd (let both =
          and_from _ _ (eq-eqb (get_or t 0 0) 48 first) (lt-ltb 1 (length t) lt) in cc)
      | inr le ↦ omega arith
    ]

found : (max : ℕ) → max < 2 ^ 64 → (t : List ℕ) (v : ℕ) → number_at max t ≡ Some v
    → (t ≡ decimal v) × (v ≤ max)
unfolding number_at
found max small t v e =
    let w = when_some (is_numeral t && leb (digits_value 10 t) max) (digits_value 10 t) v e in
    let a = and_parts (is_numeral t) (leb (digits_value 10 t) max) w.0 in
    let b = and_parts (ltb 0 (length t)) (not (has_spare_front t) && all_ascii_digits t) a.0 in
    let d = and_parts (not (has_spare_front t)) (all_ascii_digits t) b.1 in
    let some = ltb-true 0 (length t) b.0 in
    let le = leb-true (digits_value 10 t) max a.1 in
    let is =
    decimal-digits_value decimal_model t d.1 some (zero_alone t (not-true _ d.0) some)
    (omega arith) in
    subst (λ (n : ℕ). (t ≡ decimal n) × (n ≤ max)) w.1 (sym is, le)

plain : (n : ℕ) → n < 2 ^ 64 → has_spare_front (decimal n) ≡ false
plain zero small = rw (decimal_digit 0 (lit< tt)) refl
plain (suc n) small =
    let first = first_decimal (suc n) (omega arith) small in
    rw (
      ne_eqb (get_or (decimal (suc n)) 0 0) 43 (λ e. omega arith),
      ne_eqb (get_or (decimal (suc n)) 0 0) 48 (λ e. omega arith),
    ) refl

again : (max : ℕ) → max < 2 ^ 64 → (n : ℕ) → n ≤ max → number_at max (decimal n) ≡ Some n
unfolding number_at
again max small n le =
    let lt : n < 2 ^ 64 = omega arith in
    rw (
      lt-ltb _ _ (decimal_nonempty n lt),
      plain n lt,
      digits_decimal decimal_model n lt,
      digits_value-decimal decimal_model n lt,
      le-leb n max le,
    ) refl

pub number_exact : (max : ℕ) → max < 2 ^ 64 → Exact (number_at max) decimal (λ n. n ≤ max)
number_exact max small = record { found = found max small; again = again max small }

pub spare_front : (max : ℕ) (t : List ℕ) → has_spare_front t ≡ true → number_at max t ≡ None
unfolding number_at
spare_front max t front = rw (front, and_right (ltb 0 (length t)) false refl) refl

sign_free : (t : List ℕ) → has_spare_front t ≡ false → get_or t 0 0 ≢ 43
sign_free t front is =
    let parts = or-false (eqb (get_or t 0 0) 43) (eqb (get_or t 0 0) 48 && ltb 1 (length t))
    front in eqb-false _ _ parts.0 is

-- what `parse` gives where no spare sign or zero stands in front
pub parsed : (max : ℕ) (t : List ℕ) (n : ℕ) → ParsesUnsigned {E = ℕ} 64 10 t (Ok n)
    → has_spare_front t ≡ false → number_at max t ≡ cond (leb n max) (Some n) None
unfolding number_at
parsed max t n h front =
    let p = parse_plain decimal_model {E = ℕ} 64 t (Ok n) h (sign_free t front) in
    rw (lt-ltb 0 (length t) p.0.1, front, p.0.0, p.1) refl

pub not_parsed : (max : ℕ) (t : List ℕ) → max < 2 ^ 64 → ParsesUnsigned {E = ℕ} 64 10 t (Err 0)
    → has_spare_front t ≡ false → number_at max t ≡ None
unfolding number_at
not_parsed max t small h front =
    let p = parse_plain decimal_model {E = ℕ} 64 t (Err 0) h (sign_free t front) in
    elim (cases_Bool (is_numeral t && leb (digits_value 10 t) max)) [
      | inl met ↦
          let a = and_parts (is_numeral t) (leb (digits_value 10 t) max) met in
          let b =
          and_parts (ltb 0 (length t)) (not (has_spare_front t) && all_ascii_digits t) a.0 in
          let d = and_parts (not (has_spare_front t)) (all_ascii_digits t) b.1 in
          let le = leb-true (digits_value 10 t) max a.1 in
          absurd (p (d.1, ltb-true 0 (length t) b.0, omega arith))
      | inr unmet ↦ rw unmet refl
    ]

-- ---- the digits of a number

Without-digits : (c : ℕ) (t : List ℕ) → c < 48 → all_ascii_digits t ≡ true → Without c t
Without-digits c [] low h = tt
Without-digits c (x ∷ t) low h =
    let p = tells_all_ascii_digits.parts x t h in
    (λ e. (let lower = p.0.0 in let upper = p.0.1 in omega arith), Without-digits c t low p.1)

-- signs, spaces, periods and slashes have codes below those of digits
pub Without-decimal : (c n : ℕ) → c < 48 → n < 2 ^ 64 → Without c (decimal n)
Without-decimal c n low small =
    Without-digits c (decimal n) low (digits_decimal decimal_model n small)
