-- Digits: those of a number within a limit; and runs of any length, which are compared as numbers
-- by length and then byte by byte.
use Rattle.std.proofs.lemmas.Grind.{common_steps}
use Rattle.std.proofs.Common.{◌≡◌, ◌≢◌, take, drop, get_or, ℕ, ◌+◌, ◌-◌, ◌*◌, ◌<◌, ◌≤◌, List, []}
use Rattle.std.proofs.Common.{◌∷◌, length, refl, sym, ap, ◌∙◌, arith, true, false, inl, inr}
use Rattle.std.proofs.Common.{◌^◌, ◌&&◌, Bool, Ok, Err, leb, ltb}
use Rattle.std.specs.Cmp.Lexicographic.{slice_cmp}
use Rattle.std.specs.Ordering.{nat_cmp, ordering_then}
use Rattle.std.specs.declared.cmp.Ordering.{Ordering}
use Rattle.std.specs.declared.cmp.Ordering.TheVariants.{Less, Equal, Greater}
use Rattle.std.specs.Str.{all_ascii_digits}
use Rattle.std.specs.Char.{digit_value}
use Rattle.std.specs.Str.Parse.{digits_value, digits_value_after, AllDigits, ParsesUnsigned}
use Rattle.std.proofs.lemmas.Bool.Decides.{eqb_tells}
use Rattle.std.proofs.lemmas.Bool.{and_parts, cases_Bool, cases_order, lt-ltb, le-ltb, leb-true}
use Rattle.std.proofs.lemmas.Bool.{ltb-true, ne_eqb, eq-eqb}
use Rattle.std.proofs.lemmas.Cmp.{tied_itself, nat_cmp_total}
use Rattle.std.proofs.lemmas.Str.{digit_value_digit}
use Rattle.std.proofs.lemmas.Str.Parse.{parse_plain, tells_all_ascii_digits}
use Rattle.td_text.proofs.Numbers.{decimal_model}
use Rattle.td_version.specs.Comparing.{without_zeros}

-- ---- digits alone, within a limit

-- whether a text is digits alone, and their number is within the limit
abbrev pub is_within : ℕ → List ℕ → Bool
is_within limit t =
    ltb 0 (length t) && (all_ascii_digits t && leb (digits_value 10 t) limit)

-- where a text is read as a number and has no sign in front, that number decides
pub is_within-parsed : (limit : ℕ) (t : List ℕ) (n : ℕ) → ParsesUnsigned {E = ℕ} 32 10 t (Ok n)
    → get_or t 0 0 ≢ 43 → (is_within limit t ≡ leb n limit) × (digits_value 10 t ≡ n)
is_within-parsed limit t n h sign_free =
    let p = parse_plain decimal_model {E = ℕ} 32 t (Ok n) h sign_free in
    (rw (lt-ltb 0 (length t) p.0.1, p.0.0, p.1) refl, sym p.1)

-- where it isn't, it is no such text
pub is_within-unparsed : (limit : ℕ) (t : List ℕ) → limit < 2 ^ 32
    → ParsesUnsigned {E = ℕ} 32 10 t (Err 0) → get_or t 0 0 ≢ 43 → is_within limit t ≡ false
is_within-unparsed limit t small h sign_free =
    let p = parse_plain decimal_model {E = ℕ} 32 t (Err 0) h sign_free in
    elim (cases_Bool (is_within limit t)) [
      | inl met ↦
          let a = and_parts (ltb 0 (length t)) _ met in
          let b = and_parts (all_ascii_digits t) (leb (digits_value 10 t) limit) a.1 in
          let le = leb-true (digits_value 10 t) limit b.1 in
          absurd (p (b.0, ltb-true 0 (length t) a.0, omega (arith, le, small)))
      | inr unmet ↦ unmet
    ]

-- ---- digit runs of any length

pub nat_cmp_less : (m n : ℕ) → m < n → nat_cmp m n ≡ Less
nat_cmp_less m n lt = rw (lt-ltb m n lt) refl

pub nat_cmp_greater : (m n : ℕ) → n < m → nat_cmp m n ≡ Greater
nat_cmp_greater m n gt = rw (le-ltb m n (omega arith), ne_eqb m n (λ e. omega arith)) refl

-- zeros in front don't count
pub value-without_zeros : (a : List ℕ) → digits_value 10 (without_zeros a) ≡ digits_value 10 a
unfolding without_zeros
value-without_zeros [] = refl
value-without_zeros (b ∷ a) =
    elim (eqb_tells b 48) [
      | inl is ↦
          rw is.0 (value-without_zeros a ∙ ap (λ (d : ℕ). digits_value 10 (d ∷ a)) (sym is.1))
      | inr other ↦ rw other.0 refl
    ]

pub digits-without_zeros : (a : List ℕ) → all_ascii_digits a ≡ true
    → all_ascii_digits (without_zeros a) ≡ true
unfolding without_zeros
digits-without_zeros [] h = refl
digits-without_zeros (b ∷ a) h =
    elim (eqb_tells b 48) [
      | inl is ↦ rw is.0 (digits-without_zeros a (tells_all_ascii_digits.parts b a h).1)
      | inr other ↦ rw other.0 h
    ]

-- a smaller front stays smaller over as many digits
less : (a b : List ℕ) (n m : ℕ) → n < m → length a ≡ length b → AllDigits 10 a
    → digits_value_after 10 n a < digits_value_after 10 m b
less [] [] n m lt len h = lt
less [] (y ∷ b) n m lt len h = absurd (omega arith)
less (x ∷ a) [] n m lt len h = absurd (omega arith)
less (x ∷ a) (y ∷ b) n m lt len h =
    less a b (n * 10 + digit_value x) (m * 10 + digit_value y) (let small = h.0 in omega arith)
    (omega arith) h.1

-- no digits are as great as a front above 0 over as many digits or more
fewer : (a b : List ℕ) (m : ℕ) → 0 < m → length a ≤ length b → AllDigits 10 a
    → digits_value_after 10 0 a < digits_value_after 10 m b
fewer a [] m some le h = less a [] 0 m some (omega arith) h
fewer a (y ∷ b) m some le h =
    elim (cases_order (length a) (length (y ∷ b))) [
      | inl same ↦ less a (y ∷ b) 0 m some same h
      | inr (inl lt) ↦ fewer a b (m * 10 + digit_value y) (omega arith) (omega arith) h
      | inr (inr gt) ↦ absurd (omega arith)
    ]

-- without zeros in front, the shorter is the smaller
shorter : (a b : List ℕ) → all_ascii_digits a ≡ true → all_ascii_digits b ≡ true
    → length a < length (without_zeros b) → digits_value 10 a < digits_value 10 b
unfolding without_zeros
shorter a [] h k lt = absurd (omega arith)
shorter a (y ∷ b) h k lt =
    let q = tells_all_ascii_digits.parts y b k in
    elim (eqb_tells y 48) [
      | inl is ↦
          let e : digits_value 10 (48 ∷ b) ≡ digits_value 10 (y ∷ b) =
          ap (λ (d : ℕ). digits_value 10 (d ∷ b)) (sym is.1) in
          let lt' = rw is.0 at lt in
          let l : digits_value 10 a < digits_value 10 b = shorter a b h q.1 lt' in
          omega (arith, l, e)
      | inr other ↦
          let lt' = rw other.0 at lt in
          let dy = digit_value_digit y q.0 in
          let ne = other.1 in
          fewer a b (0 * 10 + digit_value y) (omega arith) (omega arith) (decimal_model.to a h)
    ]

-- as many digits: byte by byte
alike : (a b : List ℕ) (n : ℕ) → length a ≡ length b → all_ascii_digits a ≡ true
    → all_ascii_digits b ≡ true
    → slice_cmp nat_cmp a b ≡ nat_cmp (digits_value_after 10 n a) (digits_value_after 10 n b)
alike [] [] n len h k = sym (tied_itself nat_cmp_total n)
alike [] (y ∷ b) n len h k = absurd (omega arith)
alike (x ∷ a) [] n len h k = absurd (omega arith)
alike (x ∷ a) (y ∷ b) n len h k =
    let p = tells_all_ascii_digits.parts x a h in
    let q = tells_all_ascii_digits.parts y b k in
    let dx = digit_value_digit x p.0 in
    let dy = digit_value_digit y q.0 in
    let same : length a ≡ length b = omega arith in
    elim (cases_order x y) [
      | inl is ↦
          rw (is, tied_itself nat_cmp_total y) (alike a b (n * 10 + digit_value y) same p.1 q.1)
      | inr (inl lt) ↦
          let l = less a b (n * 10 + digit_value x) (n * 10 + digit_value y) (omega arith) same
          (decimal_model.to a p.1) in
          rw (nat_cmp_less x y lt) (sym (nat_cmp_less _ _ l))
      | inr (inr gt) ↦
          let l = less b a (n * 10 + digit_value y) (n * 10 + digit_value x) (omega arith)
          (sym same) (decimal_model.to b q.1) in
          rw (nat_cmp_greater x y gt) (sym (nat_cmp_greater _ _ l))
    ]

-- what the length and then the bytes say is what the numbers say
pub compared : (a b : List ℕ) → all_ascii_digits a ≡ true → all_ascii_digits b ≡ true
    → ordering_then (nat_cmp (length (without_zeros a)) (length (without_zeros b)))
    (slice_cmp nat_cmp (without_zeros a) (without_zeros b))
    ≡ nat_cmp (digits_value 10 a) (digits_value 10 b)
compared a b h k =
    let p = digits-without_zeros a h in
    let q = digits-without_zeros b k in
    let x = value-without_zeros a in
    let y = value-without_zeros b in
    elim (cases_order (length (without_zeros a)) (length (without_zeros b))) [
      | inl same ↦
          rw (
            same,
            tied_itself nat_cmp_total (length (without_zeros b)),
            alike (without_zeros a) (without_zeros b) 0 same p q,
            x,
            y,
          ) refl
      | inr (inl lt) ↦
          let l : digits_value 10 (without_zeros a) < digits_value 10 b =
          shorter (without_zeros a) b p k lt in
          rw (nat_cmp_less _ _ lt)
          (sym (nat_cmp_less (digits_value 10 a) (digits_value 10 b) (omega arith)))
      | inr (inr gt) ↦
          let l : digits_value 10 (without_zeros b) < digits_value 10 a =
          shorter (without_zeros b) a q h gt in
          rw (nat_cmp_greater _ _ gt)
          (sym (nat_cmp_greater (digits_value 10 a) (digits_value 10 b) (omega arith)))
    ]

-- ---- the loop over zeros

pub without_zeros-zero : (t : List ℕ) → 0 < length t → get_or t 0 0 ≡ 48
    → without_zeros t ≡ without_zeros (drop 1 t)
unfolding without_zeros
without_zeros-zero [] some first = absurd (omega arith)
without_zeros-zero (b ∷ t) some first = rw (eq-eqb b 48 first) refl

pub without_zeros-other : (t : List ℕ) → get_or t 0 0 ≢ 48 → without_zeros t ≡ t
unfolding without_zeros
without_zeros-other [] other = refl
without_zeros-other (b ∷ t) other = rw (ne_eqb b 48 other) refl

pub without_zeros-none : (t : List ℕ) → length t < 1 → without_zeros t ≡ t
unfolding without_zeros
without_zeros-none [] none = refl
without_zeros-none (b ∷ t) none = absurd (omega arith)

-- the rest of a slice
pub rest-at_one : (t : List ℕ) → take (length t - 1) (drop 1 t) ≡ drop 1 t
rest-at_one t = grind (arith, common_steps)

-- ---- the two ways in which two runs are compared

pub by_length : (a b : List ℕ) → all_ascii_digits a ≡ true → all_ascii_digits b ≡ true
    → nat_cmp (length (without_zeros a)) (length (without_zeros b)) ≢ Equal → nat_cmp (length
    (without_zeros a)) (length (without_zeros b)) ≡ nat_cmp (digits_value 10 a) (digits_value 10 b)
by_length a b h k differ =
    sym (first (nat_cmp (length (without_zeros a)) (length (without_zeros b)))
    (slice_cmp nat_cmp (without_zeros a) (without_zeros b)) differ) ∙ compared a b h k
  where
    first : (o p : Ordering) → o ≢ Equal → ordering_then o p ≡ o
    first Less p h = refl
    first Equal p h = absurd (h refl)
    first Greater p h = refl

pub by_bytes : (a b : List ℕ) → all_ascii_digits a ≡ true → all_ascii_digits b ≡ true
    → nat_cmp (length (without_zeros a)) (length (without_zeros b)) ≡ Equal → slice_cmp nat_cmp
    (without_zeros a) (without_zeros b) ≡ nat_cmp (digits_value 10 a) (digits_value 10 b)
by_bytes a b h k same = rw same at (compared a b h k)
