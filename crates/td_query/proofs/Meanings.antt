-- Queries in the words of logic.
use Rattle.std.proofs.Common.{◌≡◌, ◌⊎◌, ◌↔◌, ℕ, zero, suc, ◌+◌, ◌-◌, ◌<◌, ◌≤◌, ◌&&◌, ◌||◌, not}
use Rattle.std.proofs.Common.{Bool, true, false, List, [], ◌∷◌, Option, Some, None, length, get_or}
use Rattle.std.proofs.Common.{slice_get, refl, sym, ap, ◌∙◌, inl, inr, arith, eqb, leb, ltb}
use Rattle.std.proofs.Common.{◌++◌, take, drop}
use Rattle.std.specs.Prelude.{IsTrue, is_some, option_map, slice_range}
use Rattle.std.specs.List.{Contains, find}
use Rattle.std.specs.Option.{option_map_or}
use Rattle.std.specs.Str.{bytes_eq}
use Rattle.std.specs.Str.Iter.{HasSubslice}
use Rattle.std.proofs.lemmas.Bool.{false≢true, le-leb, leb-true, not-true, or_cases}
use Rattle.std.proofs.lemmas.Bool.Decides.{eqb_tells}
use Rattle.std.proofs.lemmas.List.Edits.{split_between}
use Rattle.std.proofs.lemmas.Slice.Eq.{bytes_eq-Decides}
use Rattle.regex.specs.Patterns.{Re, find_str}
use Rattle.td_text.specs.Words.{is_name_byte}
use Rattle.td_stanza.specs.Field.{Entry, is_same_name}
use Rattle.td_indices.specs.Fields.{value_of}
use Rattle.td_query.specs.QueryLaws.{ConstantsAreTheirNames, NegationsAreNot, ConjunctionsAreAnd}
use Rattle.td_query.specs.QueryLaws.{DisjunctionsAreOr, AbsentFieldsNeverMatch}
use Rattle.td_query.specs.QueryLaws.{TextsMatchWhereTheyStand, PatternsMatchWhereTheyAreFound}
use Rattle.td_query.specs.Standing.{StandsAt, any_below, is_free_before, is_free_from, stands_at}
use Rattle.td_query.specs.Standing.{stands_in}
use Rattle.td_query.specs.Truth.{is_found, truth}
use Rattle.td_query.proofs.Places.{found_at}

-- ---- 1. tests

pub not_is : (b : Bool) → IsTrue (not b) ↔ (¬ IsTrue b)
not_is true = (λ h p. false≢true h, λ n. absurd (n refl))
not_is false = (λ h p. false≢true p, λ n. refl)

pub and_is : (a b : Bool) → IsTrue (a && b) ↔ (IsTrue a × IsTrue b)
and_is true b = (λ h. (refl, h), λ p. p.1)
and_is false b = (λ h. absurd (false≢true h), λ p. p.0)

pub or_from : (a b : Bool) → IsTrue a ⊎ IsTrue b → IsTrue (a || b)
or_from true b p = refl
or_from false b (inl h) = absurd (false≢true h)
or_from false b (inr h) = h

-- ---- 2. as in logic

pub constants : ConstantsAreTheirNames
constants patterns fields = (refl, λ h. false≢true h)

pub negations : NegationsAreNot
negations patterns fields s = not_is (truth patterns fields s)

pub conjunctions : ConjunctionsAreAnd
conjunctions patterns fields s t = and_is (truth patterns fields s) (truth patterns fields t)

pub disjunctions : DisjunctionsAreOr
disjunctions patterns fields s t = (
  or_cases (truth patterns fields s) (truth patterns fields t),
  or_from (truth patterns fields s) (truth patterns fields t),
)

-- ---- 3. fields

at_value : (f : List ℕ → Bool) (o : Option (List ℕ))
    → IsTrue (option_map_or f o false) ↔ ((value : List ℕ) × (o ≡ Some value) × IsTrue (f value))
at_value f None = (λ h. absurd (false≢true h), λ p. absurd (let bad : None ≡ Some p.0 = p.1 in cc))
at_value f (Some v) = (
  λ h. (v, refl, h),
  λ p. (let found : Some v ≡ Some p.0 = p.1 in let same : v ≡ p.0 = cc in ap f same ∙ p.2),
)

absent : (name : List ℕ) (fields : List Entry) → ((f : Entry) → Contains fields f
    → is_same_name name f.name ≡ false) → find (λ f. is_same_name name f.name) fields ≡ None
absent name [] none = refl
absent name (f ∷ fields) none =
    rw (none f (0, omega arith, refl))
    (absent name fields (λ g has. none g (suc has.0, omega (arith, has.1), has.2)))

pub absent_fields : AbsentFieldsNeverMatch
absent_fields patterns fields name none =
    let nothing : value_of fields name ≡ None = ap (option_map (λ (f : Entry). f.value))
    (absent name fields none) in (
      λ t h. (let p = (at_value (λ value. stands_in t value) (value_of fields name)).0 h in
          let bad : None ≡ Some p.0 = sym nothing ∙ p.1 in absurd (cc)),
      λ number h.
          (let p = (at_value (λ value. is_found (slice_get patterns number) value)
          (value_of fields name)).0 h in let bad : None ≡ Some p.0 = sym nothing ∙ p.1 in
          absurd (cc)),
    )

-- ---- 4. places

before_is : (value : List ℕ) (i : ℕ)
    → IsTrue (is_free_before value i) ↔ ((i ≡ 0) ⊎ (is_name_byte (get_or value (i - 1) 0) ≡ false))
before_is value i = (
  λ h. elim (or_cases (eqb i 0) (not (is_name_byte (get_or value (i - 1) 0))) h) [
    | inl start ↦ elim (eqb_tells i 0) [
      | inl is ↦ inl is.1
      | inr other ↦ absurd (false≢true (sym other.0 ∙ start))
    ]
    | inr apart ↦ inr (not-true (is_name_byte (get_or value (i - 1) 0)) apart)
  ],
  λ p. or_from (eqb i 0) (not (is_name_byte (get_or value (i - 1) 0))) (elim p [
    | inl start ↦ elim (eqb_tells i 0) [
      | inl is ↦ inl is.0
      | inr other ↦ absurd (other.1 start)
    ]
    | inr apart ↦ inr (rw apart refl)
  ]),
)

after_is : (value : List ℕ) (j : ℕ) → IsTrue (is_free_from value j)
    ↔ ((length value ≤ j) ⊎ (is_name_byte (get_or value j 0) ≡ false))
after_is value j = (
  λ h. elim (or_cases (leb (length value) j) (not (is_name_byte (get_or value j 0))) h) [
    | inl end ↦ inl (leb-true (length value) j end)
    | inr apart ↦ inr (not-true (is_name_byte (get_or value j 0)) apart)
  ],
  λ p. or_from (leb (length value) j) (not (is_name_byte (get_or value j 0))) (elim p [
    | inl end ↦ inl (le-leb (length value) j end)
    | inr apart ↦ inr (rw apart refl)
  ]),
)

module _ (t value : List ℕ) (i : ℕ) where
  to_place : IsTrue (stands_at t value i) → StandsAt t value i
  to_place h =
      let end = i + length t in
      let p = (and_is (leb end (length value))
      (bytes_eq (slice_range value i end) t &&
      (is_free_before value i && is_free_from value end))).0 h in
      let q = (and_is (bytes_eq (slice_range value i end) t)
      (is_free_before value i && is_free_from value end)).0 p.1 in
      let r = (and_is (is_free_before value i) (is_free_from value end)).0 q.1 in
      record {
        within = leb-true end (length value) p.0;
        same = (bytes_eq-Decides (slice_range value i end) t).0 q.0;
        before = (before_is value i).0 r.0;
        after = (after_is value end).0 r.1;
      }

  from_place : StandsAt t value i → IsTrue (stands_at t value i)
  from_place s =
      let end = i + length t in
      (and_is (leb end (length value))
      (bytes_eq (slice_range value i end) t &&
      (is_free_before value i && is_free_from value end))).1 (
        le-leb end (length value) s.within,
        (and_is (bytes_eq (slice_range value i end) t)
            (is_free_before value i && is_free_from value end)).1 (
              (bytes_eq-Decides (slice_range value i end) t).1 s.same,
              (and_is (is_free_before value i) (is_free_from value end)).1
                  ((before_is value i).1 s.before, (after_is value end).1 s.after),
            ),
      )

some_below : (test : ℕ → Bool) (n : ℕ) → any_below test n ≡ true
    → (i : ℕ) × (i < n) × (test i ≡ true)
unfolding any_below
some_below test zero h = absurd (false≢true h)
some_below test (suc n) h =
    elim (or_cases (any_below test n) (test n) h) [
      | inl earlier ↦ (let r = some_below test n earlier in (r.0, omega (arith, r.1), r.2))
      | inr here ↦ (n, omega arith, here)
    ]

to_standing : (t value : List ℕ) → IsTrue (stands_in t value)
    → (0 < length t) × (i : ℕ) × StandsAt t value i
unfolding stands_in
to_standing t value h =
    let p = (and_is (ltb 0 (length t)) (any_below (stands_at t value) (length value))).0 h in
    let r = some_below (stands_at t value) (length value) p.1 in
    (leb-true 1 (length t) p.0, r.0, to_place t value r.0 r.2)

from_standing : (t value : List ℕ) (i : ℕ) → 0 < length t → StandsAt t value i
    → IsTrue (stands_in t value)
from_standing t value i some s = found_at t value i some (omega (arith, s.within))
    (from_place t value i s)

-- a text isn't found in a value that doesn't have it at all
pub has_nowhere : (t value : List ℕ) → ¬ HasSubslice value t → stands_in t value ≡ false
has_nowhere t value none = by (stands_in t value) refl
  where
    by : (b : Bool) → stands_in t value ≡ b → b ≡ false
    by false e = refl
    by true e =
        let q = to_standing t value e in
        let i = q.1 in
        let end = i + length t in
        absurd (none (
          take i value,
          drop end value,
          split_between value i end (omega arith)
              ∙ ap (λ (l : List ℕ). take i value ++ (l ++ drop end value)) q.2.same,
        ))

pub texts : TextsMatchWhereTheyStand
texts patterns fields name t = (
  λ h. (let p = (at_value (λ value. stands_in t value) (value_of fields name)).0 h in
      let q = to_standing t p.0 p.2 in (p.0, p.1, q.0, q.1, q.2)),
  λ p. (at_value (λ value. stands_in t value) (value_of fields name)).1
      (p.0, p.1, from_standing t p.0 p.3 p.2 p.4),
)

-- ---- 5. patterns

by_number : (o : Option Re) (value : List ℕ) → IsTrue (is_found o value)
    ↔ ((re : Re) × (o ≡ Some re) × IsTrue (is_some (find_str re value 0)))
by_number None value =
    (λ h. absurd (false≢true h), λ p. absurd (let bad : None ≡ Some p.0 = p.1 in cc))
by_number (Some re) value = (
  λ h. (re, refl, h),
  λ p. (let found : Some re ≡ Some p.0 = p.1 in let same : re ≡ p.0 = cc in
      ap (λ r. is_some (find_str r value 0)) same ∙ p.2),
)

pub patterns_match : PatternsMatchWhereTheyAreFound
patterns_match patterns fields name number = (
  λ h. (let p = (at_value (λ value. is_found (slice_get patterns number) value)
      (value_of fields name)).0 h in
      let q = (by_number (slice_get patterns number) p.0).0 p.2 in (p.0, p.1, q.0, q.1, q.2)),
  λ p. (at_value (λ value. is_found (slice_get patterns number) value) (value_of fields name)).1
      (p.0, p.1, (by_number (slice_get patterns number) p.0).1 (p.2, p.3, p.4)),
)
