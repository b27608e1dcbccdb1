-- A source builds on another if and only if it asks for it.
use Rattle.std.proofs.Common.{◌≡◌, ◌≢◌, ◌⊎◌, ℕ, suc, not, Bool, true, false, ◌&&◌, List, [], ◌∷◌}
use Rattle.std.proofs.Common.{length, Option, Some, None, refl, sym, ap, subst, ◌∙◌, inl, inr}
use Rattle.std.proofs.Common.{arith}
use Rattle.std.specs.Prelude.{slice_get}
use Rattle.std.specs.List.{Contains, list_any, range_with_len}
use Rattle.std.specs.Option.{option_map_or}
use Rattle.std.specs.Str.{bytes_eq}
use Rattle.std.proofs.lemmas.Bool.{and_parts, and_from, cases_Bool, eq-eqb, or_cases, or_left}
use Rattle.std.proofs.lemmas.Bool.{or_right}
use Rattle.std.proofs.lemmas.Bool.Decides.{eqb_tells}
use Rattle.std.proofs.lemmas.Option.{slice_get_within}
use Rattle.std.proofs.lemmas.Slice.Eq.{bytes_eq-Decides}
use Rattle.td_text.proofs.Anywhere.{any-below}
use Rattle.td_relation.specs.Arch.{ArchWords}
use Rattle.td_relation.specs.Asked.{Asked}
use Rattle.td_relation.specs.Meeting.{active, is_on}
use Rattle.td_indices.specs.Archive.{Contents, is_of, number_named}
use Rattle.td_indices.specs.Kept.{KeptBinary}
use Rattle.td_indices.specs.OfferedNames.{offered_names}
use Rattle.td_indices.proofs.OfferLaws.{has_cases}
use Rattle.td_waves.specs.BuildsOn.{asked_first, asked_for_arch, asks, builds_on, fits, fits_at}
use Rattle.td_waves.specs.BuildsOn.{is_active_at, names_package, names_some_of, some_asked}
use Rattle.td_waves.specs.BuildsOnLaws.{AsksFor, IsAsked, MeetsAt, SourcesBuildOnWhatTheyAskFor}

-- ---- tests of lists

any_found : {X : Type 0} (test : X → Bool) (xs : List X) → list_any test xs ≡ true
    → (x : X) × Contains xs x × (test x ≡ true)
any_found test [] h = absurd (let bad : false ≡ true = h in cc)
any_found test (x ∷ xs) h = elim (cases_Bool (test x)) [
  | inl is ↦ (x, (0, omega arith, refl), is)
  | inr other ↦
      let r = any_found test xs (sym (rw other refl) ∙ h) in
      let low = r.1.1 in
      (r.0, (suc r.1.0, omega arith, r.1.2), r.2)
]

any_again : {X : Type 0} (test : X → Bool) (xs : List X) (x : X) → Contains xs x → test x ≡ true
    → list_any test xs ≡ true
any_again test [] x h is = let low = h.1 in absurd (omega arith)
any_again test (y ∷ xs) x h is = elim (has_cases y xs x h) [
  | inl same ↦ rw (ap test same ∙ is) refl
  | inr more ↦ elim (cases_Bool (test y)) [
    | inl first ↦ rw first refl
    | inr other ↦ rw other (any_again test xs x more is)
  ]
]

apart_found : (s t : List ℕ) → not (bytes_eq s t) ≡ true → s ≢ t
apart_found s t h e =
    let bad : false ≡ true = sym (ap not ((bytes_eq-Decides s t).1 e)) ∙ h in cc

apart_again : (s t : List ℕ) → s ≢ t → not (bytes_eq s t) ≡ true
apart_again s t h = elim (cases_Bool (bytes_eq s t)) [
  | inl is ↦ absurd (h ((bytes_eq-Decides s t).0 is))
  | inr other ↦ ap not other
]

-- ---- where they meet

there_found : (place : ℕ) (home : Option ℕ) → is_on place home ≡ true
    → (home ≡ None) ⊎ (home ≡ Some place)
there_found place None h = inl refl
there_found place (Some p) h = elim (eqb_tells p place) [
  | inl is ↦ inr (ap (λ (k : ℕ). Some k) is.1)
  | inr other ↦ absurd (let bad : false ≡ true = sym other.0 ∙ h in cc)
]

there_again : (place : ℕ) (home : Option ℕ) → (home ≡ None) ⊎ (home ≡ Some place)
    → is_on place home ≡ true
there_again place home (inl h) = ap (is_on place) h
there_again place home (inr h) = ap (is_on place) h ∙ eq-eqb place place refl

active_found : (a : Contents) (place : ℕ) (x : Asked) (o : Option ArchWords)
    → option_map_or (λ arch. active arch x) o false ≡ true
    → (arch : ArchWords) × (o ≡ Some arch) × (active arch x ≡ true)
active_found a place x None h = absurd (let bad : false ≡ true = h in cc)
active_found a place x (Some arch) h = (arch, refl, h)

module _ (a : Contents) (source : ℕ) (x : Asked) (b : KeptBinary) where
  fits_found : fits a source x b.head.home ≡ true → (place : ℕ) × MeetsAt a source x b place
  fits_found h =
      let r = any_found (fits_at a source x b.head.home) (range_with_len 0 (length a.table)) h in
      let there = and_parts _ _ r.2 in
      let rest = and_parts _ _ there.1 in
      let on = active_found a r.0 x (slice_get a.table r.0) rest.0 in (
        r.0,
        record {
          row = rest.1;
          arch = on.0;
          at = on.1;
          is_active = on.2;
          there = there_found r.0 b.head.home there.0;
        },
      )

  fits_again : (place : ℕ) → MeetsAt a source x b place → fits a source x b.head.home ≡ true
  fits_again place h =
      let is_on_it : is_active_at a.table place x ≡ true =
      ap (λ (o : Option ArchWords). option_map_or (λ arch. active arch x) o false) h.at
      ∙ h.is_active in
      any-below (fits_at a source x b.head.home) (length a.table) place
      (slice_get_within a.table place h.arch h.at)
      (and_from _ _ (there_again place b.head.home h.there) (and_from _ _ is_on_it h.row))

  names_found : names_package a source x b ≡ true
      → Contains (offered_names b) x.name × ((place : ℕ) × MeetsAt a source x b place)
  names_found h =
      let r = any_found (λ name. bytes_eq x.name name && fits a source x b.head.home)
      (offered_names b) h in
      let both = and_parts _ _ r.2 in (
        subst (Contains (offered_names b)) (sym ((bytes_eq-Decides x.name r.0).0 both.0)) r.1,
        fits_found both.1,
      )

  names_again : (place : ℕ) → Contains (offered_names b) x.name → MeetsAt a source x b place
      → names_package a source x b ≡ true
  names_again place offered h =
      any_again (λ name. bytes_eq x.name name && fits a source x b.head.home) (offered_names b)
      x.name offered
      (and_from _ _ ((bytes_eq-Decides x.name x.name).1 refl) (fits_again place h))

-- ---- what is asked for

module _ (a : Contents) (t : List ℕ) (source : ℕ) where
  -- an alternative that names some package of t
  record Names (members : List (List Asked)) : Type 0 where
    pub member : List Asked
    pub in_field : Contains members member
    pub alternative : Asked
    pub named : Contains member alternative
    pub some : names_some_of a source t alternative ≡ true

  some_found : (members : List (List Asked))
      → some_asked (names_some_of a source t) members ≡ true → Names members
  some_found members h =
      let m = any_found (λ member. list_any (names_some_of a source t) member) members h in
      let x = any_found (names_some_of a source t) m.0 m.2 in
      record { member = m.0; in_field = m.1; alternative = x.0; named = x.1; some = x.2 }

  some_again : (members : List (List Asked)) → Names members
      → some_asked (names_some_of a source t) members ≡ true
  some_again members h =
      any_again (λ member. list_any (names_some_of a source t) member) members h.member h.in_field
      (any_again (names_some_of a source t) h.member h.alternative h.named h.some)

  asks_for : (s : List ℕ) → s ≢ t → number_named a s ≡ Some source → (x : Asked)
      → IsAsked a source x → names_some_of a source t x ≡ true → AsksFor a s t
  asks_for s apart number x asked h =
      let b = any_found (λ b. is_of t b && names_package a source x b) a.binaries h in
      let both = and_parts _ _ b.2 in
      let names = names_found a source x b.0 both.1 in
      record {
        apart = apart;
        source = source;
        number = number;
        alternative = x;
        asked = asked;
        binary = b.0;
        kept = b.1;
        own = sym ((bytes_eq-Decides t b.0.head.source).0 both.0);
        offered = names.0;
        place = names.1.0;
        meets = names.1.1;
      }

  found_by : (s : List ℕ) → s ≢ t → number_named a s ≡ Some source → asks a t source ≡ true
      → AsksFor a s t
  found_by s apart number h = elim (or_cases _ _ h) [
    | inl first ↦
        let r = some_found (asked_first a source) first in
        asks_for s apart number r.alternative
        (record { member = r.member; named = r.named; field = inl r.in_field }) r.some
    | inr second ↦
        let r = some_found (asked_for_arch a source) second in
        asks_for s apart number r.alternative
        (record { member = r.member; named = r.named; field = inr r.in_field }) r.some
  ]

builds_found : (a : Contents) (s t : List ℕ) → builds_on a s t ≡ true → AsksFor a s t
builds_found a s t h =
    let both = and_parts _ _ h in
    by (apart_found s t both.0) (number_named a s) refl both.1
  where
    by : s ≢ t → (o : Option ℕ) → number_named a s ≡ o → option_map_or (asks a t) o false ≡ true
        → AsksFor a s t
    by apart None number k = absurd (let bad : false ≡ true = k in cc)
    by apart (Some source) number k = found_by a t source s apart number k

builds_again : (a : Contents) (s t : List ℕ) → AsksFor a s t → builds_on a s t ≡ true
builds_again a s t h =
    let source = h.source in
    let x = h.alternative in
    let some : names_some_of a source t x ≡ true =
    any_again (λ b. is_of t b && names_package a source x b) a.binaries h.binary h.kept
    (and_from _ _ ((bytes_eq-Decides t h.binary.head.source).1 (sym h.own))
    (names_again a source x h.binary h.place h.offered h.meets)) in
    let named = h.asked.named in
    let asked : asks a t source ≡ true = elim h.asked.field [
      | inl first ↦ or_left _ _ (some_again a t source (asked_first a source) (record {
        member = h.asked.member;
        in_field = first;
        alternative = x;
        named = named;
        some = some;
      }))
      | inr second ↦ or_right _ _ (some_again a t source (asked_for_arch a source) (record {
        member = h.asked.member;
        in_field = second;
        alternative = x;
        named = named;
        some = some;
      }))
    ] in
    and_from _ _ (apart_again s t h.apart)
    (ap (λ (o : Option ℕ). option_map_or (asks a t) o false) h.number ∙ asked)

pub sources_build_on_what_they_ask_for : SourcesBuildOnWhatTheyAskFor
sources_build_on_what_they_ask_for a s t = (builds_found a s t, builds_again a s t)
