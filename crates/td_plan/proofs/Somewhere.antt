-- A source builds on another if and only if it does so at some place.
use Rattle.std.proofs.Common.{◌≡◌, ◌≢◌, ◌⊎◌, ℕ, ◌<◌, not, Bool, true, false, ◌&&◌, List, [], length}
use Rattle.std.proofs.Common.{Option, Some, None, refl, sym, ap, subst, ◌∙◌, inl, inr}
use Rattle.std.specs.Prelude.{slice_get}
use Rattle.std.specs.List.{Contains, list_any}
use Rattle.std.specs.Option.{option_map_or}
use Rattle.std.specs.Str.{bytes_eq}
use Rattle.std.proofs.lemmas.Bool.{and_from, and_parts, cases_Bool, eq-eqb, or_cases, or_left}
use Rattle.std.proofs.lemmas.Bool.{or_right}
use Rattle.std.proofs.lemmas.Bool.Decides.{eqb_tells}
use Rattle.std.proofs.lemmas.Option.{slice_get_within}
use Rattle.std.proofs.lemmas.Slice.Eq.{bytes_eq-Decides}
use Rattle.td_text.proofs.Chain.{some_is}
use Rattle.td_relation.specs.Arch.{ArchWords}
use Rattle.td_relation.specs.Asked.{Asked}
use Rattle.td_relation.specs.Meeting.{active, is_on}
use Rattle.td_indices.specs.Archive.{Contents, has_row_at, is_of, number_named, source_named}
use Rattle.td_indices.specs.Kept.{KeptBinary}
use Rattle.td_indices.specs.OfferedNames.{offered_names}
use Rattle.td_indices.specs.Rows.{has_row}
use Rattle.td_indices.specs.Sources.{KeptSource}
use Rattle.td_indices.specs.Stanzas.{build_depends_of, build_depends_arch_of}
use Rattle.td_waves.specs.BuildsOn.{asked_first, asked_for_arch, is_active_at, some_asked}
use Rattle.td_waves.specs.BuildsOnLaws.{AsksFor, IsAsked}
use Rattle.td_waves.proofs.AskingLaws.{sources_build_on_what_they_ask_for}
use Rattle.td_plan.specs.BuildsThere.{SourcesBuildSomewhere, asks_active, asks_there, builds_there}
use Rattle.td_plan.specs.BuildsThere.{names_offer}
use Rattle.td_plan.proofs.Chosen.{any-again, any-found, find-numbered}

-- ---- what members ask

-- some alternative of some member passes
pub record IsFound (test : Asked → Bool) (members : List (List Asked)) : Type 0 where
  pub member : List Asked
  pub in_field : Contains members member
  pub alternative : Asked
  pub named : Contains member alternative
  pub passes : test alternative ≡ true

pub asked-found : (test : Asked → Bool) (members : List (List Asked))
    → some_asked test members ≡ true → IsFound test members
asked-found test members h =
    let m = any-found (λ (l : List Asked). list_any test l) members h in
    let x = any-found test m.0 m.2 in
    record { member = m.0; in_field = m.1; alternative = x.0; named = x.1; passes = x.2 }

pub asked-again : (test : Asked → Bool) (members : List (List Asked)) → IsFound test members
    → some_asked test members ≡ true
asked-again test members h =
    any-again (λ (l : List Asked). list_any test l) members h.member h.in_field
    (any-again test h.member h.alternative h.named h.passes)

-- ---- names, and where they meet

apart-found : (s t : List ℕ) → not (bytes_eq s t) ≡ true → s ≢ t
apart-found s t h e =
    let bad : false ≡ true = sym (ap not ((bytes_eq-Decides s t).1 e)) ∙ h in cc

pub apart-again : (s t : List ℕ) → s ≢ t → not (bytes_eq s t) ≡ true
apart-again s t h = elim (cases_Bool (bytes_eq s t)) [
  | inl is ↦ absurd (h ((bytes_eq-Decides s t).0 is))
  | inr other ↦ ap not other
]

on-found : (place : ℕ) (home : Option ℕ) → is_on place home ≡ true
    → (home ≡ None) ⊎ (home ≡ Some place)
on-found place None h = inl refl
on-found place (Some p) h = elim (eqb_tells p place) [
  | inl is ↦ inr (ap (λ (k : ℕ). Some k) is.1)
  | inr other ↦ absurd (let bad : false ≡ true = sym other.0 ∙ h in cc)
]

on-again : (place : ℕ) (home : Option ℕ) → (home ≡ None) ⊎ (home ≡ Some place)
    → is_on place home ≡ true
on-again place home (inl h) = ap (is_on place) h
on-again place home (inr h) = ap (is_on place) h ∙ eq-eqb place place refl

active-found : (x : Asked) (o : Option ArchWords)
    → option_map_or (λ arch. active arch x) o false ≡ true
    → (arch : ArchWords) × (o ≡ Some arch) × (active arch x ≡ true)
active-found x None h = absurd (let bad : false ≡ true = h in cc)
active-found x (Some arch) h = (arch, refl, h)

-- an alternative that is active at a place and names what a package offers
abbrev pub asks_at : Contents → ℕ → KeptBinary → Asked → Bool
asks_at a place b x = is_active_at a.table place x && names_offer b x

module _ (a : Contents) (s t : KeptSource) (named : source_named a s.head.name ≡ Some s) where
  -- the number of s
  numbered : (n : ℕ) × (number_named a s.head.name ≡ Some n) × (slice_get a.sources n ≡ Some s)
  numbered =
      find-numbered (λ (x : KeptSource). bytes_eq s.head.name x.head.name) a.sources s named

  first_is : (n : ℕ) → slice_get a.sources n ≡ Some s → asked_first a n ≡ build_depends_of a s
  first_is n at = ap (λ (o : Option KeptSource). option_map_or (build_depends_of a) o []) at

  for_arch_is : (n : ℕ) → slice_get a.sources n ≡ Some s
      → asked_for_arch a n ≡ build_depends_arch_of a s
  for_arch_is n at = ap (λ (o : Option KeptSource). option_map_or (build_depends_arch_of a) o []) at

  row_is : (n place : ℕ) → slice_get a.sources n ≡ Some s
      → has_row_at a n place ≡ has_row a.table s.head.archs place
  row_is n place at = ap (λ (o : Option KeptSource).
      option_map_or (λ (x : KeptSource). has_row a.table x.head.archs place) o false) at

  -- ---- from what is asked to the place

  active_again : (h : AsksFor a s.head.name t.head.name)
      → asks_at a h.place h.binary h.alternative ≡ true
  active_again h =
      let x = h.alternative in
      and_from _ _
      (ap (λ (o : Option ArchWords). option_map_or (λ arch. active arch x) o false) h.meets.at
      ∙ h.meets.is_active)
      (any-again (λ (name : List ℕ). bytes_eq x.name name) (offered_names h.binary) x.name h.offered
      ((bytes_eq-Decides x.name x.name).1 refl))

  asks_again : (n : ℕ) → slice_get a.sources n ≡ Some s → (place : ℕ) (b : KeptBinary) (x : Asked)
      → IsAsked a n x → asks_at a place b x ≡ true → asks_active a s place (names_offer b) ≡ true
  asks_again n at place b x asked passes = elim asked.field [
    | inl first ↦ or_left _ _ (asked-again (asks_at a place b) (build_depends_of a s) (record {
      member = asked.member;
      in_field = subst (λ (l : List (List Asked)). Contains l asked.member) (first_is n at) first;
      alternative = x;
      named = asked.named;
      passes = passes;
    }))
    | inr second ↦ or_right _ _ (asked-again (asks_at a place b) (build_depends_arch_of a s)
        (record {
          member = asked.member;
          in_field = subst (λ (l : List (List Asked)). Contains l asked.member) (for_arch_is n at)
              second;
          alternative = x;
          named = asked.named;
          passes = passes;
        }))
  ]

  at_place : AsksFor a s.head.name t.head.name
      → (place : ℕ) × (place < length a.table) × (builds_there a place s t ≡ true)
  at_place h =
      let n = numbered in
      let same : n.0 ≡ h.source = some_is n.0 h.source (sym n.1 ∙ h.number) in
      let at : slice_get a.sources h.source ≡ Some s =
      subst (λ (k : ℕ). slice_get a.sources k ≡ Some s) same n.2 in
      let row : has_row a.table s.head.archs h.place ≡ true =
      sym (row_is h.source h.place at) ∙ h.meets.row in
      let asks : asks_active a s h.place (names_offer h.binary) ≡ true =
      asks_again h.source at h.place h.binary h.alternative h.asked (active_again h) in
      let b = h.binary in (
        h.place,
        slice_get_within a.table h.place h.meets.arch h.meets.at,
        and_from _ _ (apart-again s.head.name t.head.name h.apart)
            (any-again (λ (c : KeptBinary). is_of t.head.name c && asks_there a s h.place c)
            a.binaries b h.kept
            (and_from _ _ ((bytes_eq-Decides t.head.name b.head.source).1 (sym h.own))
            (and_from _ _ row (and_from _ _ (on-again h.place b.head.home h.meets.there) asks)))),
      )

  -- ---- from the place to what is asked

  asks_by : (n place : ℕ) → number_named a s.head.name ≡ Some n → slice_get a.sources n ≡ Some s
      → s.head.name ≢ t.head.name → (b : KeptBinary) → Contains a.binaries b
      → is_of t.head.name b ≡ true → has_row a.table s.head.archs place ≡ true
      → is_on place b.head.home ≡ true → (x : Asked) → IsAsked a n x → asks_at a place b x ≡ true
      → AsksFor a s.head.name t.head.name
  asks_by n place number at apart b kept own row there x asked passes =
      let both = and_parts _ _ passes in
      let on = active-found x (slice_get a.table place) both.0 in
      let name = any-found (λ (q : List ℕ). bytes_eq x.name q) (offered_names b) both.1 in
      record {
        apart = apart;
        source = n;
        number = number;
        alternative = x;
        asked = asked;
        binary = b;
        kept = kept;
        own = sym ((bytes_eq-Decides t.head.name b.head.source).0 own);
        offered = subst (Contains (offered_names b))
            (sym ((bytes_eq-Decides x.name name.0).0 name.2)) name.1;
        place = place;
        meets = record {
          row = row_is n place at ∙ row;
          arch = on.0;
          at = on.1;
          is_active = on.2;
          there = on-found place b.head.home there;
        };
      }

  asked_by : (n : ℕ) → slice_get a.sources n ≡ Some s → (place : ℕ) (b : KeptBinary)
      → asks_active a s place (names_offer b) ≡ true
      → (x : Asked) × IsAsked a n x × (asks_at a place b x ≡ true)
  asked_by n at place b h =
      elim (or_cases (some_asked (asks_at a place b) (build_depends_of a s))
      (some_asked (asks_at a place b) (build_depends_arch_of a s)) h) [
        | inl first ↦
            let r = asked-found (asks_at a place b) (build_depends_of a s) first in (
              r.alternative,
              record {
                member = r.member;
                named = r.named;
                field = inl (subst (λ (l : List (List Asked)). Contains l r.member)
                    (sym (first_is n at)) r.in_field);
              },
              r.passes,
            )
        | inr second ↦
            let r = asked-found (asks_at a place b) (build_depends_arch_of a s) second in (
              r.alternative,
              record {
                member = r.member;
                named = r.named;
                field = inr (subst (λ (l : List (List Asked)). Contains l r.member)
                    (sym (for_arch_is n at)) r.in_field);
              },
              r.passes,
            )
      ]

  asks_for : (place : ℕ) → builds_there a place s t ≡ true → AsksFor a s.head.name t.head.name
  asks_for place h =
      let n = numbered in
      let both = and_parts _ _ h in
      let b = any-found (λ (c : KeptBinary). is_of t.head.name c && asks_there a s place c)
      a.binaries both.1 in
      let own = and_parts _ _ b.2 in
      let row = and_parts _ _ own.1 in
      let there = and_parts _ _ row.1 in
      let x = asked_by n.0 n.2 place b.0 there.1 in
      asks_by n.0 place n.1 n.2 (apart-found s.head.name t.head.name both.0) b.0 b.1 own.0 row.0
      there.0 x.0 x.1 x.2

pub sources_build_somewhere : SourcesBuildSomewhere
sources_build_somewhere a s t named = (
  λ h. at_place a s t named ((sources_build_on_what_they_ask_for a s.head.name t.head.name).0 h),
  λ h. (sources_build_on_what_they_ask_for a s.head.name t.head.name).1
      (asks_for a s t named h.0 h.2),
)
