-- The names of the affected sources in their order, and the sources with these names.
use Rattle.std.proofs.Common.{◌≡◌, ℕ, ◌+◌, ◌<◌, ◌∙◌, Bool, true, false, List, [], Some}
use Rattle.std.proofs.Common.{filter, get_or, length, map, slice_get, refl, sym, ap, subst, inl}
use Rattle.std.proofs.Common.{inr}
use Rattle.std.proofs.Common.{arith}
use Rattle.std.specs.Borrow.{Bor}
use Rattle.std.specs.Cmp.Lexicographic.{slice_cmp}
use Rattle.std.specs.List.{All, AllPairs, Contains, IsDistinct}
use Rattle.std.specs.List.Sorted.{IsPermutation, IsSorted}
use Rattle.std.specs.Ordering.{is_eq, is_lt, nat_cmp, ordering_reverse}
use Rattle.std.specs.Str.{bytes_eq}
use Rattle.std.specs.declared.cmp.Ordering.{Ordering}
use Rattle.std.specs.declared.cmp.Ordering.TheVariants.{Less, Equal, Greater}
use Rattle.std.proofs.lemmas.Bool.{false≢true}
use Rattle.std.proofs.lemmas.Cmp.{nat_list_cmp_total}
use Rattle.std.proofs.lemmas.List.{get_or-map, length-map}
use Rattle.std.proofs.lemmas.List.Kept.{AllPairs-filter}
use Rattle.std.proofs.lemmas.List.Quantifiers.{position-Some}
use Rattle.std.proofs.lemmas.List.Elements.{Contains-get_or}
use Rattle.std.proofs.lemmas.List.Sorted.{Contains-permutation, IsPermutation-sym, ranks_by}
use Rattle.std.proofs.lemmas.List.Sorted.{sorted_far}
use Rattle.std.proofs.lemmas.Map.Keys.{IsDistinct-IsPermutation, IsDistinct-from_apart}
use Rattle.std.proofs.lemmas.Map.Keys.{apart_from_distinct}
use Rattle.std.proofs.lemmas.Map.Text.{is_eq-slice_cmp}
use Rattle.std.proofs.lemmas.Option.{get_or_from_slice_get, slice_get-get_or, slice_get_cases}
use Rattle.std.proofs.lemmas.Option.{slice_get_within}
use Rattle.td_text.proofs.SameTexts.{bytes_eq-swap}
use Rattle.td_indices.specs.Archive.{Contents, number_named}
use Rattle.td_indices.specs.Sources.{KeptSource}
use Rattle.td_query.specs.Statuses.{affected_names, is_affected}
use Rattle.td_query.specs.Tracking.{Tracking}
use Rattle.td_plan.specs.declared.movers.Mover.{Mover}
use Rattle.td_plan.specs.InOrder.{is_before}
use Rattle.td_plan.specs.Premises.{AreSound, Premises, SourcesAreApart, name_of}
use Rattle.td_plan.specs.inner.Inputs.{kept_source}
use Rattle.td_plan.specs.inner.Movers.{AreAllOf, AreMovers, AreNamed, AreNamedOf}
use Rattle.td_plan.specs.inner.Movers.{IsAffectedName, IsMover, IsNameAffected, mover_name}
use Rattle.td_plan.proofs.Chosen.{filter-again, filter-found, map-again, map-found}
use Rattle.td_plan.proofs.Named.{one-of-name, placed-at}

-- ---- 1. texts in order

abbrev IsAbove : List ℕ → List ℕ → Type 0
IsAbove a b = is_lt (slice_cmp nat_cmp b a) ≡ false

-- the first of two texts that differ and are in order is before the second
below : (a b : List ℕ) (o : Ordering) → slice_cmp nat_cmp a b ≡ o → IsAbove a b
    → bytes_eq a b ≡ false → is_before a b ≡ true
below a b Less is above apart = ap is_lt is
below a b Equal is above apart =
    absurd (false≢true (sym apart ∙ sym (is_eq-slice_cmp a b) ∙ ap is_eq is))
below a b Greater is above apart =
    let back : slice_cmp nat_cmp b a ≡ Less =
    nat_list_cmp_total.antisymm b a ∙ ap ordering_reverse is in
    absurd (false≢true (sym above ∙ ap is_lt back))

-- sorted texts that differ rise
pub rise-sorted : (xs : List (List ℕ)) → IsSorted (slice_cmp nat_cmp) xs → IsDistinct bytes_eq xs
    → (j k : ℕ) (d : List ℕ) → j < k → k < length xs
    → is_before (get_or xs j d) (get_or xs k d) ≡ true
rise-sorted xs up apart j k d lt within =
    below (get_or xs j d) (get_or xs k d) (slice_cmp nat_cmp (get_or xs j d) (get_or xs k d)) refl
    (sorted_far (λ (a b : List ℕ). is_lt (slice_cmp nat_cmp a b))
    (ranks_by nat_list_cmp_total (λ (a : List ℕ). a)) xs up j k d (omega arith) within)
    (apart_from_distinct bytes_eq xs j k d apart lt within)

-- texts that are sorted as they lie in memory are sorted as such
pub sorted-texts : (xs : List (Bor (List ℕ)))
    → ((k : ℕ) (d : Bor (List ℕ)) → k + 1 < length xs
    → is_lt (slice_cmp nat_cmp (get_or xs (k + 1) d).now (get_or xs k d).now) ≡ false)
    → IsSorted (slice_cmp nat_cmp) (map (λ (x : Bor (List ℕ)). x.now) xs)
sorted-texts xs up = λ k d low high.
    let text = λ (x : Bor (List ℕ)). x.now in
    let within : k + 1 < length xs = omega (arith, high, length-map xs text) in
    elim (slice_get_cases xs (k + 1)).1 [
      | inl there ↦
          let at : get_or (map text xs) (k + 1) d ≡ text (get_or xs (k + 1) there.0) =
          get_or-map text xs (k + 1) there.0 d within in
          let first : get_or (map text xs) k d ≡ text (get_or xs k there.0) =
          get_or-map text xs k there.0 d (omega arith) in
          ap (λ (t : List ℕ). is_lt (slice_cmp nat_cmp t (get_or (map text xs) k d))) at
          ∙ ap (λ (t : List ℕ). is_lt (slice_cmp nat_cmp (text (get_or xs (k + 1) there.0)) t))
          first
          ∙ up k there.0 within
      | inr past ↦ absurd (omega (arith, past.0, within))
    ]

-- ---- 2. the names of the affected sources

module _ (a : Contents) (t : Tracking) (apart : SourcesAreApart a) where
  abbrev affected : KeptSource → Bool
  affected s = is_affected a t s

  abbrev IsApart : KeptSource → KeptSource → Type 0
  IsApart s u = bytes_eq u.head.name s.head.name ≡ false

  sources-apart : AllPairs IsApart a.sources
  sources-apart = λ i j d lt within.
      let sources = a.sources in
      let s : KeptSource = get_or sources j d in
      (position-Some (λ (u : KeptSource). bytes_eq s.head.name u.head.name) sources j d
      (apart j s (slice_get-get_or sources j d within))).2 i lt

  names-apart : IsDistinct bytes_eq (affected_names a t)
  names-apart =
      let xs = filter affected a.sources in
      IsDistinct-from_apart bytes_eq (map name_of xs) (λ i j d lt high.
      let within : j < length xs = omega (arith, high, length-map xs name_of) in
      elim (slice_get_cases xs j).1 [
        | inl there ↦
            let s : KeptSource = get_or xs i there.0 in
            let u : KeptSource = get_or xs j there.0 in
            ap (λ (n : List ℕ). bytes_eq n (get_or (map name_of xs) j d))
            (get_or-map name_of xs i there.0 d (omega arith))
            ∙ ap (bytes_eq s.head.name) (get_or-map name_of xs j there.0 d within)
            ∙ bytes_eq-swap s.head.name u.head.name
            ∙ AllPairs-filter IsApart affected a.sources sources-apart i j there.0 lt within
        | inr past ↦ absurd (omega (arith, past.0, within))
      ])

  -- each of the names is that of an affected source
  pub of-affected : (name : List ℕ) → Contains (affected_names a t) name
      → IsNameAffected a t name
  of-affected name has =
      let r = map-found name_of (filter affected a.sources) name has in
      let f = filter-found affected a.sources r.0 r.1 in
      let at = placed-at a.sources r.0 f.0 in
      record {
        number = f.0.0;
        source = r.0;
        named = ap (number_named a) (sym r.2) ∙ apart f.0.0 r.0 at;
        at = at;
        affected = f.1;
      }

  module _ (names : List (List ℕ))
      (all : IsPermutation (affected_names a t) names) where
    pub all-affected : All (IsNameAffected a t) names
    all-affected = λ k d lt. of-affected (get_or names k d)
        (Contains-permutation names (affected_names a t) (get_or names k d)
        (IsPermutation-sym (affected_names a t) names all)
        (Contains-get_or names k d lt))

    module _ (up : IsSorted (slice_cmp nat_cmp) names) (Is : Mover → Type 0)
        (is-source : (m : Mover) → Is m
        → slice_get a.sources m.number ≡ Some (kept_source m.source))
        (ms : List Mover) (so : AreNamedOf Is names ms) where
      each-is : (k : ℕ) (m : Mover) → slice_get ms k ≡ Some m → Is m
      each-is k m at =
          subst Is (get_or_from_slice_get ms k m m at) (so.each k m (slice_get_within ms k m at))

      name-at : (k : ℕ) (m : Mover) → slice_get ms k ≡ Some m → get_or names k [] ≡ mover_name m
      name-at k m at =
          ap (λ (l : List (List ℕ)). get_or l k []) (sym so.named)
          ∙ get_or-map mover_name ms k m [] (slice_get_within ms k m at)
          ∙ ap mover_name (get_or_from_slice_get ms k m m at)

      -- the sources with the names are all affected sources
      pub all-are : AreAllOf Is a t ms
      all-are = record {
        each = each-is;
        all = λ s has is.
            let named = map-again name_of (filter affected a.sources) s
            (filter-again affected a.sources s has is) in
            let listed : Contains (map mover_name ms) s.head.name =
            subst (λ (l : List (List ℕ)). Contains l s.head.name) (sym so.named)
            (Contains-permutation (affected_names a t) names s.head.name all named) in
            let mine = map-found mover_name ms s.head.name listed in
            let at = placed-at ms mine.0 mine.1 in
            let its = each-is mine.1.0 mine.0 at in (
              mine.1.0,
              mine.0,
              at,
              one-of-name a apart mine.0.number has.0 (kept_source mine.0.source) s
                  (is-source mine.0 its) (placed-at a.sources s has) mine.2,
            );
        rising = λ j k m n lt left right.
            let within : k < length names = omega (
              arith,
              slice_get_within ms k n right,
              length-map ms mover_name,
              ap length so.named,
            ) in
            let distinct = IsDistinct-IsPermutation bytes_eq bytes_eq-swap
            (affected_names a t) names all names-apart in
            ap (λ (w : List ℕ). is_before w (mover_name n)) (sym (name-at j m left))
            ∙ ap (is_before (get_or names j [])) (sym (name-at k n right))
            ∙ rise-sorted names up distinct j k [] lt within;
      }

module _ (p : Premises) (sound : AreSound p) (names : List (List ℕ))
    (all : IsPermutation (affected_names p.archive p.tracker) names) where
  pub names-affected : All (IsAffectedName p) names
  names-affected = all-affected p.archive p.tracker sound.numbered names all

  -- the movers are all affected sources
  pub movers-are : IsSorted (slice_cmp nat_cmp) names → (ms : List Mover) → AreNamed p names ms
      → AreMovers p ms
  movers-are up ms so = all-are p.archive p.tracker sound.numbered names all up
      (λ m. IsMover p m (kept_source m.source)) (λ m is. is.at) ms so
