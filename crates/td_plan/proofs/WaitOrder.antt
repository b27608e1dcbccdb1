-- The waits of a row, in the order of their packages.
use Rattle.std.proofs.Common.{◌≡◌, ◌⊎◌, ℕ, ◌&&◌, Bool, true, false, List, map, Option}
use Rattle.std.proofs.Common.{Some, None, refl, sym, ap, subst, ◌∙◌, inl, inr}
use Rattle.std.specs.Cmp.Lexicographic.{slice_cmp}
use Rattle.std.specs.List.{Contains, filter_map}
use Rattle.std.specs.List.Sorted.{IsPermutation, IsSortedByKey}
use Rattle.std.specs.Option.{option_or}
use Rattle.std.specs.Ordering.{nat_cmp}
use Rattle.std.proofs.lemmas.Bool.{and_from, and_parts}
use Rattle.std.proofs.lemmas.Cmp.{nat_list_cmp_total}
use Rattle.std.proofs.lemmas.List.Sorted.{Contains-permutation, IsPermutation-map}
use Rattle.std.proofs.lemmas.List.Sorted.{IsPermutation-sym, ranks_by}
use Rattle.std.proofs.lemmas.Option.{cond_some}
use Rattle.std.proofs.lemmas.Slice.Eq.{bytes_eq-Decides}
use Rattle.td_indices.specs.Archive.{is_of}
use Rattle.td_indices.specs.Kept.{KeptBinary}
use Rattle.td_indices.specs.PackageKeys.{same_home}
use Rattle.td_indices.specs.Sources.{KeptSource}
use Rattle.td_indices.proofs.CountingLaws.{same_home-refl}
use Rattle.td_indices.proofs.Keeping.{same_home-is}
use Rattle.td_plan.specs.declared.waits.Wait.{Wait}
use Rattle.td_plan.specs.BuildsThere.{asks_active, names_itself, names_offer}
use Rattle.td_plan.specs.Due.{arrival_number, is_present}
use Rattle.td_plan.specs.InOrder.{first_where, in_order, is_before}
use Rattle.td_plan.specs.Packages.{arrival_base, is_written, own_package, package_name}
use Rattle.td_plan.specs.Packages.{present_package}
use Rattle.td_plan.specs.Premises.{PackagesAreApart, Premises}
use Rattle.td_plan.specs.Reasons.{is_exactly}
use Rattle.td_plan.specs.Waits as spec
use Rattle.td_plan.specs.Waits.{is_source_before, is_wait_before, wait_for, wait_if}
use Rattle.td_plan.specs.Waits.{wait_of, wait_with}
use Rattle.td_plan.specs.inner.Waiting.{seen}
use Rattle.td_plan.proofs.Chosen.{in_order-again, in_order-found}
use Rattle.td_plan.proofs.InOrders.{first-least}
use Rattle.td_plan.proofs.Rising.{AnyWay, Rising, before-any, before-once}
use Rattle.td_plan.proofs.Rising.{before-trans, order-rises, rising-map, rising-same}
use Rattle.td_plan.proofs.Sorted.{any-way-picked, any-way-unmap, sorted-rises}

-- a wait is for a package of the source, there
pub record IsFor (p : Premises) (place : ℕ) (t : KeptSource) (w : spec.Wait) : Type 0 where
  pub item : KeptBinary
  pub has : Contains p.archive.binaries item
  pub of : is_of t.head.name item ≡ true
  pub here : is_exactly place item ≡ true
  pub named : w.name ≡ item.head.name

-- a package of t's present version that s names there
abbrev is_named : Premises → KeptSource → KeptSource → ℕ → KeptBinary → Bool
is_named p s t place b = is_present t place b
    && asks_active p.archive s place (names_offer b)

-- a package of t there that s names by its own name
abbrev is_own : Premises → KeptSource → KeptSource → ℕ → KeptBinary → Bool
is_own p s t place b = is_of t.head.name b
    && (is_exactly place b && asks_active p.archive s place (names_itself b))

module _ (p : Premises) (place : ℕ) (s t : KeptSource) (w : spec.Wait) where
  -- the wait that is written for a package is for that package
  written : (b : KeptBinary) (older : Bool) → Contains p.archive.binaries b
      → is_of t.head.name b ≡ true → is_exactly place b ≡ true
      → wait_for t b (arrival_base t b) (arrival_number p t place) older ≡ Some w
      → IsFor p place t w
  written b older has of here is = record {
    item = b;
    has = has;
    of = of;
    here = here;
    named = sym (ap (λ (v : spec.Wait). v.name) (cond_some
        (is_written (arrival_base t b) (arrival_number p t place)) _ w is).1);
  }

  of-present : (test : KeptBinary → Bool) (b : KeptBinary)
      → ((c : KeptBinary) → test c ≡ true → is_present t place c ≡ true)
      → first_where package_name test p.archive.binaries ≡ Some b
      → Contains p.archive.binaries b × (is_of t.head.name b ≡ true) × (is_exactly place b ≡ true)
  of-present test b weaker is =
      let found = first-least package_name test p.archive.binaries b is in
      let now = and_parts (is_of t.head.name b) _ (weaker b found.1) in
      (found.0, now.0, (and_parts (is_exactly place b) _ now.1).0)

  present-is : (b : KeptBinary) → present_package p.archive s t place ≡ Some b
      → Contains p.archive.binaries b × (is_of t.head.name b ≡ true) × (is_exactly place b ≡ true)
  present-is b is =
      by (first_where package_name (is_named p s t place) p.archive.binaries) refl is
    where
      by : (o : Option KeptBinary)
          → first_where package_name (is_named p s t place) p.archive.binaries ≡ o
          → option_or o (first_where package_name (is_present t place) p.archive.binaries)
          ≡ Some b
          → Contains p.archive.binaries b × (is_of t.head.name b ≡ true)
          × (is_exactly place b ≡ true)
      by None at one = of-present (is_present t place) b (λ c passes. passes) one
      by (Some c) at one =
          of-present (is_named p s t place) b
          (λ d passes. (and_parts (is_present t place d) _ passes).0) (at ∙ one)

  old-is : (b : KeptBinary) → own_package p.archive s t place ≡ Some b
      → Contains p.archive.binaries b × (is_of t.head.name b ≡ true) × (is_exactly place b ≡ true)
  old-is b is =
      let found = first-least package_name (is_own p s t place) p.archive.binaries b is in
      let of = and_parts (is_of t.head.name b) _ found.1 in
      (found.0, of.0, (and_parts (is_exactly place b) _ of.1).0)

  pub wait-for-package : wait_of p s place t ≡ Some w → IsFor p place t w
  wait-for-package is = by (present_package p.archive s t place) refl is
    where
      old : (q : Option KeptBinary) → own_package p.archive s t place ≡ q
          → wait_if t (arrival_number p t place) true q ≡ Some w → IsFor p place t w
      old None at one = absurd (cc)
      old (Some b) at one =
          let of = old-is b at in written b true of.0 of.1 of.2 one

      by : (o : Option KeptBinary) → present_package p.archive s t place ≡ o
          → wait_with p s t place o ≡ Some w → IsFor p place t w
      by None at one = old (own_package p.archive s t place) refl one
      by (Some b) at one = let of = present-is b at in written b false of.0 of.1 of.2 one

-- waits for two sources are for packages of different names
pub waits-apart : (p : Premises) → PackagesAreApart p → (place : ℕ) (t u : KeptSource)
    (v w : spec.Wait) → IsFor p place t v → IsFor p place u w
    → (is_source_before t u ≡ true) ⊎ (is_source_before u t ≡ true) → ¬ (v.name ≡ w.name)
waits-apart p apart place t u v w mine its way same =
    let names : mine.item.head.name ≡ its.item.head.name =
    sym mine.named ∙ same ∙ its.named in
    let homes : mine.item.head.home ≡ its.item.head.home =
    same_home-is mine.item.head.home (Some place) mine.here
    ∙ sym (same_home-is its.item.head.home (Some place) its.here) in
    let one : mine.item ≡ its.item = apart mine.item its.item mine.has its.has
    (and_from _ _ ((bytes_eq-Decides mine.item.head.name its.item.head.name).1 names)
    (subst (λ (h : Option ℕ). same_home mine.item.head.home h ≡ true) homes
    (same_home-refl mine.item.head.home))) in
    let source : t.head.name ≡ u.head.name =
    (bytes_eq-Decides t.head.name mine.item.head.source).0 mine.of
    ∙ ap (λ (b : KeptBinary). b.head.source) one
    ∙ sym ((bytes_eq-Decides u.head.name its.item.head.source).0 its.of) in
    elim way [
      | inl low ↦ before-once t.head.name t.head.name
          (subst (λ (n : List ℕ). is_before t.head.name n ≡ true) (sym source) low)
          (subst (λ (n : List ℕ). is_before t.head.name n ≡ true) (sym source) low)
      | inr low ↦ before-once u.head.name u.head.name
          (subst (λ (n : List ℕ). is_before u.head.name n ≡ true) source low)
          (subst (λ (n : List ℕ). is_before u.head.name n ≡ true) source low)
    ]

-- sorted by their packages, the waits for sources of different names are in their order
pub waits-in-order : (p : Premises) → PackagesAreApart p → (s : KeptSource) (place : ℕ)
    (ts : List KeptSource) → AnyWay is_source_before ts → (old new : List Wait)
    → map seen old ≡ filter_map (wait_of p s place) ts → IsPermutation old new
    → IsSortedByKey (λ (w : Wait). w.name.now) (slice_cmp nat_cmp) new
    → map seen new ≡ in_order is_wait_before (filter_map (wait_of p s place) ts)
waits-in-order p apart s place ts way old new are moved sorted =
    let waits : List spec.Wait = filter_map (wait_of p s place) ts in
    let key = λ (w : Wait). w.name.now in
    let lt = λ (v w : Wait). is_before v.name.now w.name.now in
    let any : AnyWay is_wait_before waits =
    any-way-picked is_source_before is_wait_before (wait_of p s place) ts
    (λ t u v w between left right. before-any v.name w.name
    (waits-apart p apart place t u v w (wait-for-package p place s t v left)
    (wait-for-package p place s u w right) between)) way in
    let seen-any : AnyWay is_wait_before (map seen old) =
    subst (AnyWay is_wait_before) (sym are) any in
    let rises : Rising lt new = sorted-rises lt (ranks_by nat_list_cmp_total key) old new
    (any-way-unmap is_wait_before seen old seen-any) moved sorted in
    let seen-moved : IsPermutation (map seen old) (map seen new) =
    IsPermutation-map seen old new moved in
    rising-same is_wait_before (map seen new) (in_order is_wait_before waits)
    (λ v w has low back. before-once v.name w.name low back)
    (rising-map is_wait_before seen new rises)
    (order-rises is_wait_before (λ u v w. before-trans u.name v.name w.name) waits any)
    (λ w has. in_order-again is_wait_before waits w (subst (λ (l : List spec.Wait). Contains l w)
    are (Contains-permutation (map seen new) (map seen old) w
    (IsPermutation-sym (map seen old) (map seen new) seen-moved) has)))
    (λ w has. Contains-permutation (map seen old) (map seen new) w seen-moved
    (subst (λ (l : List spec.Wait). Contains l w) (sym are)
    (in_order-found is_wait_before waits w has)))
