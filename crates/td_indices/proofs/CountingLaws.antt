-- Putting items one after the other keeps those that count.
use Rattle.std.proofs.Common.{◌≡◌, ℕ, ◌+◌, Bool, true, false, List, [], ◌∷◌, ◌++◌, Option, Some}
use Rattle.std.proofs.Common.{None, Result, Ok, Err, refl, sym, ap, ◌∙◌, subst, inl, inr}
use Rattle.std.proofs.Common.{append_assoc, append-nil}
use Rattle.std.specs.List.{list_any, AllByRecursion}
use Rattle.std.proofs.lemmas.Bool.{cases_Bool, and_parts, eq-eqb, or_right}
use Rattle.std.specs.Ordering.{is_lt, ordering_reverse}
use Rattle.std.specs.Str.{bytes_eq}
use Rattle.std.specs.declared.cmp.Ordering.{Ordering}
use Rattle.std.specs.declared.cmp.Ordering.TheVariants.{Less, Equal, Greater}
use Rattle.std.proofs.lemmas.Slice.Eq.{bytes_eq-Decides}
use Rattle.td_text.specs.Lines.{on_ok}
use Rattle.td_stanza.specs.Field.{Entry}
use Rattle.td_version.specs.Order.{version_cmp}
use Rattle.td_version.specs.Version.{Parts}
use Rattle.td_version.proofs.Total.{version_total}
use Rattle.td_relation.proofs.WordTexts.{all-map}
use Rattle.td_rows.proofs.Rising.{is_less}
use Rattle.td_indices.specs.declared.archive_fault.ArchiveFault.{ArchiveFault}
use Rattle.td_indices.specs.declared.archive_fault.EntryFault.{EntryFault}
use Rattle.td_indices.specs.declared.archive_fault.IndexFile.{IndexFile}
use Rattle.td_indices.specs.declared.archive_fault.IndexFile.TheVariants.{Packages, Sources}
use Rattle.td_indices.specs.Counting.{Counts, Apart, AreKept, AreItems, GreatestPackagesAreKept}
use Rattle.td_indices.specs.Counting.{GreatestSourcesAreKept, PackageKeysAreExact}
use Rattle.td_indices.specs.Counting.{SourceKeysAreExact, LowerPackagesAreExact}
use Rattle.td_indices.specs.Counting.{LowerSourcesAreExact}
use Rattle.td_indices.specs.Kept.{KeptBinary, binary_at, same_package, lower_package, put}
use Rattle.td_indices.specs.PackageKeys.{same_home}
use Rattle.td_indices.specs.Reading.{at_stanza, in_stanza, over_stanzas, put_some}
use Rattle.td_indices.specs.Sources.{KeptSource, kept_source_at, same_source, lower_source}
use Rattle.td_indices.proofs.Keeping.{same_home-is}

-- what is asked of the two tests
pub record Orders {A : Type 0} (same lower : A → A → Bool) : Type 0 where
  pub itself : (x : A) → same x x ≡ true
  pub back : (x y : A) → same x y ≡ true → same y x ≡ true
  pub along : (x y z : A) → same x y ≡ true → same y z ≡ true → same x z ≡ true
  pub under : (z y x : A) → lower z y ≡ true → lower y x ≡ true → lower z x ≡ true
  pub not_over : (z y x : A) → lower y z ≡ false → lower y x ≡ true → lower z x ≡ true

all-append : {A : Type 0} (P : A → Type 0) (xs ys : List A) → AllByRecursion P xs
    → AllByRecursion P ys → AllByRecursion P (xs ++ ys)
all-append P [] ys h k = k
all-append P (x ∷ xs) ys h k = (h.0, all-append P xs ys h.1 k)

all-pair : {A : Type 0} (P Q : A → Type 0) (xs : List A) → AllByRecursion P xs → AllByRecursion Q xs
    → AllByRecursion (λ x. P x × Q x) xs
all-pair P Q [] h k = tt
all-pair P Q (x ∷ xs) h k = ((h.0, k.0), all-pair P Q xs h.1 k.1)

module _ {A : Type 0} (same lower : A → A → Bool) (o : Orders same lower) where
  -- one that counts still does, where the next of its key isn't greater
  still : (items : List A) (x y : A) → (same y x ≡ true → lower y x ≡ false)
      → Counts same lower items y → Counts same lower (items ++ x ∷ []) y
  still items x y out h = record {
    before = h.before;
    after = h.after ++ x ∷ [];
    parts = ap (λ (l : List A). l ++ x ∷ []) h.parts ∙ append_assoc h.before (y ∷ h.after) (x ∷ []);
    earlier = h.earlier;
    later =
        all-append (λ z. same y z ≡ true → lower y z ≡ false) h.after (x ∷ []) h.later (out, tt);
  }

  -- the next counts, where all of its key before it are lower
  newest : (items : List A) (x : A) → AllByRecursion (λ z. same x z ≡ true → lower z x ≡ true) items
      → Counts same lower (items ++ x ∷ []) x
  newest items x h = record { before = items; after = []; parts = refl; earlier = h; later = tt }

  -- what is below one that counts is below a greater one of its key
  outranked : (items : List A) (x y : A) → same x y ≡ true → lower y x ≡ true
      → Counts same lower items y → AllByRecursion (λ z. same x z ≡ true → lower z x ≡ true) items
  outranked items x y is less h =
      let Low : A → Type 0 = λ z. same x z ≡ true → lower z x ≡ true in
      let earlier : AllByRecursion Low h.before =
      all-map (λ z. same y z ≡ true → lower z y ≡ true) Low
      (λ z f e. o.under z y x (f (o.along y x z (o.back x y is) e)) less) h.before h.earlier in
      let later : AllByRecursion Low h.after =
      all-map (λ z. same y z ≡ true → lower y z ≡ false) Low
      (λ z f e. o.not_over z y x (f (o.along y x z (o.back x y is) e)) less) h.after h.later in
      subst (λ (l : List A). AllByRecursion Low l) (sym h.parts)
      (all-append Low h.before (y ∷ h.after) earlier ((λ e. less), later))

  -- where two have one key, a third that has another than the one has another than the other too
  foreign : (x y w : A) → same x y ≡ true → same y w ≡ false → same x w ≡ false
  foreign x y w is other =
      elim (cases_Bool (same x w)) [
        | inl bad ↦ absurd (let e = sym other ∙ o.along y x w (o.back x y is) bad in cc)
        | inr fine ↦ fine
      ]

  turned : (x y : A) → same x y ≡ false → same y x ≡ false
  turned x y other =
      elim (cases_Bool (same y x)) [
        | inl bad ↦ absurd (let e = sym other ∙ o.back y x bad in cc)
        | inr fine ↦ fine
      ]

  apart_out : (x w : A) → same x w ≡ false → same w x ≡ true → lower w x ≡ false
  apart_out x w other bad = absurd (let e = sym other ∙ o.back w x bad in cc)

  put_counts : (items : List A) (x : A) (ys : List A) → AllByRecursion (Counts same lower items) ys
      → Apart same ys → (list_any (same x) ys ≡ false
      → AllByRecursion (λ z. same x z ≡ true → lower z x ≡ true) items)
      → AllByRecursion (Counts same lower (items ++ x ∷ [])) (put same lower ys x)
  put_counts items x [] h apart alone = (newest items x (alone refl), tt)
  put_counts items x (y ∷ ys) h apart alone =
      elim (cases_Bool (same x y)) [
        | inl is ↦
            let others : AllByRecursion (Counts same lower (items ++ x ∷ [])) ys =
            all-map (λ w. Counts same lower items w × (same y w ≡ false))
            (Counts same lower (items ++ x ∷ []))
            (λ w p. still items x w (apart_out x w (foreign x y w is p.1)) p.0) ys
            (all-pair (Counts same lower items) (λ w. same y w ≡ false) ys h.1 apart.0) in
            elim (cases_Bool (lower y x)) [
              | inl less ↦ rw (is, less) (newest items x (outranked items x y is less h.0), others)
              | inr not_less ↦ rw (is, not_less) (still items x y (λ e. not_less) h.0, others)
            ]
        | inr other ↦
            rw other (
              still items x y (apart_out x y other) h.0,
              put_counts items x ys h.1 apart.1 (λ none. alone (rw other none)),
            )
      ]

  has_more : (z x : A) (ys : List A) → list_any (same z) ys ≡ true
      → list_any (same z) (put same lower ys x) ≡ true
  has_more z x [] h = absurd cc
  has_more z x (y ∷ ys) h =
      elim (cases_Bool (same x y)) [
        | inl is ↦ elim (cases_Bool (lower y x)) [
          | inl less ↦ rw (is, less) (elim (cases_Bool (same z y)) [
            | inl at ↦ rw (o.along z y x at (o.back x y is)) refl
            | inr past ↦ or_right (same z x) (list_any (same z) ys) (sym (rw past refl) ∙ h)
          ])
          | inr not_less ↦ rw (is, not_less) h
        ]
        | inr other ↦ rw other (elim (cases_Bool (same z y)) [
          | inl at ↦ rw at refl
          | inr past ↦
              or_right (same z y) (list_any (same z) (put same lower ys x))
              (has_more z x ys (sym (rw past refl) ∙ h))
        ])
      ]

  has_own : (x : A) (ys : List A) → list_any (same x) (put same lower ys x) ≡ true
  has_own x [] = rw (o.itself x) refl
  has_own x (y ∷ ys) =
      elim (cases_Bool (same x y)) [
        | inl is ↦ elim (cases_Bool (lower y x)) [
          | inl less ↦ rw (is, less, o.itself x) refl
          | inr not_less ↦ rw (is, not_less) (rw is refl)
        ]
        | inr other ↦
            rw other (or_right (same x y) (list_any (same x) (put same lower ys x)) (has_own x ys))
      ]

  all-put : (P : A → Type 0) (x : A) (ys : List A) → P x → AllByRecursion P ys
      → AllByRecursion P (put same lower ys x)
  all-put P x [] p h = (p, tt)
  all-put P x (y ∷ ys) p h =
      elim (cases_Bool (same x y)) [
        | inl is ↦ elim (cases_Bool (lower y x)) [
          | inl less ↦ rw (is, less) (p, h.1)
          | inr not_less ↦ rw (is, not_less) h
        ]
        | inr other ↦ rw other (h.0, all-put P x ys p h.1)
      ]

  put_apart : (x : A) (ys : List A) → Apart same ys → Apart same (put same lower ys x)
  put_apart x [] h = (tt, tt)
  put_apart x (y ∷ ys) h =
      elim (cases_Bool (same x y)) [
        | inl is ↦ elim (cases_Bool (lower y x)) [
          | inl less ↦
              rw (
                is,
                less,
              ) (
                all-map (λ w. same y w ≡ false) (λ w. same x w ≡ false) (λ w p. foreign x y w is p)
                    ys h.0,
                h.1,
              )
          | inr not_less ↦ rw (is, not_less) h
        ]
        | inr other ↦
            rw other
            (all-put (λ w. same y w ≡ false) x ys (turned x y other) h.0, put_apart x ys h.1)
      ]

  any_along : (x z : A) (ys : List A) → same x z ≡ true → list_any (same z) ys ≡ true
      → list_any (same x) ys ≡ true
  any_along x z [] is h = absurd cc
  any_along x z (y ∷ ys) is h =
      elim (cases_Bool (same z y)) [
        | inl at ↦ rw (o.along x z y is at) refl
        | inr past ↦
            or_right (same x y) (list_any (same x) ys)
            (any_along x z ys is (sym (rw past refl) ∙ h))
      ]

  alone : (x : A) (items kept : List A) → AllByRecursion (λ z. list_any (same z) kept ≡ true) items
      → list_any (same x) kept ≡ false
      → AllByRecursion (λ z. same x z ≡ true → lower z x ≡ true) items
  alone x items kept each none =
      all-map (λ z. list_any (same z) kept ≡ true) (λ z. same x z ≡ true → lower z x ≡ true)
      (λ z p is. absurd (let e = sym none ∙ any_along x z kept is p in cc)) items each

  -- an item more
  pub kept_more : (items kept : List A) (x : A) → AreKept same lower items kept
      → AreKept same lower (items ++ x ∷ []) (put same lower kept x)
  kept_more items kept x h = record {
    counting = put_counts items x kept h.counting h.apart (alone x items kept h.each);
    each = all-append (λ z. list_any (same z) (put same lower kept x) ≡ true) items (x ∷ [])
        (all-map (λ z. list_any (same z) kept ≡ true)
        (λ z. list_any (same z) (put same lower kept x) ≡ true) (λ z p. has_more z x kept p) items
        h.each) (has_own x kept, tt);
    apart = put_apart x kept h.apart;
  }

  pub kept_none : AreKept same lower [] []
  kept_none = record { counting = tt; each = tt; apart = tt }

-- ---- over stanzas

abbrev pub step : {A : Type 0} → (A → A → Bool) → (A → A → Bool)
    → (ℕ → List Entry → Result (Option A) EntryFault) → IndexFile → ℕ → List A → List Entry
    → Result (List A) ArchiveFault
step same lower at file n seen fields =
    on_ok (in_stanza file n (at n fields)) (λ b. Ok (put_some same lower seen b))

module _ {A : Type 0} (same lower : A → A → Bool) (o : Orders same lower)
    (at : ℕ → List Entry → Result (Option A) EntryFault) (file : IndexFile) where
  Kept : ℕ → List A → List (List Entry) → List A → Type 0
  Kept n done ss kept =
      (items : List A) × AreItems at n ss items × AreKept same lower (done ++ items) kept

  over_by : (n : ℕ) (seen done : List A) (s : List Entry) (ss : List (List Entry)) (kept : List A)
      → ((more now : List A) → AreKept same lower now more
      → over_stanzas (step same lower at file) (n + 1) more ss ≡ Ok kept → Kept (n + 1) now ss kept)
      → AreKept same lower done seen → (r : Result (Option A) EntryFault) → at n s ≡ r
      → over_stanzas (step same lower at file) n seen (s ∷ ss) ≡ Ok kept → Kept n done (s ∷ ss) kept
  unfolding over_stanzas Kept
  over_by n seen done s ss kept later h (Err e) r is =
      absurd (let bad : ◌≡◌ {A = Result (List A) ArchiveFault} (Err (at_stanza file n e))
      (Ok kept) = sym (rw r refl) ∙ is in cc)
  over_by n seen done s ss kept later h (Ok None) r is =
      let f = later seen done h (sym (rw r refl) ∙ is) in
      (f.0, (None, f.0, r, refl, f.1), f.2)
  over_by n seen done s ss kept later h (Ok (Some x)) r is =
      let f = later (put same lower seen x) (done ++ x ∷ []) (kept_more same lower o done seen x h)
      (sym (rw r refl) ∙ is) in (
        x ∷ f.0,
        (Some x, f.0, r, refl, f.1),
        subst (λ (l : List A). AreKept same lower l kept) (append_assoc done (x ∷ []) f.0) f.2,
      )

  over_kept : (n : ℕ) (seen done : List A) (ss : List (List Entry)) (kept : List A)
      → AreKept same lower done seen → over_stanzas (step same lower at file) n seen ss ≡ Ok kept
      → Kept n done ss kept
  unfolding over_stanzas Kept
  over_kept n seen done [] kept h is =
      let e : seen ≡ kept = cc in (
        [],
        refl,
        subst (λ (k : List A). AreKept same lower (done ++ []) k) e
            (subst (λ (d : List A). AreKept same lower d seen) (sym (append-nil done)) h),
      )
  over_kept n seen done (s ∷ ss) kept h is =
      over_by n seen done s ss kept (λ more now k g. over_kept (n + 1) more now ss kept k g) h
      (at n s) refl is

  pub all_kept : (ss : List (List Entry)) (kept : List A)
      → over_stanzas (step same lower at file) 0 [] ss ≡ Ok kept
      → (items : List A) × AreItems at 0 ss items × AreKept same lower items kept
  unfolding Kept
  all_kept ss kept is = over_kept 0 [] [] ss kept (kept_none same lower o) is

-- ---- versions

below : (a b d : Parts) → is_lt (version_cmp a b) ≡ true → is_lt (version_cmp b d) ≡ true
    → is_lt (version_cmp a d) ≡ true
below a b d h k =
    ap is_lt (version_total.trans a b d (is_less (version_cmp a b) h) (is_less (version_cmp b d) k))

not_above : (a b d : Parts) → is_lt (version_cmp b a) ≡ false → is_lt (version_cmp b d) ≡ true
    → is_lt (version_cmp a d) ≡ true
not_above a b d h k = by (version_cmp b a) refl
  where
    by : (o : Ordering) → version_cmp b a ≡ o → is_lt (version_cmp a d) ≡ true
    by Less e = absurd (let bad = sym (ap is_lt e) ∙ h in cc)
    by Equal e = ap is_lt (sym (version_total.congr b a d e)) ∙ k
    by Greater e = below a b d (ap is_lt (version_total.antisymm a b ∙ ap ordering_reverse e)) k

-- ---- keys

pub same_home-refl : (h : Option ℕ) → same_home h h ≡ true
same_home-refl None = refl
same_home-refl (Some i) = eq-eqb i i refl

package_parts : (a b : KeptBinary) → same_package a b ≡ true
    → (a.head.name ≡ b.head.name) × (a.head.home ≡ b.head.home)
package_parts a b h =
    let both = and_parts _ _ h in (
      (bytes_eq-Decides a.head.name b.head.name).0 both.0,
      same_home-is a.head.home b.head.home both.1,
    )

package_again : (a b : KeptBinary) → a.head.name ≡ b.head.name → a.head.home ≡ b.head.home
    → same_package a b ≡ true
package_again a b names homes =
    let first : bytes_eq a.head.name b.head.name ≡ true =
    (bytes_eq-Decides a.head.name b.head.name).1 names in
    let second : same_home a.head.home b.head.home ≡ true =
    subst (λ (h : Option ℕ). same_home a.head.home h ≡ true) homes (same_home-refl a.head.home) in
    rw (first, second) refl

package_orders : Orders same_package lower_package
package_orders = record {
  itself = λ x. package_again x x refl refl;
  back = λ x y h. (let p = package_parts x y h in package_again y x (sym p.0) (sym p.1));
  along = λ x y z h k. (let p = package_parts x y h in let q = package_parts y z k in
      package_again x z (p.0 ∙ q.0) (p.1 ∙ q.1));
  under = λ z y x h k. below z.head.parts y.head.parts x.head.parts h k;
  not_over = λ z y x h k. not_above z.head.parts y.head.parts x.head.parts h k;
}

source_again : (a b : KeptSource) → a.head.name ≡ b.head.name → same_source a b ≡ true
source_again a b names = (bytes_eq-Decides a.head.name b.head.name).1 names

source_names : (a b : KeptSource) → same_source a b ≡ true → a.head.name ≡ b.head.name
source_names a b h = (bytes_eq-Decides a.head.name b.head.name).0 h

source_orders : Orders same_source lower_source
source_orders = record {
  itself = λ x. source_again x x refl;
  back = λ x y h. source_again y x (sym (source_names x y h));
  along = λ x y z h k. source_again x z (source_names x y h ∙ source_names y z k);
  under = λ z y x h k. below z.head.parts y.head.parts x.head.parts h k;
  not_over = λ z y x h k. not_above z.head.parts y.head.parts x.head.parts h k;
}

pub greatest_packages : GreatestPackagesAreKept
greatest_packages table stanzas kept is =
    all_kept same_package lower_package package_orders (binary_at table) Packages stanzas kept is

pub greatest_sources : GreatestSourcesAreKept
greatest_sources stanzas kept is =
    all_kept same_source lower_source source_orders kept_source_at Sources stanzas kept is

-- ---- what the two tests say

pub package_keys : PackageKeysAreExact
package_keys a b = (package_parts a b, λ h. package_again a b h.0 h.1)

pub source_keys : SourceKeysAreExact
source_keys a b = (source_names a b, source_again a b)

pub lower_packages : LowerPackagesAreExact
lower_packages a b = (is_less (version_cmp a.head.parts b.head.parts), λ h. ap is_lt h)

pub lower_sources : LowerSourcesAreExact
lower_sources a b = (is_less (version_cmp a.head.parts b.head.parts), λ h. ap is_lt h)
