-- With which row a key opens: by the packages that were built.
use Rattle.std.proofs.Common.{◌≡◌, ◌⊎◌, ℕ, ◌≤◌, max, Bool, true, false, List, []}
use Rattle.std.proofs.Common.{◌∷◌, Option, Some, None, filter, fold, map, refl, sym, ap, subst}
use Rattle.std.proofs.Common.{◌∙◌, inl, inr, arith}
use Rattle.std.specs.List.{Contains}
use Rattle.std.specs.Ordering.{is_eq}
use Rattle.std.specs.declared.cmp.Ordering.{Ordering}
use Rattle.std.specs.declared.cmp.Ordering.TheVariants.{Less, Equal, Greater}
use Rattle.std.proofs.lemmas.Bool.{and_parts, and_from, cases_Bool, cases_lt}
use Rattle.std.proofs.lemmas.Slice.Eq.{bytes_eq-Decides}
use Rattle.td_text.proofs.Chain.{some_is}
use Rattle.td_version.specs.Order.{version_cmp}
use Rattle.td_relation.specs.Table.{place_of}
use Rattle.td_rows.specs.declared.key.Key.{Key}
use Rattle.td_rows.specs.declared.row.Row.{Row}
use Rattle.td_indices.specs.Archive.{Contents, source_named}
use Rattle.td_indices.specs.Kept.{KeptBinary}
use Rattle.td_indices.specs.PackageKeys.{same_home}
use Rattle.td_indices.specs.Opening.{current_numbers, greater, greatest, opening_at, opening_of}
use Rattle.td_indices.specs.Opening.{opening_on, opening_row, rebuild_number}
use Rattle.td_indices.specs.OpeningLaws.{IsBuilt, IsBuiltThere, IsOpening, IsUnbuilt}
use Rattle.td_indices.specs.OpeningLaws.{OpeningRowsAreExact}
use Rattle.td_indices.specs.Rows.{has_row}
use Rattle.td_indices.specs.Sources.{KeptSource}
use Rattle.td_indices.proofs.CountingLaws.{same_home-refl}
use Rattle.td_indices.proofs.Greatest.{counted, number_in}
use Rattle.td_indices.proofs.Keeping.{same_home-is}
use Rattle.td_indices.proofs.OfferLaws.{has_cases, has_first, has_more}

-- ---- the greatest of the numbers of those that pass a test

larger : (m k : ℕ) → (max m k ≡ m) ⊎ (max m k ≡ k)
larger m k = elim (cases_lt m k) [
  | inl less ↦ inr (omega (arith, less))
  | inr more ↦ inl (omega (arith, more))
]

module _ {X : Type 0} (test : X → Bool) (f : X → ℕ) where
  abbrev pub numbers : List X → List ℕ
  numbers xs = map f (filter test xs)

  -- none that passes has a greater
  abbrev pub Bounds : List X → ℕ → Type 0
  Bounds xs n = (x : X) → Contains xs x → test x ≡ true → f x ≤ n

  -- some passes, and has this number
  pub record Reaches (xs : List X) (n : ℕ) : Type 0 where
    pub most : X
    pub within : Contains xs most
    pub passes : test most ≡ true
    pub number : f most ≡ n

  later : (x : X) (xs : List X) (n : ℕ) → Reaches xs n → Reaches (x ∷ xs) n
  later x xs n m =
      record {
        most = m.most;
        within = has_more x xs m.most m.within;
        passes = m.passes;
        number = m.number;
      }

  bounds_over : (n : ℕ) (x : X) (xs : List X) → f x ≤ n → Bounds xs n → Bounds (x ∷ xs) n
  bounds_over n x xs first rest y h passes = elim (has_cases x xs y h) [
    | inl is ↦ subst (λ (z : X). f z ≤ n) is first
    | inr more ↦ rest y more passes
  ]

  bounds_past : (n : ℕ) (x : X) (xs : List X) → test x ≡ false → Bounds xs n → Bounds (x ∷ xs) n
  bounds_past n x xs fails rest y h passes = elim (has_cases x xs y h) [
    | inl is ↦ absurd (let bad : false ≡ true = sym fails ∙ ap test is ∙ passes in cc)
    | inr more ↦ rest y more passes
  ]

  -- beside a number that is there already
  record IsMostWith (best : ℕ) (xs : List X) (n : ℕ) : Type 0 where
    pub above : best ≤ n
    pub reached : (n ≡ best) ⊎ Reaches xs n
    pub bound : Bounds xs n

  with_one : (best : ℕ) (x : X) (xs : List X) (n : ℕ) → test x ≡ true
      → IsMostWith (max best (f x)) xs n → IsMostWith best (x ∷ xs) n
  with_one best x xs n is m =
      let above = m.above in
      record {
        above = omega (arith, above);
        reached = elim m.reached [
          | inl same ↦ elim (larger best (f x)) [
            | inl old ↦ inl (same ∙ old)
            | inr new ↦ inr (record {
              most = x;
              within = has_first x xs;
              passes = is;
              number = sym (same ∙ new);
            })
          ]
          | inr r ↦ inr (later x xs n r)
        ];
        bound = bounds_over n x xs (omega (arith, above)) m.bound;
      }

  without_one : (best : ℕ) (x : X) (xs : List X) (n : ℕ) → test x ≡ false → IsMostWith best xs n
      → IsMostWith best (x ∷ xs) n
  without_one best x xs n fails m =
      record {
        above = m.above;
        reached = elim m.reached [
          | inl same ↦ inl same
          | inr r ↦ inr (later x xs n r)
        ];
        bound = bounds_past n x xs fails m.bound;
      }

  most_with : (best : ℕ) (xs : List X)
      → (n : ℕ) × (fold greater (Some best) (numbers xs) ≡ Some n) × IsMostWith best xs n
  most_with best [] = (
    best,
    refl,
    record {
      above = omega arith;
      reached = inl refl;
      bound = λ x h passes. absurd (none_there x h);
    },
  )
    where
      none_there : (x : X) → Contains [] x → ⊥
      none_there x h = let low = h.1 in omega arith
  most_with best (x ∷ xs) = elim (cases_Bool (test x)) [
    | inl is ↦
        let r = most_with (max best (f x)) xs in
        (r.0, rw is r.1, with_one best x xs r.0 is r.2)
    | inr other ↦
        let r = most_with best xs in
        (r.0, rw other r.1, without_one best x xs r.0 other r.2)
  ]

  -- what the greatest number is
  abbrev pub IsOutcome : List X → Option ℕ → Type 0
  IsOutcome xs None = (x : X) → Contains xs x → test x ≡ true → ⊥
  IsOutcome xs (Some n) = Reaches xs n × Bounds xs n

  first_passes : (x : X) (xs : List X) (n : ℕ) → test x ≡ true → IsMostWith (f x) xs n
      → IsOutcome (x ∷ xs) (Some n)
  first_passes x xs n is m =
      let above = m.above in (
        elim m.reached [
          | inl same ↦
              record { most = x; within = has_first x xs; passes = is; number = sym same }
          | inr r ↦ later x xs n r
        ],
        bounds_over n x xs above m.bound,
      )

  first_fails : (x : X) (xs : List X) (o : Option ℕ) → test x ≡ false → IsOutcome xs o
      → IsOutcome (x ∷ xs) o
  first_fails x xs None fails none = none_past
    where
      none_past : (y : X) → Contains (x ∷ xs) y → test y ≡ true → ⊥
      none_past y h passes = elim (has_cases x xs y h) [
        | inl is ↦ absurd (let bad : false ≡ true = sym fails ∙ ap test is ∙ passes in cc)
        | inr more ↦ none y more passes
      ]
  first_fails x xs (Some n) fails m = (later x xs n m.0, bounds_past n x xs fails m.1)

  pub outcome : (xs : List X) → IsOutcome xs (fold greater None (numbers xs))
  outcome [] = λ x h passes. let low = h.1 in omega arith
  outcome (x ∷ xs) = elim (cases_Bool (test x)) [
    | inl is ↦
        let r = most_with (f x) xs in
        let e : fold greater None (numbers (x ∷ xs)) ≡ Some r.0 = rw is r.1 in
        subst (IsOutcome (x ∷ xs)) (sym e) (first_passes x xs r.0 is r.2)
    | inr other ↦
        rw other (first_fails x xs (fold greater None (numbers xs)) other (outcome xs))
  ]

-- ---- packages that were built

is_equal_order : (o : Ordering) → is_eq o ≡ true → o ≡ Equal
is_equal_order Less e = absurd cc
is_equal_order Equal e = refl
is_equal_order Greater e = absurd cc

module _ (a : Contents) (s : KeptSource) (place : ℕ) where
  abbrev test : KeptBinary → Bool
  test b = counted s.head.name s.head.parts place b

  built_found : (b : KeptBinary) → Contains a.binaries b → test b ≡ true → IsBuiltThere a s place b
  built_found b kept h =
      let own = and_parts _ _ h in
      let current = and_parts _ _ own.1 in
      record {
        kept = kept;
        own = sym ((bytes_eq-Decides s.head.name b.head.source).0 own.0);
        there = same_home-is b.head.home (Some place) current.0;
        current = is_equal_order (version_cmp b.head.source_parts s.head.parts) current.1;
      }

  built_again : (b : KeptBinary) → IsBuiltThere a s place b → test b ≡ true
  built_again b h =
      let own = (bytes_eq-Decides s.head.name b.head.source).1 (sym h.own) in
      let there : same_home b.head.home (Some place) ≡ true =
      subst (λ (o : Option ℕ). same_home o (Some place) ≡ true) (sym h.there)
      (same_home-refl (Some place)) in
      let current : is_eq (version_cmp b.head.source_parts s.head.parts) ≡ true =
      ap is_eq h.current in
      and_from _ _ own (and_from _ _ there current)

  row_is : (o : Option ℕ) (row : Row) → IsOutcome test number_in a.binaries o → opening_of o ≡ row
      → IsBuilt a s place row ⊎ IsUnbuilt a s place row
  row_is None row none e =
      inr (record {
        none = λ b h. none b h.kept (built_again b h);
        blank_row = sym e;
      })
  row_is (Some n) row m e =
      inl (record {
        binary = m.0.most;
        built = built_found m.0.most m.0.within m.0.passes;
        greatest = λ b h. subst (λ (k : ℕ). number_in b ≤ k) (sym m.0.number)
            (m.1 b h.kept (built_again b h));
        installed = sym e ∙ ap (λ (k : ℕ). opening_of (Some k)) (sym m.0.number);
      })

  row_again : (o : Option ℕ) (row : Row) → IsOutcome test number_in a.binaries o
      → (IsBuilt a s place row ⊎ IsUnbuilt a s place row) → opening_of o ≡ row
  row_again None row none (inl h) =
      absurd (none h.binary h.built.kept (built_again h.binary h.built))
  row_again None row none (inr h) = sym h.blank_row
  row_again (Some n) row m (inl h) =
      let low = m.1 h.binary h.built.kept (built_again h.binary h.built) in
      let high = h.greatest m.0.most (built_found m.0.most m.0.within m.0.passes) in
      let is = m.0.number in
      let same : n ≡ rebuild_number h.binary.head.version = omega (arith, low, high, is) in
      ap (λ (k : ℕ). opening_of (Some k)) same ∙ sym h.installed
  row_again (Some n) row m (inr h) =
      absurd (h.none m.0.most (built_found m.0.most m.0.within m.0.passes))

-- ---- the row of a key

on_found : (a : Contents) (s : KeptSource) (o : Option ℕ) (row : Row) → opening_on a s o ≡ Some row
    → (place : ℕ) × (o ≡ Some place) × (has_row a.table s.head.archs place ≡ true)
    × (IsBuilt a s place row ⊎ IsUnbuilt a s place row)
on_found a s None row e = absurd cc
on_found a s (Some place) row e =
    elim (cases_Bool (has_row a.table s.head.archs place)) [
      | inl has ↦ (
        place,
        refl,
        has,
        row_is a s place (greatest (current_numbers a s place)) row
            (outcome (test a s place) number_in a.binaries) (some_is _ row (sym (rw has refl) ∙ e)),
      )
      | inr none ↦ absurd (let bad : None ≡ Some row = sym (rw none refl) ∙ e in cc)
    ]

at_found : (a : Contents) (k : Key) (row : Row) (o : Option KeptSource)
    → source_named a k.source ≡ o → opening_at a o k.arch ≡ Some row → IsOpening a k row
at_found a k row None named e = absurd cc
at_found a k row (Some s) named e =
    let r = on_found a s (place_of a.table k.arch) row e in
    record {
      source = s;
      place = r.0;
      named = named;
      at = r.1;
      has = r.2;
      opens = r.3;
    }

opening_found : (a : Contents) (k : Key) (row : Row) → opening_row a k ≡ Some row
    → IsOpening a k row
opening_found a k row e = at_found a k row (source_named a k.source) refl e

opening_again : (a : Contents) (k : Key) (row : Row) → IsOpening a k row
    → opening_row a k ≡ Some row
opening_again a k row h =
    let named = h.named in
    let at = h.at in
    let has = h.has in
    rw (named, at, has)
    (ap (λ (r : Row). Some r) (row_again a h.source h.place
    (greatest (current_numbers a h.source h.place)) row
    (outcome (test a h.source h.place) number_in a.binaries) h.opens))

pub opening_rows_are_exact : OpeningRowsAreExact
opening_rows_are_exact a k row = (opening_found a k row, opening_again a k row)
