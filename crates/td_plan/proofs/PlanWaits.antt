-- The waits of a plan can be written.
use Rattle.std.proofs.Common.{◌≡◌, ◌≤◌, ℕ, Bool, true, false, cond, List, []}
use Rattle.std.proofs.Common.{◌∷◌}
use Rattle.std.proofs.Common.{Option, Some, None, get_or, refl, ap, inl}
use Rattle.std.proofs.Common.{inr}
use Rattle.std.proofs.Common.{arith}
use Rattle.std.specs.Prelude.{MatchOption, filter, fold}
use Rattle.std.specs.List.{AllByRecursion, Contains, cons_option, filter_map}
use Rattle.std.specs.Option.{option_map_or, option_or}
use Rattle.std.proofs.lemmas.Bool.{cases_Bool, leb-true, and_parts}
use Rattle.std.proofs.lemmas.List.Elements.{Contains-get_or, recursion_from_All}
use Rattle.td_version.specs.Base.{base_of}
use Rattle.td_text.specs.Words.{is_name}
use Rattle.td_version.specs.Grammar.{IsVersion}
use Rattle.td_version.specs.Order.{same_version}
use Rattle.td_rows.specs.declared.row.Row.{Row}
use Rattle.td_supply.specs.Supplied.{with_rebuild}
use Rattle.td_indices.specs.Kept.{KeptBinary}
use Rattle.td_indices.specs.Sources.{KeptSource}
use Rattle.td_plan.specs.Due.{arrival_number, has_number, is_due, is_ready, moves}
use Rattle.td_plan.specs.Due.{number_of}
use Rattle.td_plan.specs.InOrder.{earlier, first_where, in_order, is_before, put_in}
use Rattle.td_plan.specs.Lines.{Words}
use Rattle.td_plan.specs.Packages.{arrival_base, is_written, own_package, package_name}
use Rattle.td_plan.specs.Packages.{present_package, rebuilt_text}
use Rattle.td_plan.specs.PlanReading.{AreReadable}
use Rattle.td_plan.specs.Premises.{AreSound, Premises, key_at, row_at}
use Rattle.td_plan.specs.ReadingLaws.{CanBeWritten}
use Rattle.td_plan.specs.Waits.{awaited, is_source_before, is_wait_before, moving_sources}
use Rattle.td_plan.specs.Waits.{wait_for, wait_if, wait_of, wait_with, waits_of}
use Rattle.td_plan.proofs.RebuiltTexts.{rebuilt_versions_are_read}

-- ---- 1. what holds of each

module _ {A : Type 0} (P : A → Type 0) where
  all_filter : (test : A → Bool) (xs : List A) → AllByRecursion P xs
      → AllByRecursion P (filter test xs)
  all_filter test [] all = tt
  all_filter test (x ∷ xs) all = by (test x) (all_filter test xs all.1)
    where
      by : (b : Bool) → AllByRecursion P (filter test xs)
          → AllByRecursion P (cond b (x ∷ filter test xs) (filter test xs))
      by true rest = (all.0, rest)
      by false rest = rest

  all_put : (before : A → A → Bool) (x : A) (xs : List A) → P x → AllByRecursion P xs
      → AllByRecursion P (put_in before x xs)
  unfolding put_in
  all_put before x [] h all = (h, tt)
  all_put before x (y ∷ ys) h all = by (before x y) (all_put before x ys h all.1)
    where
      by : (b : Bool) → AllByRecursion P (put_in before x ys)
          → AllByRecursion P (cond b (x ∷ (y ∷ ys)) (y ∷ put_in before x ys))
      by true rest = (h, all)
      by false rest = (all.0, rest)

  pub all_in_order : (before : A → A → Bool) (xs : List A) → AllByRecursion P xs
      → AllByRecursion P (in_order before xs)
  unfolding in_order
  all_in_order before [] all = tt
  all_in_order before (x ∷ xs) all =
      all_put before x (in_order before xs) all.0 (all_in_order before xs all.1)

  all_filter_map : {B : Type 0} (Q : B → Type 0) (f : B → Option A) (ys : List B)
      → ((y : B) → Q y → MatchOption (f y) (Unit {0}) P) → AllByRecursion Q ys
      → AllByRecursion P (filter_map f ys)
  all_filter_map Q f [] h all = tt
  all_filter_map Q f (y ∷ ys) h all = by (f y) (h y all.0) (all_filter_map Q f ys h all.1)
    where
      by : (o : Option A) → MatchOption o (Unit {0}) P → AllByRecursion P (filter_map f ys)
          → AllByRecursion P (cons_option o (filter_map f ys))
      by None g rest = rest
      by (Some x) g rest = (g, rest)

  -- the earliest is one of those that were looked at
  all_fold : (name : A → List ℕ) (o : Option A) (xs : List A) → MatchOption o (Unit {0}) P
      → AllByRecursion P xs → MatchOption (fold (earlier name) o xs) (Unit {0}) P
  all_fold name o [] h all = h
  all_fold name None (x ∷ xs) h all = all_fold name (Some x) xs all.0 all.1
  all_fold name (Some y) (x ∷ xs) h all = by (is_before (name x) (name y))
      (all_fold name (Some x) xs all.0 all.1) (all_fold name (Some y) xs h all.1)
    where
      by : (b : Bool) → MatchOption (fold (earlier name) (Some x) xs) (Unit {0}) P
          → MatchOption (fold (earlier name) (Some y) xs) (Unit {0}) P
          → MatchOption (fold (earlier name) (cond b (Some x) (Some y)) xs) (Unit {0}) P
      by true new old = new
      by false new old = old

  all_first : (name : A → List ℕ) (test : A → Bool) (xs : List A) → AllByRecursion P xs
      → MatchOption (first_where name test xs) (Unit {0}) P
  all_first name test xs all =
      all_fold name None (filter test xs) tt (all_filter test xs all)

  pub from_contains : (xs : List A) → ((x : A) → Contains xs x → P x) → AllByRecursion P xs
  from_contains xs h = recursion_from_All P xs
      (λ k d less. h (get_or xs k d) (Contains-get_or xs k d less))

-- ---- 2. a wait

-- a package whose name is a name, and whose version is a version
pub record IsPackage (b : KeptBinary) : Type 0 where
  pub name : is_name b.head.name ≡ true
  pub version : IsVersion b.head.version b.head.parts

-- a source whose version is a version
abbrev pub IsSourceVersion : KeptSource → Type 0
IsSourceVersion t = IsVersion t.head.version t.head.parts

-- the packages and sources of premises that are readable
pub readable_packages : (words : Words) (p : Premises) → AreReadable words p
    → AllByRecursion IsPackage p.archive.binaries
readable_packages words p y = from_contains IsPackage p.archive.binaries
    (λ b h. record { name = y.binary b h; version = y.binary_version b h })

pub readable_sources : (words : Words) (p : Premises) → AreReadable words p
    → AllByRecursion IsSourceVersion p.archive.sources
readable_sources words p y =
    from_contains IsSourceVersion p.archive.sources (λ s h. y.version s h)

module _ (p : Premises) (sound : AreSound p)
    (packages : AllByRecursion IsPackage p.archive.binaries)
    (sources : AllByRecursion IsSourceVersion p.archive.sources) where
  number_within : (t : KeptSource) (place : ℕ) → arrival_number p t place ≤ 9999
  number_within t place = by (is_due p t place) refl
    where
      row : (o : Option Row) → row_at p t place ≡ o → option_map_or (λ r. r.number) o 0 ≤ 9999
      row None is = omega arith
      row (Some r) is = (sound.of_archive (key_at p t place) r is).limited

      by : (b : Bool) → is_due p t place ≡ b → cond b (number_of p t)
          (option_map_or (λ r. r.number) (row_at p t place) 0) ≤ 9999
      by true is = leb-true (number_of p t) 9999
          (and_parts (has_number p t) (is_ready p t place) is).0
      by false is = row (row_at p t place) refl

  wait_can : (t : KeptSource) (b : KeptBinary) (number : ℕ) (older : Bool) → number ≤ 9999
      → IsSourceVersion t → IsPackage b
      → MatchOption (wait_for t b (arrival_base t b) number older) (Unit {0}) CanBeWritten
  wait_can t b number older small v h = by (is_written (arrival_base t b) number) refl
    where
      read : is_written (arrival_base t b) number ≡ true
          → IsVersion (rebuilt_text (arrival_base t b) number)
          (with_rebuild (arrival_base t b) number)
      read some = elim (cases_Bool (same_version b.head.source_parts t.head.parts)) [
        | inl same ↦ rebuilt_versions_are_read b.head.version b.head.parts (arrival_base t b) number
            small h.version (inr (ap (λ (c : Bool). cond c (base_of b.head.parts) t.head.parts)
            same)) some
        | inr other ↦ rebuilt_versions_are_read t.head.version t.head.parts (arrival_base t b)
            number small v (inl (ap (λ (c : Bool). cond c (base_of b.head.parts) t.head.parts)
            other)) some
      ]

      by : (c : Bool) → is_written (arrival_base t b) number ≡ c
          → MatchOption (cond c (Some (record {
            name = package_name b;
            version = rebuilt_text (arrival_base t b) number;
            parts = with_rebuild (arrival_base t b) number;
            on = t.head.name;
            older = older;
          })) None) (Unit {0}) CanBeWritten
      by true some = record { name = h.name; version = read some }
      by false some = tt

  if_can : (t : KeptSource) (number : ℕ) (older : Bool) (o : Option KeptBinary) → number ≤ 9999
      → IsSourceVersion t → MatchOption o (Unit {0}) IsPackage
      → MatchOption (wait_if t number older o) (Unit {0}) CanBeWritten
  if_can t number older None small v h = tt
  if_can t number older (Some b) small v h = wait_can t b number older small v h

  either_can : (a b : Option KeptBinary) → MatchOption a (Unit {0}) IsPackage
      → MatchOption b (Unit {0}) IsPackage → MatchOption (option_or a b) (Unit {0}) IsPackage
  either_can None b g h = h
  either_can (Some x) b g h = g

  one_can : (s t : KeptSource) (place : ℕ) → IsSourceVersion t
      → MatchOption (wait_of p s place t) (Unit {0}) CanBeWritten
  one_can s t place v = by (present_package p.archive s t place)
      (either_can _ _ (all_first IsPackage package_name _ p.archive.binaries packages)
      (all_first IsPackage package_name _ p.archive.binaries packages))
    where
      by : (o : Option KeptBinary) → MatchOption o (Unit {0}) IsPackage
          → MatchOption (wait_with p s t place o) (Unit {0}) CanBeWritten
      by None h = if_can t (arrival_number p t place) true (own_package p.archive s t place)
          (number_within t place) v
          (all_first IsPackage package_name _ p.archive.binaries packages)
      by (Some b) h = if_can t (arrival_number p t place) false (Some b) (number_within t place) v h

  pub waits_can : (beside : KeptSource → Bool) (s : KeptSource) (place : ℕ)
      → AllByRecursion CanBeWritten (waits_of beside p s place)
  waits_can beside s place =
      all_in_order CanBeWritten is_wait_before
      (filter_map (wait_of p s place) (awaited beside p s place))
      (all_filter_map CanBeWritten IsSourceVersion (wait_of p s place) (awaited beside p s place)
      (λ t v. one_can s t place v)
      (all_filter IsSourceVersion _ (moving_sources p)
      (all_in_order IsSourceVersion is_source_before (filter (moves p) p.archive.sources)
      (all_filter IsSourceVersion (moves p) p.archive.sources sources))))
