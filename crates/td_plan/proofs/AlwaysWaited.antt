-- For a source whose row is due, a row can always be told to wait.
use Rattle.std.proofs.Common.{◌≡◌, ℕ, ◌+◌, ◌<◌, ◌&&◌, Bool, true, false, List, [], ◌∷◌, ◌++◌}
use Rattle.std.proofs.Common.{length, nat_lt, Option, Some, None, refl, sym, ap, subst, ◌∙◌, inl}
use Rattle.std.proofs.Common.{inr}
use Rattle.std.proofs.Common.{arith}
use Rattle.std.specs.Prelude.{filter, fold, is_none, is_some}
use Rattle.std.specs.List.{Contains, list_all}
use Rattle.std.specs.Option.{option_map_or, option_or}
use Rattle.std.proofs.lemmas.Bool.{and_parts, cases_Bool, cond-false, cond-true, lt-ltb, ltb-true}
use Rattle.std.proofs.lemmas.Bool.{or_left}
use Rattle.std.proofs.lemmas.List.Elements.{Contains-append_left}
use Rattle.td_rows.specs.declared.row.Row.{Row}
use Rattle.td_rows.specs.States.{is_installed}
use Rattle.td_version.specs.Version.{Parts}
use Rattle.td_indices.specs.Kept.{KeptBinary}
use Rattle.td_indices.specs.Opening.{current_numbers}
use Rattle.td_indices.specs.Sources.{KeptSource}
use Rattle.td_indices.proofs.OfferLaws.{has_again, has_cases, has_first}
use Rattle.td_plan.specs.BuildsThere.{asks_active, names_offer}
use Rattle.td_plan.specs.Due.{arrival_number, has_number, is_due, is_present, is_ready, is_wanted}
use Rattle.td_plan.specs.Due.{number_of}
use Rattle.td_plan.specs.InOrder.{earlier, first_where, is_before}
use Rattle.td_plan.specs.Numbers.{all_numbers, greatest, number_if, number_over, numbers_at}
use Rattle.td_plan.specs.Numbers.{numbers_where}
use Rattle.td_plan.specs.Packages.{arrival_base, is_written, package_name, present_package}
use Rattle.td_plan.specs.Packages.{rebuilt_text}
use Rattle.td_plan.specs.Premises.{Premises, is_bad, places, row_at}
use Rattle.td_plan.specs.WaitLaws.{DueRowsAreWaitedFor}
use Rattle.td_plan.specs.Waits.{Wait, wait_for, wait_with}
use Rattle.td_supply.specs.Supplied.{with_rebuild}
use Rattle.td_plan.proofs.Chosen.{any-found, filter-again}
use Rattle.td_plan.proofs.ToldOnce.{place-among}

-- ---- the first of some is there

earlier-some : {A : Type 0} (name : A → List ℕ) (best : Option A) (x : A)
    → is_some (earlier name best x) ≡ true
earlier-some name None x = refl
earlier-some name (Some y) x = elim (cases_Bool (is_before (name x) (name y))) [
  | inl is ↦ rw is refl
  | inr other ↦ rw other refl
]

fold-some : {A : Type 0} (name : A → List ℕ) (best : Option A) (xs : List A)
    → is_some best ≡ true → is_some (fold (earlier name) best xs) ≡ true
fold-some name best [] h = h
fold-some name best (x ∷ xs) h =
    fold-some name (earlier name best x) xs (earlier-some name best x)

pub first-some : {A : Type 0} (name : A → List ℕ) (xs : List A) (x : A) → Contains xs x
    → is_some (fold (earlier name) None xs) ≡ true
first-some name [] x h = let low = h.1 in absurd (omega arith)
first-some name (y ∷ ys) x h = fold-some name (Some y) ys refl

some-or : {A : Type 0} (o q : Option A) → is_some q ≡ true → is_some (option_or o q) ≡ true
some-or None q h = h
some-or (Some x) q h = refl

-- ---- a due row has a number above 0

pub all-at : {A : Type 0} (test : A → Bool) (xs : List A) (x : A) → list_all test xs ≡ true
    → Contains xs x → test x ≡ true
all-at test [] x h has = let low = has.1 in absurd (omega arith)
all-at test (y ∷ ys) x h has =
    let both = and_parts (test y) (list_all test ys) h in
    elim (has_cases y ys x has) [
      | inl same ↦ ap test (sym same) ∙ both.0
      | inr more ↦ all-at test ys x both.1 more
    ]

pub row-number : (o : Option Row) (row : Row) (rest : List ℕ) → o ≡ Some row
    → Contains (number_if o ++ rest) row.number
row-number o row rest e =
    subst (λ (l : List ℕ). Contains (l ++ rest) row.number) (sym (ap number_if e))
    (Contains-append_left (row.number ∷ []) rest row.number (has_first row.number []))

number-above : (test : ℕ → Bool) (p : Premises) (s : KeptSource) (place : ℕ) (row : Row)
    → place < length p.archive.table → test place ≡ true → row_at p s place ≡ Some row
    → 0 < number_over test p s
number-above test p s place row low passes at =
    let top = greatest (all_numbers p s) in
    let below = list_all (λ (n : ℕ). nat_lt n top) (numbers_where test p s) in
    let has : Contains (numbers_where test p s) row.number =
    has_again (numbers_at p s) (filter test (places p)) place row.number
    (filter-again test (places p) place (place-among (length p.archive.table) place low) passes)
    (row-number (row_at p s place) row (current_numbers p.archive s place) at) in
    elim (cases_Bool below) [
      | inl is ↦
          let lt = ltb-true row.number top
          (all-at (λ (n : ℕ). nat_lt n top) (numbers_where test p s) row.number is has) in
          let same : number_over test p s ≡ top = cond-true below top (top + 1) is in
          omega arith
      | inr other ↦
          let same : number_over test p s ≡ top + 1 = cond-false below top (top + 1) other in
          omega arith
    ]

row-there : (test : Row → Bool) (o : Option Row) → option_map_or test o false ≡ true
    → (row : Row) × (o ≡ Some row)
row-there test None h = absurd (let bad : false ≡ true = h in cc)
row-there test (Some row) h = (row, refl)

due-above : (p : Premises) (t : KeptSource) (place : ℕ) → place < length p.archive.table
    → is_due p t place ≡ true → 0 < number_of p t
due-above p t place low due =
    let ready = (and_parts (has_number p t) (is_ready p t place) due).1 in
    let rest = (and_parts _ _ (and_parts (is_wanted p t place) _ ready).1) in
    let row = row-there (λ (r : Row). is_installed r.state) (row_at p t place) rest.0 in
    number-above (is_ready p t) p t place row.0 low ready row.1

-- ---- the wait

written-some : (t : KeptSource) (b : KeptBinary) (base : Parts) (number : ℕ) → 0 < number
    → is_none (wait_for t b base number false) ≡ false
written-some t b base number low =
    let it : Wait = record {
      name = package_name b;
      version = rebuilt_text base number;
      parts = with_rebuild base number;
      on = t.head.name;
      older = false;
    } in
    ap is_none (cond-true (is_written base number) (Some it) None
    (or_left _ _ (lt-ltb 0 number low)))

told : (p : Premises) (s t : KeptSource) (place : ℕ) → 0 < arrival_number p t place
    → (o : Option KeptBinary) → is_some o ≡ true → is_none (wait_with p s t place o) ≡ false
told p s t place low None h = absurd (let bad : false ≡ true = h in cc)
told p s t place low (Some b) h =
    written-some t b (arrival_base t b) (arrival_number p t place) low

pub present-some : (p : Premises) (s t : KeptSource) (place : ℕ) → is_due p t place ≡ true
    → is_some (present_package p.archive s t place) ≡ true
present-some p s t place due =
    let ready = (and_parts (has_number p t) (is_ready p t place) due).1 in
    let rest = (and_parts _ _ (and_parts (is_wanted p t place) _ ready).1) in
    let b = any-found (λ (c : KeptBinary). is_present t place c && is_bad p c) p.archive.binaries
    rest.1 in
    some-or (first_where package_name (λ (c : KeptBinary). is_present t place c
    && asks_active p.archive s place (names_offer c)) p.archive.binaries)
    (first_where package_name (is_present t place) p.archive.binaries)
    (first-some package_name (filter (is_present t place) p.archive.binaries) b.0
    (filter-again (is_present t place) p.archive.binaries b.0 b.1
    (and_parts (is_present t place b.0) (is_bad p b.0) b.2).0))

pub due_rows_are_waited_for : DueRowsAreWaitedFor
due_rows_are_waited_for p x s t place planned has due waitless =
    let number : arrival_number p t place ≡ number_of p t =
    cond-true (is_due p t place) (number_of p t) _ due in
    let above = due-above p t place planned.there due in
    let low : 0 < arrival_number p t place = omega arith in
    let none = told p s t place low (present_package p.archive s t place)
    (present-some p s t place due) in
    let bad : false ≡ true = sym none ∙ waitless in cc
