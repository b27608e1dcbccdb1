-- The number of a source's due rows is the least that serves.
use Rattle.std.proofs.Common.{◌≡◌, ℕ, ◌+◌, ◌<◌, ◌≤◌, ◌∷◌, [], false, List, Option, None, Some}
use Rattle.std.proofs.Common.{Contains, flat_map, map, max, refl, ap, inl, inr, arith}
use Rattle.std.specs.List.{list_any}
use Rattle.std.proofs.lemmas.Bool.{cases_Bool}
use Rattle.std.proofs.lemmas.List.Elements.{Contains-append_cases}
use Rattle.td_text.specs.Limits.{max_rebuild}
use Rattle.td_version.specs.Splitting.{rebuild_at}
use Rattle.td_version.proofs.Rebuilds.{found_some}
use Rattle.td_rows.specs.declared.row.Row.{Row}
use Rattle.td_indices.specs.Kept.{KeptBinary}
use Rattle.td_indices.specs.Opening.{current_numbers, rebuild_number}
use Rattle.td_indices.specs.Sources.{KeptSource}
use Rattle.td_indices.proofs.OfferLaws.{has_cases, has_first, has_found, has_more}
use Rattle.td_plan.specs.Due.{is_ready, number_of}
use Rattle.td_plan.specs.Numbers.{all_numbers, greatest, number_if, numbers_at, numbers_where}
use Rattle.td_plan.specs.Premises.{AreSound, Premises, key_at, places, row_at}
use Rattle.td_plan.specs.RowLaws.{NumbersAreLeast, NumbersRunOutOverRows}
use Rattle.td_plan.proofs.Existing.{any-some, none-filter, none_has}
use Rattle.td_plan.proofs.Numbering.{above, fold_max, number-is}

-- ---- 1. the greatest of numbers

-- no number is above the greatest
pub below-greatest : (xs : List ℕ) (x : ℕ) → Contains xs x → x ≤ greatest xs
below-greatest [] x has = absurd (none_has x has)
below-greatest (y ∷ ys) x has =
    let whole = fold_max (max 0 y) ys in
    elim (has_cases y ys x has) [
      | inl same ↦ omega arith
      | inr more ↦ (let rest = below-greatest ys x more in omega arith)
    ]

-- the greatest is the least number that none is above
pub greatest-least : (xs : List ℕ) (n : ℕ) → ((x : ℕ) → Contains xs x → x ≤ n) → greatest xs ≤ n
greatest-least [] n all = omega arith
greatest-least (y ∷ ys) n all =
    let whole = fold_max (max 0 y) ys in
    let here = all y (has_first y ys) in
    let rest = greatest-least ys n (λ x has. all x (has_more y ys x has)) in
    omega arith

-- each number is below the greatest of one more than each
below-above : (xs : List ℕ) (x : ℕ) → Contains xs x → x < greatest (above xs)
below-above [] x has = absurd (none_has x has)
below-above (y ∷ ys) x has =
    let whole = fold_max (max 0 (y + 1)) (above ys) in
    elim (has_cases y ys x has) [
      | inl same ↦ omega arith
      | inr more ↦ (let rest = below-above ys x more in omega arith)
    ]

above-least : (xs : List ℕ) (n : ℕ) → ((x : ℕ) → Contains xs x → x < n) → greatest (above xs) ≤ n
above-least [] n all = omega arith
above-least (y ∷ ys) n all =
    let whole = fold_max (max 0 (y + 1)) (above ys) in
    let here = all y (has_first y ys) in
    let rest = above-least ys n (λ x has. all x (has_more y ys x has)) in
    omega arith

-- ---- 2. the number

pub numbers_are_least : NumbersAreLeast
numbers_are_least test p s =
    let is = number-is test p s in
    let all = all_numbers p s in
    let mine = numbers_where test p s in (
      record {
        all = λ m has. omega (arith, is, below-greatest all m has);
        rebuilt = λ m has. omega (arith, is, below-above mine m has);
      },
      λ n serves. omega (
        arith,
        is,
        greatest-least all n serves.all,
        above-least mine n serves.rebuilt,
      ),
    )

-- ---- 3. numbers that run out

rebuild-within : (text : List ℕ) → rebuild_number text ≤ max_rebuild
rebuild-within text = by (rebuild_at text) refl
  where
    by : (o : Option (List ℕ × ℕ)) → rebuild_at text ≡ o → rebuild_number text ≤ max_rebuild
    by None e = rw e (omega arith)
    by (Some found) e =
        let is = found_some text found.0 found.1 e in
        rw e is.bounded

mapped-within : (bs : List KeptBinary) (m : ℕ)
    → Contains (map (λ b. rebuild_number b.head.version) bs) m → m ≤ max_rebuild
mapped-within [] m has = absurd (none_has m has)
mapped-within (b ∷ bs) m has =
    elim (has_cases (rebuild_number b.head.version) (map (λ x. rebuild_number x.head.version) bs) m
    has) [
      | inl same ↦ omega (arith, same, rebuild-within b.head.version)
      | inr more ↦ mapped-within bs m more
    ]

row-within : (o : Option Row) → ((row : Row) → o ≡ Some row → row.number ≤ max_rebuild) → (m : ℕ)
    → Contains (number_if o) m → m ≤ max_rebuild
row-within None limited m has = absurd (none_has m has)
row-within (Some row) limited m has =
    elim (has_cases row.number [] m has) [
      | inl same ↦ omega (arith, same, limited row refl)
      | inr more ↦ absurd (none_has m more)
    ]

module _ (p : Premises) (s : KeptSource) (sound : AreSound p) where
  all-within : (m : ℕ) → Contains (all_numbers p s) m → m ≤ max_rebuild
  all-within m has =
      let found = has_found (numbers_at p s) (places p) m has in
      let place = found.0 in
      elim (Contains-append_cases (number_if (row_at p s place)) (current_numbers p.archive s place)
      m found.2) [
        | inl own ↦ row-within (row_at p s place)
            (λ row at. (sound.of_archive (key_at p s place) row at).limited) m own
        | inr other ↦ mapped-within _ m other
      ]

  none-left : list_any (is_ready p s) (places p) ≡ false → number_of p s ≤ max_rebuild
  none-left none =
      let is = number-is (is_ready p s) p s in
      let empty : numbers_where (is_ready p s) p s ≡ [] =
      ap (flat_map (numbers_at p s)) (none-filter (is_ready p s) (places p) none) in
      let nothing : greatest (above (numbers_where (is_ready p s) p s)) ≡ 0 =
      ap (λ (xs : List ℕ). greatest (above xs)) empty in
      omega (
        arith,
        is,
        nothing,
        greatest-least (all_numbers p s) max_rebuild all-within,
      )

pub numbers_run_out : NumbersRunOutOverRows
numbers_run_out p s sound beyond =
    elim (cases_Bool (list_any (is_ready p s) (places p))) [
      | inl some ↦ any-some (is_ready p s) (places p) some
      | inr none ↦ absurd (let few = none-left p s sound none in omega arith)
    ]
