-- The number of a source with a due row is one, and within the limit.
use Rattle.std.proofs.Common.{◌≡◌, ◌<◌, ◌≤◌, ◌+◌, ℕ, Bool, true, false, cond, ltb, ◌&&◌, ◌||◌}
use Rattle.std.proofs.Common.{List}
use Rattle.std.proofs.Common.{[], ◌∷◌, ◌++◌, Option, Some, None, refl, sym, ap, ◌∙◌, arith}
use Rattle.std.specs.Prelude.{filter}
use Rattle.std.specs.List.{flat_map, list_all, list_any}
use Rattle.std.specs.Option.{option_map_or}
use Rattle.std.proofs.lemmas.Bool.{and_parts, leb-true, ltb-true}
use Rattle.std.proofs.lemmas.List.Folds.{list_all-append}
use Rattle.td_rows.specs.declared.row.Row.{Row}
use Rattle.td_rows.specs.States.{is_installed}
use Rattle.td_indices.specs.Opening.{current_numbers}
use Rattle.td_indices.specs.Sources.{KeptSource}
use Rattle.td_plan.specs.Due.{has_due, has_number, is_due, is_ready, is_wanted, number_of}
use Rattle.td_plan.specs.Numbers.{all_numbers, greatest, number_if, numbers_at, numbers_where}
use Rattle.td_plan.specs.Premises.{Premises, has_row_that, places, row_at}

-- a list of numbers that has a first one
record BeginsWith (numbers : List ℕ) : Type 0 where
  number : ℕ
  more : List ℕ
  is : numbers ≡ number ∷ more

-- if each number is below a bound, and there is one, the bound isn't 0
below_some : (due ready : ℕ → Bool) (at : ℕ → List ℕ) (top : ℕ)
    → ((i : ℕ) → due i ≡ true → (ready i ≡ true) × BeginsWith (at i)) → (xs : List ℕ)
    → list_any due xs ≡ true
    → list_all (λ n. ltb n top) (flat_map at (filter ready xs)) ≡ true → 0 < top
below_some due ready at top so [] some all = absurd cc
below_some due ready at top so (i ∷ xs) some all =
    by (due i) refl some (λ g h. below_some due ready at top so xs g h)
  where
    first : (b : Bool) → b ≡ true → BeginsWith (at i)
        → list_all (λ n. ltb n top)
        (flat_map at (cond b (i ∷ filter ready xs) (filter ready xs))) ≡ true → 0 < top
    first false e g h = absurd cc
    first true e g h =
        let a = and_parts (list_all (λ n. ltb n top) (at i))
        (list_all (λ n. ltb n top) (flat_map at (filter ready xs)))
        (sym (list_all-append (λ n. ltb n top) (at i) (flat_map at (filter ready xs))) ∙ h) in
        let d = and_parts (ltb g.number top) (list_all (λ n. ltb n top) g.more)
        (ap (list_all (λ n. ltb n top)) (sym g.is) ∙ a.0) in
        let less = ltb-true g.number top d.0 in
        omega arith

    rest : (b : Bool) → list_all (λ n. ltb n top)
        (flat_map at (cond b (i ∷ filter ready xs) (filter ready xs))) ≡ true
        → list_all (λ n. ltb n top) (flat_map at (filter ready xs)) ≡ true
    rest false h = h
    rest true h = (and_parts (list_all (λ n. ltb n top) (at i))
        (list_all (λ n. ltb n top) (flat_map at (filter ready xs)))
        (sym (list_all-append (λ n. ltb n top) (at i) (flat_map at (filter ready xs))) ∙ h)).1

    by : (b : Bool) → due i ≡ b → (b || list_any due xs) ≡ true
        → (list_any due xs ≡ true
        → list_all (λ n. ltb n top) (flat_map at (filter ready xs)) ≡ true → 0 < top) → 0 < top
    by true is g later = let d = so i is in first (ready i) d.0 d.1 all
    by false is g later = later g (rest (ready i) all)

row_numbers : (p : Premises) (s : KeptSource) (place : ℕ) (o : Option Row)
    → option_map_or (λ (r : Row). is_installed r.state) o false ≡ true
    → BeginsWith (number_if o ++ current_numbers p.archive s place)
row_numbers p s place None h = absurd cc
row_numbers p s place (Some row) h =
    record { number = row.number; more = current_numbers p.archive s place; is = refl }

ready_so : (p : Premises) (s : KeptSource) (place : ℕ) → is_due p s place ≡ true
    → (is_ready p s place ≡ true) × BeginsWith (numbers_at p s place)
ready_so p s place h =
    let a = and_parts (has_number p s) (is_ready p s place) h in
    let b = and_parts (is_wanted p s place) _ a.1 in
    let d = and_parts (has_row_that (λ r. is_installed r.state) p s place) _ b.1 in
    (a.1, row_numbers p s place (row_at p s place) d.0)

pub number_some : (p : Premises) (s : KeptSource) → has_due p s ≡ true → 0 < number_of p s
number_some p s h =
    by (list_all (λ n. ltb n top) (numbers_where (is_ready p s) p s)) refl
  where
    top : ℕ
    top = greatest (all_numbers p s)

    by : (b : Bool)
        → list_all (λ n. ltb n (greatest (all_numbers p s))) (numbers_where (is_ready p s) p s) ≡ b
        → 0 < cond b (greatest (all_numbers p s)) (greatest (all_numbers p s) + 1)
    by true is = below_some (is_due p s) (is_ready p s) (numbers_at p s)
        (greatest (all_numbers p s)) (ready_so p s) (places p) h is
    by false is = omega arith

-- some thing passes, so the whole of a test that is a part of it holds
some_part : (a : Bool) (b : ℕ → Bool) (xs : List ℕ) → list_any (λ i. a && b i) xs ≡ true
    → a ≡ true
some_part true b xs h = refl
some_part false b [] h = h
some_part false b (x ∷ xs) h = some_part false b xs h

pub number_within : (p : Premises) (s : KeptSource) → has_due p s ≡ true → number_of p s ≤ 9999
number_within p s h =
    leb-true (number_of p s) 9999 (some_part (has_number p s) (is_ready p s) (places p) h)
