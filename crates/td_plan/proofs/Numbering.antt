-- The number of a rebuild, place by place.
use Rattle.std.proofs.Common.{◌≡◌, ℕ, suc, ◌+◌, ◌<◌, ◌≤◌, ◌++◌, ◌∷◌, [], Bool, true, false}
use Rattle.std.proofs.Common.{List, Option, None, Some, filter, flat_map, fold, map, max, ltb}
use Rattle.std.proofs.Common.{option_map, refl, sym, ap, ◌∙◌, inl, inr, arith, if◌then◌else◌}
use Rattle.std.proofs.Common.{length}
use Rattle.std.specs.List.{list_all, range_with_len}
use Rattle.std.specs.Option.{option_map_or}
use Rattle.std.proofs.lemmas.Bool.{cases_Bool, and_parts, ltb-true, ltb-false}
use Rattle.std.proofs.lemmas.List.{map-append}
use Rattle.std.proofs.lemmas.List.Concat.{flat_map-append}
use Rattle.td_text.proofs.Anywhere.{range-more}
use Rattle.td_rows.specs.declared.row.Row.{Row}
use Rattle.td_indices.specs.Opening.{greater}
use Rattle.td_indices.specs.Sources.{KeptSource}
use Rattle.td_plan.specs.Numbers.{all_numbers, greatest, number_if, number_over, numbers_at}
use Rattle.td_plan.specs.Numbers.{numbers_where}
use Rattle.td_plan.specs.Premises.{Premises, places}
use Rattle.td_plan.proofs.Picking.{filter-below}

-- ---- 1. the greatest of numbers

pub fold_max : (a : ℕ) (xs : List ℕ) → fold max a xs ≡ max a (greatest xs)
fold_max a [] = omega arith
fold_max a (x ∷ xs) = omega (arith, fold_max (max a x) xs, fold_max (max 0 x) xs)

pub greatest-append : (xs ys : List ℕ) → greatest (xs ++ ys) ≡ max (greatest xs) (greatest ys)
greatest-append [] ys = omega arith
greatest-append (x ∷ xs) ys =
    omega (arith, fold_max (max 0 x) (xs ++ ys), fold_max (max 0 x) xs, greatest-append xs ys)

-- one more than each of some numbers
abbrev pub above : List ℕ → List ℕ
above xs = map (λ n. n + 1) xs

pub greatest-above : (xs : List ℕ) → (greatest xs ≤ greatest (above xs))
    × (greatest (above xs) ≤ greatest xs + 1)
greatest-above [] = (omega arith, omega arith)
greatest-above (x ∷ xs) =
    let so = greatest-above xs in (
      omega (arith, fold_max (max 0 x) xs, fold_max (max 0 (x + 1)) (above xs), so.0, so.1),
      omega (arith, fold_max (max 0 x) xs, fold_max (max 0 (x + 1)) (above xs), so.0, so.1),
    )

map-same : (xs : List ℕ) → map (λ n. n) xs ≡ xs
map-same [] = refl
map-same (x ∷ xs) = ap (λ (l : List ℕ). x ∷ l) (map-same xs)

-- ---- 2. all below a number

below-all : (m : ℕ) (xs : List ℕ) → list_all (λ n. ltb n m) xs ≡ true → greatest (above xs) ≤ m
below-all m [] h = omega arith
below-all m (x ∷ xs) h =
    let both = and_parts (ltb x m) (list_all (λ n. ltb n m) xs) h in
    omega (arith, fold_max (max 0 (x + 1)) (above xs), ltb-true x m both.0, below-all m xs both.1)

not-all : (m : ℕ) (xs : List ℕ) → list_all (λ n. ltb n m) xs ≡ false → m < greatest (above xs)
not-all m [] h = absurd (let bad : true ≡ false = h in cc)
not-all m (x ∷ xs) h =
    elim (cases_Bool (ltb x m)) [
      | inl is ↦
          let rest : list_all (λ n. ltb n m) xs ≡ false = rw is at h in
          omega (arith, fold_max (max 0 (x + 1)) (above xs), not-all m xs rest)
      | inr other ↦ omega (arith, fold_max (max 0 (x + 1)) (above xs), ltb-false x m other)
    ]

-- a number, or one more if some of these isn't below it
over-is : (m : ℕ) (xs : List ℕ) → greatest (above xs) ≤ m + 1
    → (if list_all (λ n. ltb n m) xs then m else m + 1) ≡ max m (greatest (above xs))
over-is m xs few =
    elim (cases_Bool (list_all (λ n. ltb n m) xs)) [
      | inl is ↦
          let low = below-all m xs is in
          let it : m ≡ max m (greatest (above xs)) = omega arith in
          rw is it
      | inr other ↦
          let high = not-all m xs other in
          let it : m + 1 ≡ max m (greatest (above xs)) = omega arith in
          rw other it
    ]

-- ---- 3. at one place

-- a number, or one more if the row is rebuilt
abbrev pub raised : Bool → ℕ → ℕ
raised rebuilt n = if rebuilt then n + 1 else n

raised-max : (rebuilt : Bool) (m x : ℕ)
    → raised rebuilt (max m x) ≡ max (raised rebuilt m) (raised rebuilt x)
raised-max true m x = omega arith
raised-max false m x = refl

pub raised-greatest : (rebuilt : Bool) (o : Option ℕ) (xs : List ℕ)
    → option_map_or (raised rebuilt) (fold greater o xs) 0
    ≡ fold max (option_map_or (raised rebuilt) o 0) (map (raised rebuilt) xs)
raised-greatest rebuilt o [] = refl
raised-greatest rebuilt None (x ∷ xs) =
    let it : raised rebuilt x ≡ max 0 (raised rebuilt x) = omega arith in
    raised-greatest rebuilt (Some x) xs
    ∙ ap (λ (m : ℕ). fold max m (map (raised rebuilt) xs)) it
raised-greatest rebuilt (Some m) (x ∷ xs) =
    raised-greatest rebuilt (Some (max m x)) xs
    ∙ ap (λ (k : ℕ). fold max k (map (raised rebuilt) xs)) (raised-max rebuilt m x)

-- the greatest of a row's number and of others
pub greatest-row : (o : Option Row) (ns : List ℕ)
    → fold greater (option_map (λ r. r.number) o) ns ≡ fold greater None (number_if o ++ ns)
greatest-row None ns = refl
greatest-row (Some row) ns = refl

-- ---- 4. over places

-- numbers that are raised, before others
with-raised : (xs ys zs : List ℕ) (m : ℕ) → max (greatest ys) (greatest (above zs)) ≡ m
    → max (greatest (xs ++ ys)) (greatest (above (xs ++ zs))) ≡ max (greatest (above xs)) m
with-raised xs ys zs m rest =
    let all = greatest-append xs ys in
    let more : greatest (above (xs ++ zs)) ≡ max (greatest (above xs)) (greatest (above zs)) =
    ap greatest (map-append (λ n. n + 1) xs zs) ∙ greatest-append (above xs) (above zs) in
    let own = greatest-above xs in
    omega (arith, rest, all, more, own.0)

-- numbers that aren't raised, before others
with-others : (xs ys : List ℕ) (k m : ℕ) → max (greatest ys) k ≡ m
    → max (greatest (xs ++ ys)) k ≡ max (greatest xs) m
with-others xs ys k m rest =
    let all = greatest-append xs ys in
    omega (arith, rest, all)

module _ (test : ℕ → Bool) (f : ℕ → List ℕ) where
  -- the greatest at places, of numbers that are raised at those where the test passes
  abbrev pub least_over : List ℕ → ℕ
  least_over ps = greatest (flat_map (λ q. map (raised (test q)) (f q)) ps)

  part-below : (ps : List ℕ) → greatest (flat_map f (filter test ps)) ≤ greatest (flat_map f ps)
  part-below [] = omega arith
  part-below (q ∷ ps) =
      let rest = part-below ps in
      let whole = greatest-append (f q) (flat_map f ps) in
      let less = greatest-append (f q) (flat_map f (filter test ps)) in
      elim (cases_Bool (test q)) [
        | inl is ↦ rw is (omega arith)
        | inr other ↦ rw other (omega arith)
      ]

  -- the greatest of all, and of one more than each at the places where the test passes
  joined : (ps : List ℕ)
      → max (greatest (flat_map f ps)) (greatest (above (flat_map f (filter test ps))))
      ≡ least_over ps
  joined [] = refl
  joined (q ∷ ps) =
      let rest = joined ps in
      let whole = λ (l : List ℕ). max (greatest (f q ++ flat_map f ps))
      (greatest (above (flat_map f l))) in
      let made : max (greatest (map (raised (test q)) (f q))) (least_over ps)
      ≡ least_over (q ∷ ps) = sym (greatest-append (map (raised (test q)) (f q))
      (flat_map (λ k. map (raised (test k)) (f k)) ps)) in
      elim (cases_Bool (test q)) [
        | inl is ↦
            let passed : filter test (q ∷ ps) ≡ q ∷ filter test ps = rw is refl in
            let own : map (raised (test q)) (f q) ≡ above (f q) =
            ap (λ (b : Bool). map (raised b) (f q)) is in
            ap whole passed
            ∙ with-raised (f q) (flat_map f ps) (flat_map f (filter test ps)) (least_over ps) rest
            ∙ ap (λ (l : List ℕ). max (greatest l) (least_over ps)) (sym own) ∙ made
        | inr other ↦
            let failed : filter test (q ∷ ps) ≡ filter test ps = rw other refl in
            let own : map (raised (test q)) (f q) ≡ f q =
            ap (λ (b : Bool). map (raised b) (f q)) other ∙ map-same (f q) in
            ap whole failed
            ∙ with-others (f q) (flat_map f ps)
            (greatest (above (flat_map f (filter test ps)))) (least_over ps) rest
            ∙ ap (λ (l : List ℕ). max (greatest l) (least_over ps)) (sym own) ∙ made
      ]

  pub over-top : (ps : List ℕ)
      → (let top = greatest (flat_map f ps) in
      if list_all (λ n. ltb n top) (flat_map f (filter test ps)) then top else top + 1)
      ≡ max (greatest (flat_map f ps)) (greatest (above (flat_map f (filter test ps))))
  over-top ps =
      let more = greatest-above (flat_map f (filter test ps)) in
      over-is (greatest (flat_map f ps)) (flat_map f (filter test ps))
      (omega (arith, part-below ps, more.1))

  pub over-places : (ps : List ℕ)
      → (let top = greatest (flat_map f ps) in
      if list_all (λ n. ltb n top) (flat_map f (filter test ps)) then top else top + 1)
      ≡ least_over ps
  over-places ps = over-top ps ∙ joined ps

  -- the greatest at the places so far, with one place more
  pub least-more : (n : ℕ) → least_over (range_with_len 0 (n + 1))
      ≡ max (least_over (range_with_len 0 n)) (greatest (map (raised (test n)) (f n)))
  least-more n =
      let g = λ (q : ℕ). map (raised (test q)) (f q) in
      let one : n + 1 ≡ suc n = omega arith in
      let it : 0 + n ≡ n = omega arith in
      let last : flat_map g (n ∷ []) ≡ g n ++ [] = refl in
      ap (λ (k : ℕ). least_over (range_with_len 0 k)) one
      ∙ ap least_over (range-more 0 n ∙ ap (λ (k : ℕ). range_with_len 0 n ++ k ∷ []) it)
      ∙ ap greatest (flat_map-append g (range_with_len 0 n) (n ∷ []))
      ∙ greatest-append (flat_map g (range_with_len 0 n)) (g n ++ [])
      ∙ ap (λ (k : ℕ). max (least_over (range_with_len 0 n)) k)
      (greatest-append (g n) [] ∙ omega arith)

-- ---- 5. the number of a source

pub number-places : (test : ℕ → Bool) (p : Premises) (s : KeptSource)
    → number_over test p s ≡ least_over test (numbers_at p s) (places p)
number-places test p s = over-places test (numbers_at p s) (places p)

-- the number is the greatest of all, and of one more than each on the architectures that pass
pub number-is : (test : ℕ → Bool) (p : Premises) (s : KeptSource) → number_over test p s
    ≡ max (greatest (all_numbers p s)) (greatest (above (numbers_where test p s)))
number-is test p s = over-top test (numbers_at p s) (places p)

-- tests that agree at the places of the table have one number
pub number-same : (f g : ℕ → Bool) (p : Premises) (s : KeptSource)
    → ((k : ℕ) → k < length p.archive.table → f k ≡ g k) → number_over f p s ≡ number_over g p s
number-same f g p s same =
    ap (λ (ps : List ℕ). let top = greatest (all_numbers p s) in
    if list_all (λ n. ltb n top) (flat_map (numbers_at p s) ps) then top else top + 1)
    (filter-below f g (length p.archive.table) same)
