-- The lines of steps by the numbers of the affected sources are those of the sources.
use Rattle.std.proofs.Common.{◌≡◌, ℕ, suc, ◌+◌, ◌<◌, ◌==◌, ◌&&◌, Bool, true, false}
use Rattle.std.proofs.Common.{cond, get_or, List, [], ◌∷◌, ◌++◌, length, map, Option, Some, refl}
use Rattle.std.proofs.Common.{sym, ap}
use Rattle.std.proofs.Common.{subst, ◌∙◌, arith}
use Rattle.std.specs.Prelude.{filter, option_map, slice_get, slice_index}
use Rattle.std.specs.List.{Contains, cons_option, flat_map, range_with_len}
use Rattle.std.specs.Option.{option_map_or}
use Rattle.std.specs.Str.{bytes_eq}
use Rattle.std.proofs.lemmas.Bool.{and_parts, eqb-true}
use Rattle.std.proofs.lemmas.Option.{get_or_from_slice_get, slice_get_within}
use Rattle.std.proofs.lemmas.List.Elements.{Contains-get_or}
use Rattle.td_text.specs.Lines.{text_of}
use Rattle.td_text.proofs.SameTexts.{bytes_eq-swap}
use Rattle.td_indices.specs.Sources.{KeptSource}
use Rattle.td_indices.proofs.OfferLaws.{has_first, has_more}
use Rattle.td_query.specs.Tracking.{Tracking}
use Rattle.td_plan.specs.declared.movers.Mover.{Mover}
use Rattle.td_plan.specs.declared.parts.Parts.{Parts}
use Rattle.td_plan.specs.declared.steps.Steps.{Steps}
use Rattle.td_plan.specs.Placing.{Placing}
use Rattle.td_plan.specs.Plan.{is_beside, part_among}
use Rattle.td_plan.specs.Steps.{IsBySteps, affected_sources, begins_part, step_lines, step_words}
use Rattle.td_plan.specs.inner.Movers.{IsAffectedMover, has_moving_motion, mover_name}
use Rattle.td_plan.specs.inner.Ordering.{members_at}
use Rattle.td_plan.specs.inner.Planned.{name_at, placing_of, sources_at}
use Rattle.td_plan.specs.inner.Stepping.{IsStepsOf, firsts_on, is_first_on}
use Rattle.td_plan.specs.inner.Waiters.{kept_of}
use Rattle.td_plan.proofs.AffectedSources.{affected-are}
use Rattle.td_plan.proofs.Chosen.{map-found}
use Rattle.td_plan.proofs.Existing.{has-filter}
use Rattle.td_plan.proofs.PartSources.{chosen-are, sources-length}
use Rattle.td_plan.proofs.Picked.{has-numbered}
use Rattle.td_plan.proofs.Planned.{number-of-name, one-name}
use Rattle.td_plan.proofs.ToldOnce.{place-within}
use Rattle.td_plan.proofs.Waiters.{at-below}

-- ---- 1. sources by their numbers

-- the sources with the numbers that pass a test
module _ (all : List Mover) (keep : KeptSource → Bool) (chosen : ℕ → Bool) where
  pub numbered-are : (ns : List Mover) (n : ℕ)
      → ((k : ℕ) (m : Mover) → slice_get ns k ≡ Some m → slice_get all (n + k) ≡ Some m)
      → ((k : ℕ) (m : Mover) → slice_get ns k ≡ Some m → keep (kept_of m) ≡ chosen (n + k))
      → sources_at all (filter chosen (range_with_len n (length ns)))
      ≡ filter keep (map kept_of ns)
  numbered-are [] n there are = refl
  numbered-are (m ∷ ns) n there are =
      let here : slice_get all n ≡ Some m = ap (slice_get all) (omega arith) ∙ there 0 m refl in
      let is : keep (kept_of m) ≡ chosen n = are 0 m refl ∙ ap chosen (omega arith) in
      by (chosen n) is here
      (numbered-are ns (n + 1) (λ k t at. ap (slice_get all) (omega arith) ∙ there (suc k) t at)
      (λ k t at. are (suc k) t at ∙ ap chosen (omega arith)))
    where
      by : (b : Bool) → keep (kept_of m) ≡ b → slice_get all n ≡ Some m
          → sources_at all (filter chosen (range_with_len (n + 1) (length ns)))
          ≡ filter keep (map kept_of ns)
          → sources_at all (cond b (n ∷ filter chosen (range_with_len (n + 1) (length ns)))
          (filter chosen (range_with_len (n + 1) (length ns))))
          ≡ filter keep (kept_of m ∷ map kept_of ns)
      by true is here rest =
          ap (λ (o : Option Mover). cons_option (option_map kept_of o)
          (sources_at all (filter chosen (range_with_len (n + 1) (length ns))))) here
          ∙ ap (λ (l : List KeptSource). kept_of m ∷ l) rest
          ∙ sym (ap (λ (b : Bool). cond b (kept_of m ∷ filter keep (map kept_of ns))
          (filter keep (map kept_of ns))) is)
      by false is here rest =
          rest ∙ sym (ap (λ (b : Bool). cond b (kept_of m ∷ filter keep (map kept_of ns))
          (filter keep (map kept_of ns))) is)

-- all pass
pub filter-all : {A : Type 0} (test : A → Bool) (xs : List A)
    → ((x : A) → Contains xs x → test x ≡ true) → filter test xs ≡ xs
filter-all test [] all = refl
filter-all {A} test (x ∷ xs) all =
    ap (λ (b : Bool). cond b (x ∷ filter test xs) (filter test xs)) (all x (has_first x xs))
    ∙ ap (λ (l : List A). x ∷ l) (filter-all test xs (λ y has. all y (has_more x xs y has)))

-- what is made of sources, by their numbers
pub flat-at : (ms : List Mover) (made : KeptSource → List (List ℕ)) (by : ℕ → List (List ℕ))
    (ns : List ℕ) → ((n : ℕ) → Contains ns n → (m : Mover) × (slice_get ms n ≡ Some m)
    × (made (kept_of m) ≡ by n)) → flat_map made (sources_at ms ns) ≡ flat_map by ns
flat-at ms made by [] same = refl
flat-at ms made by (n ∷ ns) same =
    let m = same n (has_first n ns) in
    ap (λ (o : Option Mover). flat_map made (cons_option (option_map kept_of o)
    (sources_at ms ns))) m.1
    ∙ ap (λ (l : List (List ℕ)). l ++ flat_map made (sources_at ms ns)) m.2
    ∙ ap (λ (l : List (List ℕ)). by n ++ l)
    (flat-at ms made by ns (λ k has. same k (has_more n ns k has)))

-- ---- 2. steps

-- the lines of a step by the parts of the sources
abbrev pub numbered_lines : (List KeptSource → List (List ℕ)) → List Mover → Parts → ℕ
    → List (List ℕ)
numbered_lines lines ms parts step = cond (length (firsts_on parts step) == 0) []
    (step_words step ∷ flat_map (λ first. lines (sources_at ms
    (members_at parts.firsts.items first))) (firsts_on parts step))

module _ (t : Tracking) (steps : Steps) (is : IsStepsOf t steps) where
  abbrev ms : List Mover
  ms = steps.movers.items

  abbrev parts : Parts
  parts = steps.parts

  abbrev x : Placing
  x = placing_of ms parts

  abbrev Is : Mover → Type 0
  Is = IsAffectedMover steps.archive.now t

  number : (k : ℕ) (m : Mover) → slice_get ms k ≡ Some m
      → x.step (mover_name m) ≡ slice_index parts.steps.items k
  number k m at = ap (slice_index parts.steps.items)
      (number-of-name steps.archive.now t Is ms is.sources k m at)

  -- the first source of a part, by its number
  first : (k : ℕ) (m : Mover) → slice_get ms k ≡ Some m
      → (f : Mover) × (slice_get ms (slice_index parts.firsts.items k) ≡ Some f)
      × (x.first (mover_name m) ≡ mover_name f)
  first k m at =
      let within : k < length parts.firsts.items =
      omega (arith, is.parts.firsts, slice_get_within ms k m at) in
      let f = at-below ms (slice_index parts.firsts.items k) (is.firsts k 0 within) in (
        f.0,
        f.1,
        ap (λ n. name_at ms (slice_index parts.firsts.items n))
            (number-of-name steps.archive.now t Is ms is.sources k m at)
            ∙ ap (λ (o : Option Mover). option_map_or mover_name o []) f.1,
      )

  begins-is : (step k : ℕ) (m : Mover) → slice_get ms k ≡ Some m
      → begins_part x step (kept_of m) ≡ is_first_on parts step k
  begins-is step k m at =
      let f = first k m at in
      let firsts : bytes_eq (mover_name m) (x.first (mover_name m))
      ≡ (slice_index parts.firsts.items k == k) =
      ap (bytes_eq (mover_name m)) f.2 ∙ bytes_eq-swap (mover_name m) (mover_name f.0)
      ∙ one-name steps.archive.now t Is ms is.sources (slice_index parts.firsts.items k) k f.0 m
      f.1 at in
      ap (λ (b : Bool). b && (x.step (mover_name m) == step)) firsts
      ∙ ap (λ (n : ℕ). (slice_index parts.firsts.items k == k) && (n == step)) (number k m at)

  beside-is : (j k : ℕ) (m n : Mover) → slice_get ms j ≡ Some m → slice_get ms k ≡ Some n
      → is_beside x (kept_of m) (kept_of n)
      ≡ (slice_index parts.firsts.items k == slice_index parts.firsts.items j)
  beside-is j k m n left right =
      let f = first j m left in
      let g = first k n right in
      ap (λ (w : List ℕ). bytes_eq w (x.first (mover_name m))) g.2
      ∙ ap (bytes_eq (mover_name g.0)) f.2
      ∙ one-name steps.archive.now t Is ms is.sources (slice_index parts.firsts.items k)
      (slice_index parts.firsts.items j) g.0 f.0 g.1 f.1

  moving : (k : ℕ) (m : Mover) → slice_get ms k ≡ Some m → has_moving_motion m ≡ true
  moving k m at = (is.sources.each k m at).moves

  -- the sources of the part with a first one
  part-is : (k : ℕ) (m : Mover) → slice_get ms k ≡ Some m
      → slice_index parts.firsts.items k ≡ k
      → part_among x (map kept_of ms) (kept_of m)
      ≡ sources_at ms (members_at parts.firsts.items k)
  part-is k m at own =
      sym (chosen-are ms (is_beside x (kept_of m)) (λ f. f == k) ms parts.firsts.items 0
      (sym is.parts.firsts) (λ j n there. ap (slice_get ms) (omega arith) ∙ there)
      (λ j n f there also.
      let firsts : slice_index parts.firsts.items j ≡ f =
      get_or_from_slice_get parts.firsts.items j f 0 also in
      ap (λ (b : Bool). b && is_beside x (kept_of m) (kept_of n)) (moving j n there)
      ∙ beside-is k j m n at there
      ∙ ap (λ (c : ℕ). slice_index parts.firsts.items j == c) own
      ∙ ap (λ (c : ℕ). c == k) firsts)
      ∙ ap (λ (l : List Mover). filter (is_beside x (kept_of m)) (map kept_of l))
      (filter-all has_moving_motion ms (λ n has.
      let j = has-numbered ms n has in moving j.0 n j.1)))

  first-has : (step n : ℕ) → Contains (firsts_on parts step) n
      → (n < length ms) × (slice_index parts.firsts.items n ≡ n)
  first-has step n has =
      let of = has-filter (is_first_on parts step) (range_with_len 0 (length parts.firsts.items)) n
      has in
      let both = and_parts (slice_index parts.firsts.items n == n) _ of.1 in (
        omega (arith, is.parts.firsts, place-within (length parts.firsts.items) n of.0),
        eqb-true (slice_index parts.firsts.items n) n both.0,
      )

  pub step-is : (lines : List KeptSource → List (List ℕ)) (step : ℕ)
      → step_lines lines x (map kept_of ms) step ≡ numbered_lines lines ms parts step
  step-is lines step =
      let firsts = firsts_on parts step in
      let mine : filter (begins_part x step) (map kept_of ms) ≡ sources_at ms firsts =
      sym (ap (λ n. sources_at ms (filter (is_first_on parts step) (range_with_len 0 n)))
      is.parts.firsts
      ∙ numbered-are ms (begins_part x step) (is_first_on parts step) ms 0
      (λ k m at. ap (slice_get ms) (omega arith) ∙ at)
      (λ k m at. begins-is step k m at
      ∙ ap (is_first_on parts step) (omega arith))) in
      let made = λ (s : KeptSource). lines (part_among x (map kept_of ms) s) in
      let under = λ (l : List KeptSource). cond (length l == 0) []
      (step_words step ∷ flat_map made l) in
      let count : length (sources_at ms firsts) ≡ length firsts =
      sources-length ms firsts (λ k d within.
      (first-has step (get_or firsts k d) (Contains-get_or firsts k d within)).0) in
      ap under mine
      ∙ ap (λ (n : ℕ). cond (n == 0) [] (step_words step ∷ flat_map made (sources_at ms firsts)))
      count
      ∙ ap (λ (l : List (List ℕ)). cond (length firsts == 0) [] (step_words step ∷ l))
      (flat-at ms made (λ n. lines (sources_at ms (members_at parts.firsts.items n))) firsts
      (λ n has.
      let it = first-has step n has in
      let m = at-below ms n it.0 in
      (m.0, m.1, ap lines (part-is n m.0 m.1 it.1))))

  -- the steps of all lines
  pub flat-steps : (lines : List KeptSource → List (List ℕ)) (ks : List ℕ)
      → flat_map (step_lines lines x (map kept_of ms)) ks
      ≡ flat_map (numbered_lines lines ms parts) ks
  flat-steps lines ks = ap (λ (f : ℕ → List (List ℕ)). flat_map f ks) (λ i k. step-is lines k i)

-- the text of the steps of all affected sources
pub by-steps : (t : Tracking) (steps : Steps) → IsStepsOf t steps
    → (lines other : List KeptSource → List (List ℕ)) → lines ≡ other → (text : List ℕ)
    → text ≡ text_of (flat_map (numbered_lines lines steps.movers.items steps.parts)
    (range_with_len 1 (length steps.movers.items)))
    → IsBySteps other steps.archive.now t text
by-steps t steps is lines other same text written =
    let a = steps.archive.now in
    let ms = steps.movers.items in
    let x = placing_of ms steps.parts in
    let sources : affected_sources a t ≡ map kept_of ms = affected-are a t is.apart ms is.sources in
    record {
      placing = x;
      placed = is.placed;
      last = length ms;
      within = λ s has.
          let m = map-found kept_of ms s (subst (λ (l : List KeptSource). Contains l s) sources has)
          in
          let k = has-numbered ms m.0 m.1 in
          let step : x.step s.head.name ≡ slice_index steps.parts.steps.items k.0 =
          ap (λ (u : KeptSource). x.step u.head.name) (sym m.2)
          ∙ ap (slice_index steps.parts.steps.items)
          (number-of-name a t (IsAffectedMover a t) ms is.sources k.0 m.0 k.1) in
          omega (arith, is.low k.0, step);
      written = written
          ∙ ap text_of (sym (flat-steps t steps is lines (range_with_len 1 (length ms))))
          ∙ ap (λ (f : List KeptSource → List (List ℕ)).
          text_of (flat_map (step_lines f x (map kept_of ms)) (range_with_len 1 (length ms)))) same
          ∙ ap (λ (l : List KeptSource). text_of (flat_map (step_lines other x l)
          (range_with_len 1 (length ms)))) (sym sources);
    }
