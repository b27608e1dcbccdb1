-- Plans of the same premises, message and suite are one text, whatever the placing.
use Rattle.std.proofs.Common.{◌≡◌, ◌++◌, ◌∷◌, [], ◌∙◌, ◌&&◌, ◌==◌, not, ℕ, Bool, true}
use Rattle.std.proofs.Common.{List}
use Rattle.std.proofs.Common.{Option, Some, None, filter, map, nat_lt, cond, if◌then◌else◌}
use Rattle.std.proofs.Common.{refl, sym, ap, subst}
use Rattle.std.specs.List.{Contains, filter_map, flat_map}
use Rattle.std.specs.Str.{bytes_eq}
use Rattle.std.proofs.lemmas.Bool.{and_from, or_left}
use Rattle.std.proofs.lemmas.List.Folds.{Any-from_list_any, list_any-from_Any, list_any_at}
use Rattle.std.proofs.lemmas.Slice.Eq.{bytes_eq-Decides}
use Rattle.td_text.specs.Lines.{text_of}
use Rattle.td_indices.specs.Sources.{KeptSource}
use Rattle.td_indices.proofs.OfferLaws.{has_first, has_more}
use Rattle.td_plan.specs.BuildsThere.{builds_there}
use Rattle.td_plan.specs.Due.{due_places, has_due, is_due, is_moving, moves, number_of}
use Rattle.td_plan.specs.InOrder.{in_order, is_before, put_in}
use Rattle.td_plan.specs.Lines.{Words, no_wait_line, nmu_line, step_line, title_of}
use Rattle.td_plan.specs.PartLaws.{PlansAreOneText}
use Rattle.td_plan.specs.Placing.{Moves, Placing, is_place_before}
use Rattle.td_plan.specs.Plan.{arch_names, due_sources, dw_lines, is_beside}
use Rattle.td_plan.specs.Plan.{is_waiting, left_of, lines_before}
use Rattle.td_plan.specs.Plan.{lines_from, part_lines, part_of, plan_lines, source_lines}
use Rattle.td_plan.specs.Premises.{Premises, key_at, places}
use Rattle.td_plan.specs.Waits.{awaited, is_wait_before, is_waitless, moving_sources, wait_of}
use Rattle.td_plan.proofs.InOrders.{filter-of, order-of}
use Rattle.td_plan.proofs.PlacingsAlike.{placings-are-one}

-- ---- 1. lists on whose items two tests agree

module _ {A : Type 0} where
  pub filter-alike : (f g : A → Bool) (xs : List A) → ((x : A) → Contains xs x → f x ≡ g x)
      → filter f xs ≡ filter g xs
  filter-alike f g [] same = refl
  filter-alike f g (x ∷ xs) same =
      let rest = filter-alike f g xs (λ y mine. same y (has_more x xs y mine)) in
      ap (λ b. cond b (x ∷ filter f xs) (filter f xs)) (same x (has_first x xs))
      ∙ ap (λ ys. cond (g x) (x ∷ ys) ys) rest

  -- what is made of the same items in two ways
  pub made-alike : {B : Type 0} (f g : A → List B) (xs : List A)
      → ((x : A) → Contains xs x → f x ≡ g x) → flat_map f xs ≡ flat_map g xs
  made-alike f g [] same = refl
  made-alike {B} f g (x ∷ xs) same =
      ap (λ (l : List B). l ++ flat_map f xs) (same x (has_first x xs))
      ∙ ap (λ (l : List B). g x ++ l)
      (made-alike f g xs (λ y mine. same y (has_more x xs y mine)))

  put-alike : (f g : A → A → Bool) (x : A) (ys : List A)
      → ((y : A) → Contains ys y → f x y ≡ g x y) → put_in f x ys ≡ put_in g x ys
  unfolding put_in
  put-alike f g x [] same = refl
  put-alike f g x (y ∷ ys) same =
      let rest = put-alike f g x ys (λ z mine. same z (has_more y ys z mine)) in
      ap (λ b. cond b (x ∷ (y ∷ ys)) (y ∷ put_in f x ys)) (same y (has_first y ys))
      ∙ ap (λ zs. cond (g x y) (x ∷ (y ∷ ys)) (y ∷ zs)) rest

  pub order-alike : (f g : A → A → Bool) (xs : List A)
      → ((x y : A) → Contains xs x → Contains xs y → f x y ≡ g x y)
      → in_order f xs ≡ in_order g xs
  unfolding in_order
  order-alike f g [] same = refl
  order-alike f g (x ∷ xs) same =
      let rest = order-alike f g xs
      (λ y z mine other. same y z (has_more x xs y mine) (has_more x xs z other)) in
      put-alike f g x (in_order f xs) (λ y mine. same x y (has_first x xs)
      (has_more x xs y (order-of f xs y mine)))
      ∙ ap (put_in g x) rest

-- ---- 2. sources that move

module _ (p : Premises) where
  abbrev IsMover : KeptSource → Type 0
  IsMover s = Moves p s.head.name

  pub mover-moves : (s : KeptSource) → Contains p.archive.sources s → moves p s ≡ true
      → IsMover s
  mover-moves s mine is =
      let test : KeptSource → Bool = λ t. bytes_eq s.head.name t.head.name && moves p t in
      let passes : test s ≡ true = and_from (bytes_eq s.head.name s.head.name) (moves p s)
      ((bytes_eq-Decides s.head.name s.head.name).1 refl) is in
      list_any_at test p.archive.sources mine.0 s mine.1 (ap test mine.2 ∙ passes)

  pub moving-moves : (s : KeptSource) → Contains (moving_sources p) s → IsMover s
  moving-moves s mine =
      let of = filter-of (moves p) p.archive.sources s
      (order-of (λ t u. is_before t.head.name u.head.name)
      (filter (moves p) p.archive.sources) s mine) in
      mover-moves s of.0 of.1

  pub due-moves : (s : KeptSource) → has_due p s ≡ true → moves p s ≡ true
  due-moves s is =
      let at = Any-from_list_any (is_due p s) (places p) is in
      list_any-from_Any (is_moving p s) (places p)
      ((at.0, at.1, at.2, at.3, or_left (is_due p s at.1) _ at.4))

  -- ---- 3. what two placings say of them

  module _ (x y : Placing)
      (same : (name : List ℕ) → Moves p name
      → (x.first name ≡ y.first name) × (x.step name ≡ y.step name)) where
    beside-alike : (s t : KeptSource) → IsMover s → IsMover t
        → is_beside x s t ≡ is_beside y s t
    beside-alike s t mine other =
        ap (λ a. bytes_eq a (x.first s.head.name)) (same t.head.name other).0
        ∙ ap (λ a. bytes_eq (y.first t.head.name) a) (same s.head.name mine).0

    step-alike : (s t : KeptSource) → IsMover s → IsMover t
        → (x.step t.head.name == x.step s.head.name) ≡ (y.step t.head.name == y.step s.head.name)
    step-alike s t mine other =
        ap (λ k. k == x.step s.head.name) (same t.head.name other).1
        ∙ ap (λ k. y.step t.head.name == k) (same s.head.name mine).1

    place-alike : (s t : KeptSource) → IsMover s → IsMover t
        → is_place_before x s t ≡ is_place_before y s t
    place-alike s t mine other =
        let F : ℕ → ℕ → List ℕ → List ℕ → Bool = λ k l a b. if k == l
        then (if bytes_eq a b then is_before s.head.name t.head.name else is_before a b)
        else nat_lt k l in
        ap (λ k. F k (x.step t.head.name) (x.first s.head.name) (x.first t.head.name))
        (same s.head.name mine).1
        ∙ ap (λ k. F (y.step s.head.name) k (x.first s.head.name) (x.first t.head.name))
        (same t.head.name other).1
        ∙ ap (λ a. F (y.step s.head.name) (y.step t.head.name) a (x.first t.head.name))
        (same s.head.name mine).0
        ∙ ap (λ a. F (y.step s.head.name) (y.step t.head.name) (y.first s.head.name) a)
        (same t.head.name other).0

    part-alike : (s : KeptSource) → IsMover s → part_of x p s ≡ part_of y p s
    part-alike s mine = filter-alike (is_beside x s) (is_beside y s) (moving_sources p)
        (λ t other. beside-alike s t mine (moving-moves t other))

    awaited-alike : (s : KeptSource) → IsMover s → (place : ℕ)
        → awaited (is_beside x s) p s place ≡ awaited (is_beside y s) p s place
    awaited-alike s mine place = filter-alike
        (λ t. is_moving p t place
        && (builds_there p.archive place s t && not (is_beside x s t)))
        (λ t. is_moving p t place
        && (builds_there p.archive place s t && not (is_beside y s t)))
        (moving_sources p)
        (λ t other. ap (λ b. is_moving p t place
        && (builds_there p.archive place s t && not b))
        (beside-alike s t mine (moving-moves t other)))

    -- the lines of a source, by what it waits for
    abbrev lines_by : Words → KeptSource → (ℕ → List KeptSource) → List (List ℕ)
    lines_by words s awaits =
        nmu_line words s (number_of p s) (arch_names p (due_places p s))
        ∷ (dw_lines words p s [] (filter is_waiting (map (λ place.
        record {
          place = place;
          waits = in_order is_wait_before
              (filter_map (wait_of p s place) (awaits place));
        }) (due_places p s)))
        ++ flat_map (λ place. map (λ t. no_wait_line (key_at p s place) t.head.name)
        (filter (is_waitless p s place) (awaits place))) (due_places p s))

    lines-alike : (words : Words) (s : KeptSource) → IsMover s
        → source_lines words x p s ≡ source_lines words y p s
    lines-alike words s mine =
        ap (lines_by words s) (λ i place. awaited-alike s mine place i)

    before-alike : (last : Option KeptSource) (s : KeptSource) → IsMover s
        → ((t : KeptSource) → last ≡ Some t → IsMover t)
        → lines_before x p last s ≡ lines_before y p last s
    before-alike None s mine lasts =
        ap (λ k. (step_line k ∷ []) ++ part_lines (part_of x p s)) (same s.head.name mine).1
        ∙ ap (λ ss. (step_line (y.step s.head.name) ∷ []) ++ part_lines ss) (part-alike s mine)
    before-alike (Some t) s mine lasts =
        let other = lasts t refl in
        let F : Bool → ℕ → Bool → List KeptSource → List (List ℕ) = λ b k c ss.
        (if b then [] else step_line k ∷ []) ++ (if c then [] else part_lines ss) in
        ap (λ b. F b (x.step s.head.name) (is_beside x s t) (part_of x p s))
        (step-alike s t mine other)
        ∙ ap (λ k. F (y.step t.head.name == y.step s.head.name) k (is_beside x s t)
        (part_of x p s)) (same s.head.name mine).1
        ∙ ap (λ c. F (y.step t.head.name == y.step s.head.name) (y.step s.head.name) c
        (part_of x p s)) (beside-alike s t mine other)
        ∙ ap (λ ss. F (y.step t.head.name == y.step s.head.name) (y.step s.head.name)
        (is_beside y s t) ss) (part-alike s mine)

    from-alike : (words : Words) (last : Option KeptSource) (sources : List KeptSource)
        → ((t : KeptSource) → last ≡ Some t → IsMover t)
        → ((s : KeptSource) → Contains sources s → IsMover s)
        → lines_from words x p last sources ≡ lines_from words y p last sources
    from-alike words last [] lasts movers = refl
    from-alike words last (s ∷ sources) lasts movers =
        let mine : IsMover s = movers s (has_first s sources) in
        let rest = from-alike words (Some s) sources
        (λ t is. let one : s ≡ t = cc in subst IsMover one mine)
        (λ t has. movers t (has_more s sources t has)) in
        ap (λ ls. ls ++ (source_lines words x p s ++ lines_from words x p (Some s) sources))
        (before-alike last s mine lasts)
        ∙ ap (λ ls. lines_before y p last s ++ (ls ++ lines_from words x p (Some s) sources))
        (lines-alike words s mine)
        ∙ ap (λ ls. lines_before y p last s ++ (source_lines words y p s ++ ls)) rest

    due-mover : (s : KeptSource) → Contains (filter (has_due p) p.archive.sources) s → IsMover s
    due-mover s has =
        let of = filter-of (has_due p) p.archive.sources s has in
        mover-moves s of.0 (due-moves s of.1)

    sources-alike : due_sources x p ≡ due_sources y p
    sources-alike = order-alike (is_place_before x) (is_place_before y)
        (filter (has_due p) p.archive.sources)
        (λ s t mine other. place-alike s t (due-mover s mine) (due-mover t other))

    pub plan-alike : (words : Words) → plan_lines words x p ≡ plan_lines words y p
    plan-alike words =
        ap (λ ls. title_of p.tracker.title ++ (ls ++ filter_map (left_of p) p.rows))
        (from-alike words None (due_sources x p) (λ t is. cc)
        (λ s has. due-mover s (order-of (is_place_before x)
        (filter (has_due p) p.archive.sources) s has))
        ∙ ap (lines_from words y p None) sources-alike)

pub plans-are-one-text : PlansAreOneText
plans-are-one-text = λ words p text other mine its.
    mine.written
    ∙ ap (λ ls. text_of ls) (plan-alike p mine.placing its.placing
    (λ name moves. placings-are-one p mine.placing its.placing name mine.placed its.placed moves)
    words)
    ∙ sym its.written
