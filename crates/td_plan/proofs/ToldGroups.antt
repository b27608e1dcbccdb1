-- Relations with their places, one place more.
use Rattle.std.proofs.Common.{◌≡◌, ◌<◌, ◌≤◌, ◌+◌, ℕ, zero, suc, Bool, true, false, not, cond}
use Rattle.std.proofs.Common.{ltb, ◌||◌}
use Rattle.std.proofs.Common.{List, [], ◌∷◌, ◌++◌, Some, None, length, map, get_or}
use Rattle.std.proofs.Common.{refl, sym}
use Rattle.std.proofs.Common.{ap, ◌∙◌, arith, append-nil, set}
use Rattle.std.specs.Prelude.{filter, position, string_bytes}
use Rattle.std.specs.List.{list_any, position_or_len}
use Rattle.std.specs.Str.{bytes_eq}
use Rattle.std.proofs.lemmas.Bool.{false_from_ne_true, le-ltb, lt-ltb, ltb-false, ltb-true}
use Rattle.std.proofs.lemmas.List.{length-map, map-append}
use Rattle.std.proofs.lemmas.List.Elements.{filter-append}
use Rattle.std.proofs.lemmas.List.Folds.{list_any-append}
use Rattle.std.proofs.lemmas.Slice.Eq.{bytes_eq-Decides}
use Rattle.td_text.proofs.Chain.{some_is}
use Rattle.td_plan.specs.declared.relations.Told.{Told}
use Rattle.td_plan.specs.declared.waits.Waits.{Waits}
use Rattle.td_plan.specs.Plan.{WaitingAt, is_alike, is_waiting}
use Rattle.td_plan.specs.Relations.{relation_of}
use Rattle.td_plan.specs.inner.Told.{Group, groups, seen_told, waiting_from, with_place}
use Rattle.td_plan.specs.inner.Waiting.{seen}

-- ---- 1. equal texts

equal_is : (a b : List ℕ) → bytes_eq a b ≡ true → a ≡ b
equal_is a b h = (bytes_eq-Decides a b).0 h

equal_turned : (a b : List ℕ) → bytes_eq a b ≡ bytes_eq b a
equal_turned a b = by (bytes_eq a b) refl
  where
    by : (v : Bool) → bytes_eq a b ≡ v → v ≡ bytes_eq b a
    by true is = sym ((bytes_eq-Decides b a).1 (sym (equal_is a b is)))
    by false is = sym (false_from_ne_true (bytes_eq b a)
        (λ e. let bad : true ≡ false =
        sym ((bytes_eq-Decides a b).1 (sym (equal_is b a e))) ∙ is in cc))

-- ---- 2. one place more

abbrev seen_alike : WaitingAt → List WaitingAt → Bool
seen_alike w before = list_any (is_alike w) before

one_behind : (w v : WaitingAt) (before : List WaitingAt)
    → seen_alike w (before ++ v ∷ []) ≡ (seen_alike w before || is_alike w v)
one_behind w v before = list_any-append (is_alike w) before (v ∷ [])
    ∙ ap (λ (b : Bool). seen_alike w before || b) (or_none (is_alike w v))
  where
    or_none : (b : Bool) → (b || false) ≡ b
    or_none true = refl
    or_none false = refl

-- places that are alike see the same places before them
same_before : (v w : WaitingAt) (before : List WaitingAt) → is_alike v w ≡ true
    → seen_alike v before ≡ seen_alike w before
same_before v w before h =
    ap (λ (t : List ℕ). list_any (λ (x : WaitingAt). bytes_eq t (relation_of x.waits)) before)
    (equal_is (relation_of v.waits) (relation_of w.waits) h)

-- the places of a group, one place more
more_places : (v w : WaitingAt) (after : List WaitingAt)
    → map (λ (x : WaitingAt). x.place) (filter (is_alike v) (v ∷ (after ++ w ∷ [])))
    ≡ map (λ (x : WaitingAt). x.place) (filter (is_alike v) (v ∷ after))
    ++ cond (is_alike v w) (w.place ∷ []) []
more_places v w after =
    ap (map (λ (x : WaitingAt). x.place)) (filter-append (is_alike v) (v ∷ after) (w ∷ []))
    ∙ split (filter (is_alike v) (v ∷ after)) (is_alike v w)
  where
    split : (xs : List WaitingAt) (b : Bool)
        → map (λ (x : WaitingAt). x.place) (xs ++ cond b (w ∷ []) [])
        ≡ map (λ (x : WaitingAt). x.place) xs ++ cond b (w.place ∷ []) []
    split [] true = refl
    split [] false = refl
    split (x ∷ xs) b = ap (λ (ns : List ℕ). x.place ∷ ns) (split xs b)

abbrev group_with : WaitingAt → List ℕ → Group
group_with v places = record { relation = relation_of v.waits; places = places }

-- the group of a place, unless its relation came before
abbrev heading : Bool → WaitingAt → List ℕ → List Group
heading before v places = cond before [] (group_with v places ∷ [])

-- what a place more does to a heading and what follows it
abbrev put_behind : Bool → Bool → WaitingAt → List ℕ → ℕ → List Group → List Group → List Group
put_behind same before v places place later put =
    cond before put (cond same (group_with v (places ++ place ∷ []) ∷ later)
    (group_with v places ∷ put))

put_so : (before : Bool) (v : WaitingAt) (places relation : List ℕ) (place : ℕ)
    (later : List Group) → with_place relation place (heading before v places ++ later)
    ≡ put_behind (bytes_eq (relation_of v.waits) relation) before v places place later
    (with_place relation place later)
put_so true v places relation place later = refl
put_so false v places relation place later = refl

-- a is whether the relation of v came before, b whether that of w did, c whether they are one
put_by : (a b c : Bool) (v : WaitingAt) (places : List ℕ) (place : ℕ) (later put : List Group)
    → (c ≡ true → a ≡ b)
    → heading a v (places ++ cond c (place ∷ []) []) ++ cond (b || c) later put
    ≡ cond b (heading a v places ++ later) (put_behind c a v places place later put)
put_by true true true v places place later put same = refl
put_by true true false v places place later put same = refl
put_by true false true v places place later put same = let bad = same refl in absurd cc
put_by true false false v places place later put same = refl
put_by false true true v places place later put same = let bad = same refl in absurd cc
put_by false true false v places place later put same =
    ap (λ (ns : List ℕ). group_with v ns ∷ later) (append-nil places)
put_by false false true v places place later put same = refl
put_by false false false v places place later put same =
    ap (λ (ns : List ℕ). group_with v ns ∷ put) (append-nil places)

abbrev places_of : List WaitingAt → List ℕ
places_of ws = map (λ (x : WaitingAt). x.place) ws

first_push : (w : WaitingAt) (b : Bool)
    → heading b w (places_of (filter (is_alike w) (w ∷ []))) ++ []
    ≡ cond b [] (group_with w (w.place ∷ []) ∷ [])
first_push w true = refl
first_push w false =
    ap (λ (c : Bool). group_with w (places_of (cond c (w ∷ []) [])) ∷ [])
    ((bytes_eq-Decides (relation_of w.waits) (relation_of w.waits)).1 refl)

-- if a place is added, its relation has it, too
pub groups-push : (before ws : List WaitingAt) (w : WaitingAt)
    → groups before (ws ++ w ∷ [])
    ≡ cond (seen_alike w before) (groups before ws)
    (with_place (relation_of w.waits) w.place (groups before ws))
groups-push before [] w = first_push w (seen_alike w before)
groups-push before (v ∷ ws) w =
    let later = groups (before ++ v ∷ []) ws in
    let put = with_place (relation_of w.waits) w.place later in
    let places = places_of (filter (is_alike v) (v ∷ ws)) in
    let all = places_of (filter (is_alike v) (v ∷ (ws ++ w ∷ []))) in
    ap (λ (gs : List Group). heading (seen_alike v before) v all ++ gs)
    (groups-push (before ++ v ∷ []) ws w
    ∙ ap (λ (b : Bool). cond b later put)
    (one_behind w v before ∙ ap (λ (b : Bool). seen_alike w before || b)
    (equal_turned (relation_of w.waits) (relation_of v.waits))))
    ∙ ap (λ (ns : List ℕ). heading (seen_alike v before) v ns
    ++ cond (seen_alike w before || is_alike v w) later put) (more_places v w ws)
    ∙ put_by (seen_alike v before) (seen_alike w before) (is_alike v w) v places w.place later put
    (same_before v w before)
    ∙ ap (λ (gs : List Group). cond (seen_alike w before)
    (heading (seen_alike v before) v places ++ later) gs)
    (sym (put_so (seen_alike v before) v places (relation_of w.waits) w.place later))

-- ---- 3. places in a row

pub waiting-push : (place : ℕ) (ws : List Waits) (w : Waits)
    → waiting_from place (ws ++ w ∷ [])
    ≡ waiting_from place ws
    ++ record { place = place + length ws; waits = map seen w.waits.items } ∷ []
waiting-push place [] w =
    ap (λ (n : ℕ). record { place = n; waits = map seen w.waits.items } ∷ []) (omega arith)
waiting-push place (v ∷ ws) w =
    ap (λ (l : List WaitingAt). record { place = place; waits = map seen v.waits.items } ∷ l)
    (waiting-push (place + 1) ws w
    ∙ ap (λ (n : ℕ). waiting_from (place + 1) ws
    ++ record { place = n; waits = map seen w.waits.items } ∷ []) (omega arith))

-- ---- 4. a relation by its number

module _ (relation : List ℕ) (place : ℕ) where
  abbrev is_of : Group → Bool
  is_of g = bytes_eq g.relation relation

  abbrev grown : Group → Group
  grown g = record { relation = g.relation; places = g.places ++ place ∷ [] }

  abbrev new : Group
  new = record { relation = relation; places = place ∷ [] }

  some_at : (d : Group) (gs : List Group) (n : ℕ) → n ≡ position_or_len is_of gs
      → n < length gs → with_place relation place gs ≡ set gs n (grown (get_or gs n d))
  some_at d [] n is less = absurd (omega arith)
  some_at d (g ∷ gs) n is less = by (is_of g) refl is
      (λ below. some_at d gs (position_or_len is_of gs) refl below)
    where
      by : (b : Bool) → is_of g ≡ b → n ≡ cond (not b) (1 + position_or_len is_of gs) 0
          → (position_or_len is_of gs < length gs → with_place relation place gs
          ≡ set gs (position_or_len is_of gs) (grown (get_or gs (position_or_len is_of gs) d)))
          → cond (is_of g) (grown g ∷ gs) (g ∷ with_place relation place gs)
          ≡ set (g ∷ gs) n (grown (get_or (g ∷ gs) n d))
      by true t at later =
          ap (λ (b : Bool). cond b (grown g ∷ gs) (g ∷ with_place relation place gs)) t
          ∙ ap (λ (m : ℕ). set (g ∷ gs) m (grown (get_or (g ∷ gs) m d))) (sym at)
      by false t at later =
          let next : n ≡ suc (position_or_len is_of gs) = omega arith in
          let below : position_or_len is_of gs < length gs = omega arith in
          ap (λ (b : Bool). cond b (grown g ∷ gs) (g ∷ with_place relation place gs)) t
          ∙ ap (λ (l : List Group). g ∷ l) (later below)
          ∙ ap (λ (m : ℕ). set (g ∷ gs) m (grown (get_or (g ∷ gs) m d))) (sym next)

  none_at : (gs : List Group) → length gs ≤ position_or_len is_of gs
      → with_place relation place gs ≡ gs ++ new ∷ []
  none_at [] past = refl
  none_at (g ∷ gs) past = by (is_of g) refl past (λ more. none_at gs more)
    where
      by : (b : Bool) → is_of g ≡ b
          → suc (length gs) ≤ cond (not b) (1 + position_or_len is_of gs) 0
          → (length gs ≤ position_or_len is_of gs
          → with_place relation place gs ≡ gs ++ new ∷ [])
          → cond (is_of g) (grown g ∷ gs) (g ∷ with_place relation place gs)
          ≡ g ∷ (gs ++ new ∷ [])
      by true t at later = absurd (omega arith)
      by false t at later =
          let more : length gs ≤ position_or_len is_of gs = omega arith in
          ap (λ (b : Bool). cond b (grown g ∷ gs) (g ∷ with_place relation place gs)) t
          ∙ ap (λ (l : List Group). g ∷ l) (later more)

-- whether some item passes, and the number of the first that does
pub first_place : {X : Type 0} (test : X → Bool) (xs : List X) (n : ℕ)
    → Some n ≡ position test xs → (n ≡ position_or_len test xs) × (n < length xs)
first_place test xs n h = by (ltb (position_or_len test xs) (length xs)) refl h
  where
    by : (b : Bool) → ltb (position_or_len test xs) (length xs) ≡ b
        → Some n ≡ cond b (Some (position_or_len test xs)) None
        → (n ≡ position_or_len test xs) × (n < length xs)
    by false is g = absurd cc
    by true is g =
        let same : n ≡ position_or_len test xs = some_is n (position_or_len test xs) g in
        let less = ltb-true (position_or_len test xs) (length xs) is in
        (same, omega arith)

pub no_place : {X : Type 0} (test : X → Bool) (xs : List X) → None ≡ position test xs
    → length xs ≤ position_or_len test xs
no_place test xs h = by (ltb (position_or_len test xs) (length xs)) refl h
  where
    by : (b : Bool) → ltb (position_or_len test xs) (length xs) ≡ b
        → None ≡ cond b (Some (position_or_len test xs)) None
        → length xs ≤ position_or_len test xs
    by true is g = absurd cc
    by false is g = ltb-false (position_or_len test xs) (length xs) is

-- the first that passes is at the same place of what is seen
seen_first : (relation : List ℕ) (ts : List Told)
    → position_or_len (λ (g : Group). bytes_eq g.relation relation) (map seen_told ts)
    ≡ position_or_len (λ (t : Told). bytes_eq (string_bytes t.relation) relation) ts
seen_first relation [] = refl
seen_first relation (t ∷ ts) =
    ap (λ (n : ℕ). cond (not (bytes_eq (string_bytes t.relation) relation)) (1 + n) 0)
    (seen_first relation ts)

seen_set : (ts : List Told) (n : ℕ) (t : Told)
    → map seen_told (set ts n t) ≡ set (map seen_told ts) n (seen_told t)
seen_set [] n t = refl
seen_set (x ∷ ts) zero t = refl
seen_set (x ∷ ts) (suc n) t = ap (λ (l : List Group). seen_told x ∷ l) (seen_set ts n t)

seen_at : (ts : List Told) (n : ℕ) (d : Told) → get_or (map seen_told ts) n (seen_told d)
    ≡ seen_told (get_or ts n d)
seen_at [] n d = refl
seen_at (x ∷ ts) zero d = refl
seen_at (x ∷ ts) (suc n) d = seen_at ts n d

-- what `push_place` leaves if the relation is there
pub pushed_at : (relation : List ℕ) (place n : ℕ) (ts new : List Told) (old t : Told)
    → Some n ≡ position (λ (x : Told). bytes_eq (string_bytes x.relation) relation) ts
    → old ≡ get_or ts n old → string_bytes t.relation ≡ string_bytes old.relation
    → t.places.items ≡ old.places.items ++ place ∷ [] → new ≡ set ts n t
    → map seen_told new ≡ with_place relation place (map seen_told ts)
pushed_at relation place n ts new old t found is same more set_is =
    let first = first_place (λ (x : Told). bytes_eq (string_bytes x.relation) relation) ts n
    found in
    let at = first.0 ∙ sym (seen_first relation ts) in
    let below : n < length (map seen_told ts) =
    (let less = first.1 in omega (arith, length-map ts seen_told)) in
    let here : get_or (map seen_told ts) n (seen_told old) ≡ seen_told old =
    seen_at ts n old ∙ ap seen_told (sym is) in
    let one : seen_told t ≡ record {
      relation = string_bytes old.relation;
      places = old.places.items ++ place ∷ [];
    } = λ i. record { relation = same i; places = more i } in
    ap (map seen_told) set_is ∙ seen_set ts n t
    ∙ ap (set (map seen_told ts) n) (one ∙ ap (λ (g : Group). record {
      relation = g.relation;
      places = g.places ++ place ∷ [];
    }) (sym here))
    ∙ sym (some_at relation place (seen_told old) (map seen_told ts) n at below)

-- what `push_place` leaves if the relation isn't there
pub pushed_new : (relation : List ℕ) (place : ℕ) (ts new : List Told) (t : Told)
    → None ≡ position (λ (x : Told). bytes_eq (string_bytes x.relation) relation) ts
    → string_bytes t.relation ≡ relation → t.places.items ≡ place ∷ []
    → new ≡ ts ++ t ∷ []
    → map seen_told new ≡ with_place relation place (map seen_told ts)
pushed_new relation place ts new t none same only is =
    let past = no_place (λ (x : Told). bytes_eq (string_bytes x.relation) relation) ts none in
    let past_seen : length (map seen_told ts)
    ≤ position_or_len (λ (g : Group). bytes_eq g.relation relation) (map seen_told ts) =
    omega (arith, length-map ts seen_told, seen_first relation ts) in
    let one : seen_told t ≡ record { relation = relation; places = place ∷ [] } =
    λ i. record { relation = same i; places = only i } in
    ap (map seen_told) is ∙ map-append seen_told ts (t ∷ [])
    ∙ ap (λ (g : Group). map seen_told ts ++ g ∷ []) one
    ∙ sym (none_at relation place (map seen_told ts) past_seen)

-- ---- 5. a place more

-- a place that waits for something is a place more
pub told_more : (ws : List Waits) (w : Waits) (i : ℕ) (gs : List Group) → i ≡ length ws
    → 0 < length w.waits.items
    → gs ≡ with_place (relation_of (map seen w.waits.items)) i
    (groups [] (filter is_waiting (waiting_from 0 ws)))
    → gs ≡ groups [] (filter is_waiting (waiting_from 0 (ws ++ w ∷ [])))
told_more ws w i gs at some is =
    let here : 0 + length ws ≡ i = omega arith in
    let waits : is_waiting (record { place = i; waits = map seen w.waits.items }) ≡ true =
    lt-ltb 0 (length (map seen w.waits.items)) (omega (arith, length-map w.waits.items seen)) in
    let one : WaitingAt = record { place = i; waits = map seen w.waits.items } in
    is
    ∙ sym (groups-push [] (filter is_waiting (waiting_from 0 ws)) one)
    ∙ ap (groups []) (ap (λ (b : Bool). filter is_waiting (waiting_from 0 ws)
    ++ cond b (one ∷ []) []) (sym waits)
    ∙ sym (filter-append is_waiting (waiting_from 0 ws) (one ∷ []))
    ∙ ap (filter is_waiting) (ap (λ (n : ℕ). waiting_from 0 ws
    ++ record { place = n; waits = map seen w.waits.items } ∷ []) (sym here)
    ∙ sym (waiting-push 0 ws w)))

-- a place that waits for nothing changes nothing
pub told_same : (ws : List Waits) (w : Waits) → length w.waits.items ≡ 0
    → groups [] (filter is_waiting (waiting_from 0 ws))
    ≡ groups [] (filter is_waiting (waiting_from 0 (ws ++ w ∷ [])))
told_same ws w none =
    let one : WaitingAt = record { place = 0 + length ws; waits = map seen w.waits.items } in
    let waits : is_waiting one ≡ false =
    le-ltb 0 (length (map seen w.waits.items)) (omega (arith, length-map w.waits.items seen)) in
    ap (groups []) (sym (append-nil (filter is_waiting (waiting_from 0 ws)))
    ∙ ap (λ (b : Bool). filter is_waiting (waiting_from 0 ws) ++ cond b (one ∷ []) [])
    (sym waits)
    ∙ sym (filter-append is_waiting (waiting_from 0 ws) (one ∷ []))
    ∙ ap (filter is_waiting) (sym (waiting-push 0 ws w)))

-- one place more, whether it waits for something or not
pub told_next : (ws : List Waits) (w : Waits) (i : ℕ) (old gs : List Group) → i ≡ length ws
    → old ≡ groups [] (filter is_waiting (waiting_from 0 ws))
    → gs ≡ cond (ltb 0 (length w.waits.items))
    (with_place (relation_of (map seen w.waits.items)) i old) old
    → gs ≡ groups [] (filter is_waiting (waiting_from 0 (ws ++ w ∷ [])))
told_next ws w i old gs at was is = by (ltb 0 (length w.waits.items)) refl
  where
    by : (b : Bool) → ltb 0 (length w.waits.items) ≡ b
        → gs ≡ groups [] (filter is_waiting (waiting_from 0 (ws ++ w ∷ [])))
    by true some =
        told_more ws w i gs at (ltb-true 0 (length w.waits.items) some)
        (is
        ∙ ap (λ (b : Bool). cond b (with_place (relation_of (map seen w.waits.items)) i old) old)
        some
        ∙ ap (with_place (relation_of (map seen w.waits.items)) i) was)
    by false none =
        let few = ltb-false 0 (length w.waits.items) none in
        is
        ∙ ap (λ (b : Bool). cond b (with_place (relation_of (map seen w.waits.items)) i old) old)
        none
        ∙ was ∙ told_same ws w (omega (arith, few))

-- the lemmas by which a relation has a place more
pub ruleset told_so = (pushed_at, pushed_new)
