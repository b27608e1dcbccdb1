-- The groups of the rows, as they are set one by one.
use Rattle.std.proofs.Common.{◌≡◌, ℕ, zero, suc, ◌+◌, ◌<◌, Bool, true, false, List, [], ◌∷◌}
use Rattle.std.proofs.Common.{◌++◌, Option, Some, None, if◌then◌else◌, length, drop, take, map, set}
use Rattle.std.proofs.Common.{get_or, slice_get, ap, refl, sym, subst, ◌∙◌}
use Rattle.std.specs.Prelude.{is_some, replicate}
use Rattle.std.specs.Option.{option_map, option_or}
use Rattle.std.specs.Ordering.{is_lt}
use Rattle.std.proofs.lemmas.Bool.{and_parts}
use Rattle.std.proofs.lemmas.Option.{slice_get_read, slice_get_within}
use Rattle.td_rows.specs.declared.key.Key.{Key}
use Rattle.td_rows.specs.declared.row.Row.{Row}
use Rattle.td_rows.specs.Keys.{key_cmp, same_key, names, below_all, ascending}
use Rattle.td_rows.specs.Table.{Table, row_of, keys_of, IsAt}
use Rattle.td_rows.proofs.Keys.{same_key-refl, same_key-apart, below-apart}
use Rattle.td_rows.proofs.Lists.{drop-next, take-next, slice_get-map}
use Rattle.td_rows.proofs.Tables.{row_of-at}
use Rattle.td_core.proofs.Phases.{length-keys_of}
use Rattle.td_book.specs.declared.watching.WatchRefusal.TheVariants.{NoSuchRow, Twice, BadGroup}
use Rattle.td_book.specs.Watching.{group_in}
use Rattle.td_book.specs.WatchCalls.{unknown_in, twice_in, outside_in, watch_stop}

-- ---- 1. a key that stops a watch, pair by pair

pub unknown-later : (t : Table) (given : List (Key × ℕ)) (i : ℕ) (p : Key × ℕ) (r : Row)
    → slice_get given i ≡ Some p → row_of t p.0 ≡ Some r
    → unknown_in t (drop i given) ≡ unknown_in t (drop (i + 1) given)
unknown-later t given i p r at found =
    ap (unknown_in t) (drop-next given i p at)
    ∙ ap (λ (o : Option Row). if is_some o then unknown_in t (drop (i + 1) given) else Some p.0)
    found

-- each key has a row where none is unknown
pub known-all : (t : Table) (given : List (Key × ℕ)) (i : ℕ) (p : Key × ℕ)
    → unknown_in t given ≡ None → slice_get given i ≡ Some p → row_of t p.0 ≡ None → ⊥
known-all t [] zero p known at none = cc
known-all t [] (suc i) p known at none = cc
known-all t (q ∷ given) zero p known at none =
    let same : q ≡ p = cc in
    let bad : Some q.0 ≡ None =
    sym (ap (λ (o : Option Row). if is_some o then unknown_in t given else Some q.0)
    (ap (λ (x : Key × ℕ). row_of t x.0) same ∙ none)) ∙ known in
    cc
known-all t (q ∷ given) (suc i) p known at none =
    known-all t given i p (rest (row_of t q.0) known) at none
  where
    rest : (o : Option Row) → (if is_some o then unknown_in t given else Some q.0) ≡ None
        → unknown_in t given ≡ None
    rest (Some r) e = e
    rest None e = cc

-- ---- 2. the groups

names-keys : (given : List (Key × ℕ)) (k : Key)
    → is_some (group_in given k) ≡ names (map (λ (q : Key × ℕ). q.0) given) k
names-keys [] k = refl
names-keys (p ∷ ps) k = by (same_key k p.0) (names-keys ps k)
  where
    by : (b : Bool) → is_some (group_in ps k) ≡ names (map (λ (q : Key × ℕ). q.0) ps) k
        → is_some (if b then Some p.1 else group_in ps k)
        ≡ (if b then true else names (map (λ (q : Key × ℕ). q.0) ps) k)
    by true rest = refl
    by false rest = rest

group-push : (given : List (Key × ℕ)) (p : Key × ℕ) (k : Key)
    → group_in (given ++ p ∷ []) k
    ≡ option_or (group_in given k) (if same_key k p.0 then Some p.1 else None)
group-push [] p k = refl
group-push (q ∷ qs) p k = by (same_key k q.0) (group-push qs p k)
  where
    by : (b : Bool) → group_in (qs ++ p ∷ []) k
        ≡ option_or (group_in qs k) (if same_key k p.0 then Some p.1 else None)
        → (if b then Some q.1 else group_in (qs ++ p ∷ []) k)
        ≡ option_or (if b then Some q.1 else group_in qs k)
        (if same_key k p.0 then Some p.1 else None)
    by true rest = refl
    by false rest = rest

-- a map over rising keys, changed at one of them
map-past : (f h : Key → Option ℕ) (ks : List Key) (k : Key) → below_all k ks ≡ true
    → ((q : Key) → same_key q k ≡ false → f q ≡ h q) → map h ks ≡ map f ks
map-past f h [] k below same = refl
map-past f h (q ∷ ks) k below same =
    let parts = and_parts (is_lt (key_cmp k q)) (below_all k ks) below in
    (λ j. sym (same q (same_key-apart k q (below-apart k q parts.0))) j
    ∷ map-past f h ks k parts.1 same j)

map-put : (f h : Key → Option ℕ) (ks : List Key) (i : ℕ) (k : Key) → ascending ks ≡ true
    → slice_get ks i ≡ Some k → ((q : Key) → same_key q k ≡ false → f q ≡ h q)
    → map h ks ≡ set (map f ks) i (h k)
map-put f h [] zero k up at same = refl
map-put f h [] (suc i) k up at same = refl
map-put f h (q ∷ ks) zero k up at same =
    let is : q ≡ k = cc in
    let both = and_parts (below_all q ks) (ascending ks) up in
    (λ j. h (is j) ∷ map-past f h ks k (ap (λ (x : Key). below_all x ks) (sym is) ∙ both.0) same j)
map-put f h (q ∷ ks) (suc i) k up at same =
    let both = and_parts (below_all q ks) (ascending ks) up in
    (λ j. sym (same q (below_of q ks i k both.0 at)) j ∷ map-put f h ks i k both.1 at same j)
  where
    below_of : (x : Key) (ks : List Key) (i : ℕ) (k : Key) → below_all x ks ≡ true
        → slice_get ks i ≡ Some k → same_key x k ≡ false
    below_of x [] zero k h at = cc
    below_of x [] (suc i) k h at = cc
    below_of x (q ∷ ks) zero k h at =
        let is : q ≡ k = cc in
        subst (λ (y : Key). same_key x y ≡ false) is
        (below-apart x q (and_parts (is_lt (key_cmp x q)) (below_all x ks) h).0)
    below_of x (q ∷ ks) (suc i) k h at =
        below_of x ks i k (and_parts (is_lt (key_cmp x q)) (below_all x ks) h).1 at

-- the first so many pairs are set, and no key of them stood there twice
pub record AreSet (i : ℕ) (of_rows : List (Option ℕ)) (t : Table)
    (given : List (Key × ℕ)) : Type 0 where
  pub groups : of_rows ≡ map (group_in (take i given)) (keys_of t)
  pub once : twice_in (map (λ (q : Key × ℕ). q.0) (take i given)) (drop i given) ≡ twice_in [] given

map-push : (given : List (Key × ℕ)) (p : Key × ℕ)
    → map (λ (q : Key × ℕ). q.0) (given ++ p ∷ []) ≡ map (λ (q : Key × ℕ). q.0) given ++ p.0 ∷ []
map-push [] p = refl
map-push (q ∷ qs) p = ap (λ (ks : List Key). q.0 ∷ ks) (map-push qs p)

slice_get-map-at : (f : Key → Option ℕ) (ks : List Key) (i : ℕ) (k : Key) → slice_get ks i ≡ Some k
    → slice_get (map f ks) i ≡ Some (f k)
slice_get-map-at f [] zero k at = cc
slice_get-map-at f [] (suc i) k at = cc
slice_get-map-at f (q ∷ ks) zero k at = let is : q ≡ k = cc in ap (λ (x : Key). Some (f x)) is
slice_get-map-at f (q ∷ ks) (suc i) k at = slice_get-map-at f ks i k at

-- the group that a row has by the pairs before
pub group-now : (i number : ℕ) (of_rows : List (Option ℕ)) (t : Table) (given : List (Key × ℕ))
    (k : Key) (now : Option ℕ) → AreSet i of_rows t given → slice_get (keys_of t) number ≡ Some k
    → slice_get of_rows number ≡ Some now → now ≡ group_in (take i given) k
group-now i number of_rows t given k now sets at got =
    let same : Some now ≡ Some (group_in (take i given) k) =
    sym got ∙ ap (λ (l : List (Option ℕ)). slice_get l number) sets.groups
    ∙ slice_get-map-at (group_in (take i given)) (keys_of t) number k at in
    cc

pub set-next : (i number : ℕ) (of_rows new : List (Option ℕ)) (t : Table) (given : List (Key × ℕ))
    (p : Key × ℕ) → ascending (keys_of t) ≡ true → AreSet i of_rows t given
    → slice_get given i ≡ Some p
    → slice_get (keys_of t) number ≡ Some p.0 → is_some (group_in (take i given) p.0) ≡ false
    → new ≡ set of_rows number (Some p.1) → AreSet (i + 1) new t given
set-next i number of_rows new t given p up sets at key free is =
    let more : take (i + 1) given ≡ take i given ++ p ∷ [] = take-next given i p at in
    let unnamed : names (map (λ (q : Key × ℕ). q.0) (take i given)) p.0 ≡ false =
    sym (names-keys (take i given) p.0) ∙ free in
    let here : group_in (take i given ++ p ∷ []) p.0 ≡ Some p.1 =
    group-push (take i given) p p.0
    ∙ none_or (group_in (take i given) p.0) (if same_key p.0 p.0 then Some p.1 else None) free
    ∙ ap (λ (b : Bool). if b then Some p.1 else None) (same_key-refl p.0) in
    record {
      groups = is ∙ ap (λ (l : List (Option ℕ)). set l number (Some p.1)) sets.groups
          ∙ ap (λ (o : Option ℕ). set (map (group_in (take i given)) (keys_of t)) number o)
          (sym here)
          ∙ sym (map-put (group_in (take i given)) (group_in (take i given ++ p ∷ []))
          (keys_of t) number p.0 up key (λ q apart.
          sym (group-push (take i given) p q
          ∙ ap (λ (b : Bool). option_or (group_in (take i given) q) (if b then Some p.1 else None))
          apart ∙ or_none (group_in (take i given) q))))
          ∙ ap (λ (ps : List (Key × ℕ)). map (group_in ps) (keys_of t)) (sym more);
      once =
          ap (λ (ps : List (Key × ℕ)).
          twice_in (map (λ (q : Key × ℕ). q.0) ps) (drop (i + 1) given)) more
          ∙ ap (λ (ks : List Key). twice_in ks (drop (i + 1) given)) (map-push (take i given) p)
          ∙ sym (ap (λ (b : Bool).
          if b then Some p.0 else twice_in (map (λ (q : Key × ℕ). q.0) (take i given) ++ p.0 ∷ [])
          (drop (i + 1) given)) unnamed)
          ∙ sym (ap (twice_in (map (λ (q : Key × ℕ). q.0) (take i given))) (drop-next given i p at))
          ∙ sets.once;
    }
  where
    none_or : (a b : Option ℕ) → is_some a ≡ false → option_or a b ≡ b
    none_or None b h = refl
    none_or (Some x) b h = cc

    or_none : (a : Option ℕ) → option_or a None ≡ a
    or_none None = refl
    or_none (Some x) = refl

pub set-twice : (i : ℕ) (of_rows : List (Option ℕ)) (t : Table) (given : List (Key × ℕ))
    (p : Key × ℕ) → AreSet i of_rows t given → slice_get given i ≡ Some p
    → is_some (group_in (take i given) p.0) ≡ true → twice_in [] given ≡ Some p.0
set-twice i of_rows t given p sets at taken =
    sym sets.once
    ∙ ap (twice_in (map (λ (q : Key × ℕ). q.0) (take i given))) (drop-next given i p at)
    ∙ ap (λ (b : Bool). if b then Some p.0
    else twice_in (map (λ (q : Key × ℕ). q.0) (take i given) ++ p.0 ∷ []) (drop (i + 1) given))
    (sym (names-keys (take i given) p.0) ∙ taken)

-- ---- 3. the call

pub stop_none : (t : Table) (groups : ℕ) (given : List (Key × ℕ)) → unknown_in t given ≡ None
    → twice_in [] given ≡ None → outside_in groups given ≡ None → watch_stop t groups given ≡ None
stop_none t groups given a b o =
    ap (λ (o : Option Key).
    option_or (option_map NoSuchRow o)
    (option_or (option_map Twice (twice_in [] given))
    (option_map BadGroup (outside_in groups given)))) a
    ∙ ap (λ (o : Option Key).
    option_or (option_map Twice o) (option_map BadGroup (outside_in groups given))) b
    ∙ ap (λ (o : Option Key). option_map BadGroup o) o

-- ---- 4. places without a group

abbrev pub no_group : Option ℕ
no_group = None

map-none : (ks : List Key) → map (group_in []) ks ≡ replicate (length ks) None
map-none [] = refl
map-none (k ∷ ks) = ap (λ (l : List (Option ℕ)). None ∷ l) (map-none ks)

pub no_groups-last : (t : Table) (i : ℕ) (l : List (Option ℕ)) → i ≡ length t → l ≡ replicate i None
    → l ≡ map (group_in []) (keys_of t)
no_groups-last t i l end is =
    is ∙ ap (λ (n : ℕ). replicate n no_group) (end ∙ sym (length-keys_of t))
    ∙ sym (map-none (keys_of t))

-- ---- 5. the pair at a place

pub pair_at : (given : List (Key × ℕ)) (i : ℕ) (p : Key × ℕ) → i < length given
    → p ≡ get_or given i p → slice_get given i ≡ Some p
pair_at given i p within is = slice_get_read given (length given) i p refl within is

pub key_there : (t : Table) (k : Key) (number : ℕ) → IsAt t k number
    → slice_get (keys_of t) number ≡ Some k
key_there t k number at =
    slice_get-map (λ (p : Key × Row). p.0) t number ∙ ap (option_map (λ (p : Key × Row). p.0)) at.at

pub row_there : (t : Table) (k : Key) (number : ℕ) → ascending (keys_of t) ≡ true → IsAt t k number
    → (row : Row) × (row_of t k ≡ Some row)
row_there t k number up at = (at.row, row_of-at t k number at.row up at.at)

-- the row of a key has a place
pub number-within : (i number : ℕ) (of_rows : List (Option ℕ)) (t : Table) (given : List (Key × ℕ))
    (k : Key) → AreSet i of_rows t given → IsAt t k number → number < length of_rows
number-within i number of_rows t given k sets at =
    slice_get_within of_rows number (group_in (take i given) k)
    (ap (λ (l : List (Option ℕ)). slice_get l number) sets.groups
    ∙ slice_get-map-at (group_in (take i given)) (keys_of t) number k (key_there t k number at))

-- what is read there is the group by the pairs before
pub group-read : (i number : ℕ) (of_rows : List (Option ℕ)) (t : Table) (given : List (Key × ℕ))
    (k : Key) (now : Option ℕ) → AreSet i of_rows t given → IsAt t k number
    → now ≡ get_or of_rows number now
    → now ≡ group_in (take i given) k
group-read i number of_rows t given k now sets at is =
    group-now i number of_rows t given k now sets (key_there t k number at)
    (slice_get_read of_rows (length of_rows) number now refl
    (number-within i number of_rows t given k sets at) is)
