-- Keys by the numbers of their rows, over plain values.
use Rattle.std.proofs.Common.{cond, ◌≡◌, ℕ, zero, suc, ◌+◌, ◌<◌, ◌==◌, Bool, true, false, ◌&&◌}
use Rattle.std.proofs.Common.{◌||◌, List, [], ◌∷◌, ◌++◌, Option, Some, None, is_some, slice_get}
use Rattle.std.proofs.Common.{get_or, length, option_map, take, if◌then◌else◌, append-nil, ap, refl}
use Rattle.std.proofs.Common.{sym, subst, ◌∙◌, arith}
use Rattle.std.specs.List.{filter_map, cons_option, list_any, dedup, dedup_from, AllByRecursion}
use Rattle.std.specs.List.Sorted.{IsPermutation, IsStrictlySortedBy}
use Rattle.std.specs.Ordering.{is_lt, nat_cmp}
use Rattle.std.specs.declared.cmp.Ordering.TheVariants.{Less}
use Rattle.std.specs.Str.{bytes_eq}
use Rattle.std.proofs.lemmas.Bool.{and_parts, eqb-true}
use Rattle.std.proofs.lemmas.Option.{same_Some}
use Rattle.std.proofs.lemmas.Cmp.{ranked}
use Rattle.std.proofs.lemmas.List.Elements.{filter_map-append}
use Rattle.std.proofs.lemmas.List.Sorted.{list_any-IsPermutation}
use Rattle.std.proofs.lemmas.List.{take_more}
use Rattle.std.specs.Prelude.{Result, Ok, Err, IfOk}
use Rattle.td_rows.specs.declared.key.Key.{Key}
use Rattle.td_rows.specs.declared.row.Row.{Row}
use Rattle.td_rows.specs.Keys.{key_cmp, same_key, names, below_all, ascending}
use Rattle.td_rows.specs.Table.{Table, keys_of, IsAt}
use Rattle.td_rows.proofs.Keys.{same_key-refl}
use Rattle.td_rows.proofs.Lists.{slice_get-map}
use Rattle.td_rows.proofs.Tables.{row_of-at}
use Rattle.td_naming.specs.Naming.{Adds, keys_at}
use Rattle.td_naming.proofs.Finding.{adds_one, below_named}

-- ---- 1. keys and rows by their numbers

pub named_at : (ks : List Key) (i : ℕ) (k : Key) → slice_get ks i ≡ Some k → names ks k ≡ true
named_at [] i k h = absurd (cc)
named_at (x ∷ ks) zero k h =
    ap (λ b. if b then true else names ks k) (ap (same_key k) (same_Some x k h) ∙ same_key-refl k)
named_at (x ∷ ks) (suc i) k h =
    ap (λ b. if same_key k x then true else b) (named_at ks i k h)
    ∙ elim (same_key k x) as (λ b. (if b then true else true) ≡ true) [ true ↦ refl | false ↦ refl ]

some_key : (p : Key × Row) (o : Option (Key × Row)) → o ≡ Some p
    → option_map (λ (q : Key × Row). q.0) o ≡ Some p.0
some_key p o h = ap (option_map (λ (q : Key × Row). q.0)) h

pub key_of : (t : Table) (i : ℕ) (k : Key) (row : Row) → slice_get t i ≡ Some (k, row)
    → slice_get (keys_of t) i ≡ Some k
key_of t i k row at =
    slice_get-map (λ (q : Key × Row). q.0) t i ∙ some_key (k, row) (slice_get t i) at

-- ---- 2. which keys they are

pub keys_at-none : (t : Table) → keys_at t [] ≡ []
unfolding keys_at
keys_at-none t = refl

-- one number more
pub keys_at-push : (t : Table) (ns : List ℕ) (n : ℕ)
    → keys_at t (ns ++ n ∷ []) ≡ keys_at t ns ++ cons_option (slice_get (keys_of t) n) []
unfolding keys_at
keys_at-push t ns n = filter_map-append (slice_get (keys_of t)) ns (n ∷ [])

-- a number that is found is added
pub adds_number : (t : Table) (old new : List ℕ) (source arch : List ℕ) (n : ℕ)
    → ascending (keys_of t) ≡ true → IsAt t (record { source = source; arch = arch }) n
    → new ≡ old ++ n ∷ []
    → Adds t (keys_at t old) (keys_at t new) (λ k. bytes_eq source k.source && bytes_eq arch k.arch)
adds_number t old new source arch n up found now =
    let k : Key = record { source = source; arch = arch } in
    adds_one t (keys_at t old) (keys_at t new) source arch k refl
    (ap (λ o. is_some o) (row_of-at t k n found.row up found.at))
    (ap (keys_at t) now ∙ keys_at-push t old n
    ∙ ap (λ (o : Option Key). keys_at t old ++ cons_option o []) (key_of t n k found.row found.at))

-- ---- 3. sorted numbers

-- whether the row with a number has the key
is_key_at : Table → Key → ℕ → Bool
is_key_at t k n =
    elim (slice_get (keys_of t) n) as (λ _. Bool) [ Some q ↦ same_key k q | None ↦ false ]

names_any : (t : Table) (ns : List ℕ) (k : Key)
    → names (keys_at t ns) k ≡ list_any (is_key_at t k) ns
unfolding keys_at is_key_at
names_any t [] k = refl
names_any t (n ∷ ns) k =
    elim (slice_get (keys_of t) n) as (λ o.
    names (cons_option o (filter_map (slice_get (keys_of t)) ns)) k
    ≡ ((elim o as (λ _. Bool) [ Some q ↦ same_key k q | None ↦ false ])
    || list_any (is_key_at t k) ns)) [
      | Some q ↦
          elim (same_key k q) as (λ b.
          (if b then true else names (filter_map (slice_get (keys_of t)) ns) k)
          ≡ (b || list_any (is_key_at t k) ns)) [ true ↦ refl | false ↦ names_any t ns k ]
      | None ↦ names_any t ns k
    ]

any-dedup_from : (p : ℕ → Bool) (y : ℕ) (xs : List ℕ)
    → list_any p (dedup_from ◌==◌ y xs) ≡ list_any p (y ∷ xs)
any-dedup_from p y [] = refl
any-dedup_from p y (x ∷ xs) =
    elim (x == y) as (λ b.
    (x == y) ≡ b → list_any p (cond b (dedup_from ◌==◌ y xs) (y ∷ dedup_from ◌==◌ x xs))
    ≡ (p y || (p x || list_any p xs))) [
      | true ↦
          λ e. any-dedup_from p y xs
          ∙ elim (p y) as (λ c. p y ≡ c → (c || list_any p xs) ≡ (c || (p x || list_any p xs))) [
            | true ↦ λ _. refl
            | false ↦ λ other. ap (λ b. b || list_any p xs) (sym (ap p (eqb-true x y e) ∙ other))
          ] refl
      | false ↦ λ _. ap (λ b. p y || b) (any-dedup_from p x xs)
    ] refl

any-dedup : (p : ℕ → Bool) (xs : List ℕ) → list_any p (dedup ◌==◌ xs) ≡ list_any p xs
any-dedup p [] = refl
any-dedup p (x ∷ xs) = any-dedup_from p x xs

-- sorting, and dropping doubles, changes no key's being named
pub names_sorted : (t : Table) (k : Key) (old sorted new : List ℕ) → IsPermutation old sorted
    → new ≡ dedup ◌==◌ sorted → names (keys_at t new) k ≡ names (keys_at t old) k
names_sorted t k old sorted new moved is =
    names_any t new k ∙ ap (list_any (is_key_at t k)) is ∙ any-dedup (is_key_at t k) sorted
    ∙ sym (list_any-IsPermutation (is_key_at t k) old sorted moved) ∙ sym (names_any t old k)

-- of two rows that with the smaller number has the smaller key
rises_at : (ks : List Key) (n m : ℕ) (a b : Key) → ascending ks ≡ true → slice_get ks n ≡ Some a
    → slice_get ks m ≡ Some b → n < m → is_lt (key_cmp a b) ≡ true
rises_at [] n m a b up an bm less = absurd (cc)
rises_at (x ∷ ks) zero zero a b up an bm less = absurd (omega arith)
rises_at (x ∷ ks) zero (suc m) a b up an bm less =
    subst (λ (y : Key). is_lt (key_cmp y b) ≡ true) (same_Some x a an)
    (below_named x b ks (and_parts (below_all x ks) (ascending ks) up).0 (named_at ks m b bm))
rises_at (x ∷ ks) (suc n) zero a b up an bm less = absurd (omega arith)
rises_at (x ∷ ks) (suc n) (suc m) a b up an bm less =
    rises_at ks n m a b (and_parts (below_all x ks) (ascending ks) up).1 an bm (omega arith)

below_at : (ks : List Key) (n : ℕ) (k : Key) (ns : List ℕ) → ascending ks ≡ true
    → slice_get ks n ≡ Some k → AllByRecursion (λ m. nat_cmp n m ≡ Less) ns
    → below_all k (filter_map (slice_get ks) ns) ≡ true
below_at ks n k [] up at h = refl
below_at ks n k (m ∷ ns) up at h =
    elim (slice_get ks m) as (λ o.
    slice_get ks m ≡ o → below_all k (cons_option o (filter_map (slice_get ks) ns)) ≡ true) [
      | Some q ↦
          λ e. λ j. (rises_at ks n m k q up at e (ranked n m Less (sym h.0)) j)
          && (below_at ks n k ns up at h.1 j)
      | None ↦ λ _. below_at ks n k ns up at h.1
    ] refl

pub rising_keys : (t : Table) (ns : List ℕ) → ascending (keys_of t) ≡ true
    → IsStrictlySortedBy nat_cmp ns → ascending (keys_at t ns) ≡ true
unfolding keys_at IsStrictlySortedBy
rising_keys t [] up h = refl
rising_keys t (n ∷ ns) up h =
    elim (slice_get (keys_of t) n) as (λ o.
    slice_get (keys_of t) n ≡ o
    → ascending (cons_option o (filter_map (slice_get (keys_of t)) ns)) ≡ true) [
      | Some k ↦ λ e. λ j. (below_at (keys_of t) n k ns up e h.0 j) && (rising_keys t ns up h.1 j)
      | None ↦ λ _. rising_keys t ns up h.1
    ] refl

-- ---- 4. copies of the keys

pub keys_more : (t : Table) (ns : List ℕ) (i d : ℕ) (old new : List Key) (k : Key) (row : Row)
    → i < length ns → Some (k, row) ≡ slice_get t (get_or ns i d) → old ≡ keys_at t (take i ns)
    → new ≡ old ++ k ∷ [] → new ≡ keys_at t (take (i + 1) ns)
keys_more t ns i d old new k row within at before now =
    now ∙ ap (λ (ks : List Key). ks ++ k ∷ []) before
    ∙ ap (λ (o : Option Key). keys_at t (take i ns) ++ cons_option o [])
    (sym (key_of t (get_or ns i d) k row (sym at)))
    ∙ sym (keys_at-push t (take i ns) (get_or ns i d))
    ∙ ap (keys_at t) (sym (take_more ns i d within))

pub keys_same : (t : Table) (ns : List ℕ) (i d : ℕ) (old new : List Key) → i < length ns
    → None ≡ slice_get t (get_or ns i d) → old ≡ keys_at t (take i ns) → new ≡ old
    → new ≡ keys_at t (take (i + 1) ns)
keys_same t ns i d old new within none before now =
    now ∙ before ∙ sym (append-nil (keys_at t (take i ns)))
    ∙ ap (λ (o : Option Key). keys_at t (take i ns) ++ cons_option o [])
    (ap (option_map (λ (p : Key × Row). p.0)) none
    ∙ sym (slice_get-map (λ (p : Key × Row). p.0) t (get_or ns i d)))
    ∙ sym (keys_at-push t (take i ns) (get_or ns i d))
    ∙ ap (keys_at t) (sym (take_more ns i d within))

pub ok_more : {A E : Type 0} (P Q : A → Type 0) (r : Result A E) → ((x : A) → P x → Q x) → IfOk r P
    → IfOk r Q
ok_more P Q (Ok x) more h = more x h
ok_more P Q (Err e) more h = tt
