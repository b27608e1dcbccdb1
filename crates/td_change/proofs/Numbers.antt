-- The numbers of rows by their keys.
use Rattle.std.proofs.Common.{◌≡◌, ℕ, zero, suc, true, false, List, [], ◌∷◌, map, is_some, Option}
use Rattle.std.proofs.Common.{Some, None, if◌then◌else◌, slice_get, ap, refl, sym, subst, ◌∙◌}
use Rattle.std.specs.Ordering.{is_lt}
use Rattle.std.proofs.lemmas.Bool.{and_parts}
use Rattle.std.proofs.lemmas.Option.{some_pair_parts}
use Rattle.td_rows.specs.declared.key.Key.{Key}
use Rattle.td_rows.specs.declared.row.Row.{Row}
use Rattle.td_rows.specs.Keys.{key_cmp, same_key, names, below_all, ascending}
use Rattle.td_rows.specs.Table.{Table, row_of, keys_of, each_row, at_key, changed_at}
use Rattle.td_rows.proofs.Keys.{same_key-true, same_key-refl, same_key-apart, below-apart}
use Rattle.td_rows.proofs.Tables.{changed_at-each_row, row_of-at, head-apart}
use Rattle.td_change.specs.Saved.{place_of, number_of, HaveRows}

-- a row is found by the number of its key
pub slice_get-number_of : (t : Table) (k : Key) (r : Row) → row_of t k ≡ Some r
    → slice_get t (number_of t k) ≡ Some (k, r)
slice_get-number_of [] k r found = cc
slice_get-number_of (p ∷ t) k r found =
    elim (same_key k p.0) as (λ b.
    same_key k p.0 ≡ b → (if b then Some p.1 else row_of t k) ≡ Some r
    → slice_get (p ∷ t) (if b then 0 else suc (place_of (keys_of t) k)) ≡ Some (k, r)) [
      | true ↦ λ e f. let row : p.1 ≡ r = cc in λ j. Some (sym (same_key-true k p.0 e) j, row j)
      | false ↦ λ _ f. slice_get-number_of t k r f
    ] refl found

-- the number of a row is its key's
pub number_of-at : (t : Table) (k : Key) (n : ℕ) (r : Row) → ascending (keys_of t) ≡ true
    → slice_get t n ≡ Some (k, r) → n ≡ number_of t k
number_of-at [] k zero r up at = cc
number_of-at [] k (suc n) r up at = cc
number_of-at (p ∷ t) k zero r up at =
    let same : same_key k p.0 ≡ true =
    subst (λ (q : Key). same_key k q ≡ true) (sym (some_pair_parts p.0 k p.1 r at).0)
    (same_key-refl k) in
    ap (λ b. if b then 0 else suc (place_of (keys_of t) k)) (sym same)
number_of-at (p ∷ t) k (suc n) r up at =
    let both = and_parts (below_all p.0 (keys_of t)) (ascending (keys_of t)) up in
    let other : same_key k p.0 ≡ false =
    same_key-apart p.0 k (head-apart p t k r both.0 (row_of-at t k n r both.1 at)) in
    ap suc (number_of-at t k n r both.1 at)
    ∙ ap (λ b. if b then 0 else suc (place_of (keys_of t) k)) (sym other)

-- whether a key has a row is told by the keys
pub is_some-row_of : (t : Table) (k : Key) → is_some (row_of t k) ≡ names (keys_of t) k
is_some-row_of [] k = refl
is_some-row_of (p ∷ t) k =
    elim (same_key k p.0) as (λ b.
    is_some (if b then Some p.1 else row_of t k) ≡ (if b then true else names (keys_of t) k)) [
      | true ↦ refl
      | false ↦ is_some-row_of t k
    ]

pub there : {A : Type 0} (o : Option A) → is_some o ≡ true → (x : A) × (o ≡ Some x)
there None h = absurd cc
there (Some x) h = (x, refl)

-- the row with the number of a key is the key's
pub changed_at-number_of : (t : Table) (k : Key) (f : Row → Row) → ascending (keys_of t) ≡ true
    → is_some (row_of t k) ≡ true → changed_at (number_of t k) f t ≡ each_row (at_key k f) t
changed_at-number_of t k f up some =
    let found = there (row_of t k) some in
    changed_at-each_row t k (number_of t k) found.0 f up (slice_get-number_of t k found.0 found.1)

-- a key below others is none of them
pub names-below : (x : Key) (ks : List Key) → below_all x ks ≡ true → names ks x ≡ false
names-below x [] h = refl
names-below x (k ∷ ks) h =
    let both = and_parts (is_lt (key_cmp x k)) (below_all x ks) h in
    ap (λ b. if b then true else names ks x) (below-apart x k both.0) ∙ names-below x ks both.1

-- a key that is named is another than one that isn't
pub named-apart : (ks : List Key) (k q : Key) → names ks k ≡ false → names ks q ≡ true
    → same_key q k ≡ false
named-apart ks k q unnamed named = elim (same_key q k) as (λ b. same_key q k ≡ b → b ≡ false) [
  | true ↦
      λ e. absurd
      (let bad : true ≡ false = sym named ∙ ap (names ks) (same_key-true q k e) ∙ unnamed in cc)
  | false ↦ λ _. refl
] refl

-- what is named by the rest is named by all
pub names-more : (ks : List Key) (k q : Key) → names ks q ≡ true → names (k ∷ ks) q ≡ true
names-more ks k q named =
    elim (same_key q k) as (λ b. (if b then true else names ks q) ≡ true) [
      | true ↦ refl
      | false ↦ named
    ]

pub HaveRows-rest : (t : Table) (k : Key) (ks : List Key) → HaveRows t (k ∷ ks) → HaveRows t ks
HaveRows-rest t k ks have q named = have q (names-more ks k q named)

-- two functions that agree on the keys make the same list of them
pub map-agree : {A : Type 0} (f g : Key → A) (ks : List Key)
    → ((q : Key) → names ks q ≡ true → f q ≡ g q) → map f ks ≡ map g ks
map-agree f g [] h = refl
map-agree f g (k ∷ ks) h =
    let here : f k ≡ g k = h k (ap (λ b. if b then true else names ks k) (same_key-refl k)) in
    let rest : map f ks ≡ map g ks = map-agree f g ks (λ q named. h q (names-more ks k q named)) in
    λ j. here j ∷ rest j
