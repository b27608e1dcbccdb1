-- Rows that are changed one by one, and what that does to the row of a key.
use Rattle.std.proofs.Common.{◌≡◌, ℕ, zero, suc, ◌+◌, ◌<◌, Bool, true, false, List, [], ◌∷◌, ◌++◌}
use Rattle.std.proofs.Common.{Option, Some, None, if◌then◌else◌, option_map, length, take, get_or}
use Rattle.std.proofs.Common.{slice_get, ap, refl, sym, subst, ◌∙◌, arith}
use Rattle.std.specs.Ordering.{is_lt}
use Rattle.std.proofs.lemmas.Bool.{and_parts}
use Rattle.std.proofs.lemmas.List.{take_more}
use Rattle.std.proofs.lemmas.Option.{some_pair_parts}
use Rattle.td_rows.specs.declared.key.Key.{Key}
use Rattle.td_rows.specs.declared.row.Row.{Row}
use Rattle.td_rows.specs.declared.kind.Kind.{Kind}
use Rattle.td_rows.specs.Meaning.{applies, means}
use Rattle.td_rows.specs.Keys.{key_cmp, same_key, names, below_all, ascending}
use Rattle.td_rows.specs.Table.{Table, row_of, keys_of, each_row, at_key, meant, applied, fits}
use Rattle.td_rows.specs.Table.{AppliesOn, changed_at}
use Rattle.td_rows.proofs.Keys.{same_key-true, same_key-refl, same_key-sym, same_key-apart}
use Rattle.td_rows.proofs.Keys.{below-apart}

pub row_of-each_row : (f : Key → Row → Row) (t : Table) (k : Key)
    → row_of (each_row f t) k ≡ option_map (f k) (row_of t k)
row_of-each_row f [] k = refl
row_of-each_row f (p ∷ t) k =
    elim (same_key k p.0) as (λ b.
    same_key k p.0 ≡ b → (if b then Some (f p.0 p.1) else row_of (each_row f t) k)
    ≡ option_map (f k) (if b then Some p.1 else row_of t k)) [
      | true ↦ λ e. ap (λ (q : Key). Some (f q p.1)) (sym (same_key-true k p.0 e))
      | false ↦ λ _. row_of-each_row f t k
    ] refl

pub each_row-each_row : (f g : Key → Row → Row) (t : Table)
    → each_row g (each_row f t) ≡ each_row (λ k r. g k (f k r)) t
each_row-each_row f g [] = refl
each_row-each_row f g (p ∷ t) =
    ap (λ (u : Table). (p.0, g p.0 (f p.0 p.1)) ∷ u) (each_row-each_row f g t)

pub keys_of-each_row : (f : Key → Row → Row) (t : Table) → keys_of (each_row f t) ≡ keys_of t
keys_of-each_row f [] = refl
keys_of-each_row f (p ∷ t) = ap (λ (u : List Key). p.0 ∷ u) (keys_of-each_row f t)

pub length-each_row : (f : Key → Row → Row) (t : Table) → length (each_row f t) ≡ length t
length-each_row f [] = refl
length-each_row f (p ∷ t) = ap suc (length-each_row f t)

pub each_row-itself : (t : Table) → each_row (λ k r. r) t ≡ t
each_row-itself [] = refl
each_row-itself (p ∷ t) = ap (λ (u : Table). p ∷ u) (each_row-itself t)

-- two changes that are alike make the same rows
pub each_row-alike : (f g : Key → Row → Row) (t : Table) → ((k : Key) (r : Row) → f k r ≡ g k r)
    → each_row f t ≡ each_row g t
each_row-alike f g [] h = refl
each_row-alike f g (p ∷ t) h = let rest = each_row-alike f g t h in λ i. (p.0, h p.0 p.1 i) ∷ rest i

-- a key that is the same as one below each key of t has no row there
pub row_of-below : (x k : Key) (t : Table) → below_all x (keys_of t) ≡ true → same_key k x ≡ true
    → row_of t k ≡ None
row_of-below x k [] h e = refl
row_of-below x k (p ∷ t) h e =
    let both = and_parts (is_lt (key_cmp x p.0)) (below_all x (keys_of t)) h in
    let apart : same_key k p.0 ≡ false =
    subst (λ (q : Key). same_key q p.0 ≡ false) (sym (same_key-true k x e))
    (below-apart x p.0 both.0) in
    ap (λ b. if b then Some p.1 else row_of t k) apart ∙ row_of-below x k t both.1 e

pub not_some : (r : Row) → Some r ≡ None → ⊥
not_some r h = cc

-- a row of the tail is found past the head
pub row_of-later : (p : Key × Row) (t : Table) (k : Key) (r : Row)
    → below_all p.0 (keys_of t) ≡ true → row_of t k ≡ Some r → row_of (p ∷ t) k ≡ Some r
row_of-later p t k r below found =
    let later : same_key k p.0 ≡ false =
    elim (same_key k p.0) as (λ b. same_key k p.0 ≡ b → b ≡ false) [
      | true ↦ λ e. absurd (not_some r (sym found ∙ row_of-below p.0 k t below e))
      | false ↦ λ _. refl
    ] refl in
    ap (λ b. if b then Some p.1 else row_of t k) later ∙ found

-- two changes that agree on each row of the table make the same table
pub each_row-agree : (f g : Key → Row → Row) (t : Table) → ascending (keys_of t) ≡ true
    → ((k : Key) (r : Row) → row_of t k ≡ Some r → f k r ≡ g k r) → each_row f t ≡ each_row g t
each_row-agree f g [] up h = refl
each_row-agree f g (p ∷ t) up h =
    let both = and_parts (below_all p.0 (keys_of t)) (ascending (keys_of t)) up in
    let first : f p.0 p.1 ≡ g p.0 p.1 =
    h p.0 p.1 (ap (λ b. if b then Some p.1 else row_of t p.0) (same_key-refl p.0)) in
    let rest : each_row f t ≡ each_row g t =
    each_row-agree f g t both.1 (λ k r found. h k r (row_of-later p t k r both.0 found)) in
    λ i. (p.0, first i) ∷ rest i

-- a change at a key that has no row changes nothing
pub at_key-absent : (k : Key) (f : Row → Row) (t : Table) → row_of t k ≡ None
    → each_row (at_key k f) t ≡ t
at_key-absent k f [] gone = refl
at_key-absent k f (p ∷ t) gone =
    elim (same_key k p.0) as (λ b.
    same_key k p.0 ≡ b → (if b then Some p.1 else row_of t k) ≡ None
    → each_row (at_key k f) (p ∷ t) ≡ p ∷ t) [
      | true ↦ λ e g. absurd (not_some p.1 g)
      | false ↦
          λ e g. let other : same_key p.0 k ≡ false = same_key-apart k p.0 e in
          λ j. (p.0, if other j then f p.1 else p.1) ∷ at_key-absent k f t g j
    ] refl gone

-- the row with a number is the key's row
pub row_of-at : (t : Table) (k : Key) (n : ℕ) (row : Row) → ascending (keys_of t) ≡ true
    → slice_get t n ≡ Some (k, row) → row_of t k ≡ Some row
row_of-at [] k zero row up at = cc
row_of-at [] k (suc n) row up at = cc
row_of-at (p ∷ t) k zero row up at =
    let parts = some_pair_parts p.0 k p.1 row at in
    ap (λ b. if b then Some p.1 else row_of t k)
    (subst (λ (q : Key). same_key k q ≡ true) (sym parts.0) (same_key-refl k))
    ∙ ap (λ (r : Row). Some r) parts.1
row_of-at (p ∷ t) k (suc n) row up at =
    let both = and_parts (below_all p.0 (keys_of t)) (ascending (keys_of t)) up in
    row_of-later p t k row both.0 (row_of-at t k n row both.1 at)

-- a key of the tail isn't the head's
pub head-apart : (p : Key × Row) (t : Table) (k : Key) (r : Row) → below_all p.0 (keys_of t) ≡ true
    → row_of t k ≡ Some r → same_key p.0 k ≡ false
head-apart p t k r below found =
    elim (same_key k p.0) as (λ b. same_key k p.0 ≡ b → same_key p.0 k ≡ false) [
      | true ↦ λ e. absurd (not_some r (sym found ∙ row_of-below p.0 k t below e))
      | false ↦ λ e. same_key-apart k p.0 e
    ] refl

-- a change of the row with a number is the change at its key
pub changed_at-each_row : (t : Table) (k : Key) (n : ℕ) (row : Row) (f : Row → Row) → ascending
    (keys_of t) ≡ true → slice_get t n ≡ Some (k, row) → changed_at n f t ≡ each_row (at_key k f) t
changed_at-each_row [] k zero row f up at = cc
changed_at-each_row [] k (suc n) row f up at = cc
changed_at-each_row (p ∷ t) k zero row f up at =
    let both = and_parts (below_all p.0 (keys_of t)) (ascending (keys_of t)) up in
    let parts = some_pair_parts p.0 k p.1 row at in
    let same : same_key p.0 k ≡ true =
    subst (λ (q : Key). same_key p.0 q ≡ true) parts.0 (same_key-refl p.0) in
    let rest : each_row (at_key k f) t ≡ t =
    at_key-absent k f t (row_of-below p.0 k t both.0 (same_key-sym p.0 k same)) in
    λ j. (p.0, if sym same j then f p.1 else p.1) ∷ sym rest j
changed_at-each_row (p ∷ t) k (suc n) row f up at =
    let both = and_parts (below_all p.0 (keys_of t)) (ascending (keys_of t)) up in
    let other = head-apart p t k row both.0 (row_of-at t k n row both.1 at) in
    λ j. (p.0, if sym other j then f p.1 else p.1) ∷ changed_at-each_row t k n row f both.1 at j

pub names-push : (ks : List Key) (k q : Key)
    → names (ks ++ k ∷ []) q ≡ (if names ks q then true else same_key q k)
names-push [] k q =
    elim (same_key q k) as (λ b. (if b then true else false) ≡ b) [ true ↦ refl | false ↦ refl ]
names-push (x ∷ ks) k q =
    elim (same_key q x) as (λ b.
    (if b then true else names (ks ++ k ∷ []) q)
    ≡ (if (if b then true else names ks q) then true else same_key q k)) [
      | true ↦ refl
      | false ↦ names-push ks k q
    ]

pub below_key : (x : Key) (ks : List Key) (j : ℕ) (d : Key) → below_all x ks ≡ true → j < length ks
    → is_lt (key_cmp x (get_or ks j d)) ≡ true
below_key x [] j d h lt = absurd (omega arith)
below_key x (p ∷ ks) zero d h lt = (and_parts (is_lt (key_cmp x p)) (below_all x ks) h).0
below_key x (p ∷ ks) (suc j) d h lt =
    below_key x ks j d (and_parts (is_lt (key_cmp x p)) (below_all x ks) h).1 (omega arith)

-- a key is not among those before it
pub names-before : (ks : List Key) (i : ℕ) (d : Key) → ascending ks ≡ true → i < length ks
    → names (take i ks) (get_or ks i d) ≡ false
names-before [] i d up within = absurd (omega arith)
names-before (q ∷ ks) zero d up within = refl
names-before (q ∷ ks) (suc i) d up within =
    let both = and_parts (below_all q ks) (ascending ks) up in
    let other : same_key (get_or ks i d) q ≡ false =
    same_key-apart q (get_or ks i d)
    (below-apart q (get_or ks i d) (below_key q ks i d both.0 (omega arith))) in
    ap (λ b. if b then true else names (take i ks) (get_or ks i d)) other
    ∙ names-before ks i d both.1 (omega arith)

pub applied-none : (kind : Kind) (t : Table) → applied kind [] t ≡ t
applied-none kind t = each_row-itself t

-- one more key: its row is changed after those of the others
pub applied-push : (kind : Kind) (ks : List Key) (k : Key) (t : Table) → names ks k ≡ false
    → applied kind (ks ++ k ∷ []) t ≡ each_row (at_key k (means kind)) (applied kind ks t)
applied-push kind ks k t unnamed =
    each_row-alike _ _ t alike ∙ sym (each_row-each_row (meant kind ks) (at_key k (means kind)) t)
  where
    alike : (q : Key) (r : Row)
        → meant kind (ks ++ k ∷ []) q r ≡ at_key k (means kind) q (meant kind ks q r)
    alike q r =
        ap (λ b. if b then means kind r else r) (names-push ks k q)
        ∙ elim (names ks q) as (λ b.
        names ks q ≡ b → (if (if b then true else same_key q k) then means kind r else r)
        ≡ (if same_key q k then means kind (if b then means kind r else r)
        else (if b then means kind r else r))) [
          | true ↦ λ named.
              let other : same_key q k ≡ false =
              elim (same_key q k) as (λ b. same_key q k ≡ b → b ≡ false) [
                | true ↦
                    λ e. absurd (let bad : true ≡ false =
                    sym named ∙ ap (names ks) (same_key-true q k e) ∙ unnamed in cc)
                | false ↦ λ _. refl
              ] refl in
              rw other refl
          | false ↦ λ _. refl
        ] refl

-- a kind that fits applies on the row that is there
pub applies-fits : (t : Table) (kind : Kind) (k : Key) (row : Row) → row_of t k ≡ Some row
    → fits t kind k ≡ true → applies kind row ≡ true
applies-fits t kind k row found fit =
    sym (ap (λ o. elim o as (λ _. Bool) [ Some r ↦ applies kind r | None ↦ false ]) found) ∙ fit

-- what fits a key that isn't named yet is as before
pub fits-applied : (t : Table) (kind other : Kind) (ks : List Key) (k : Key) → names ks k ≡ false
    → fits (applied kind ks t) other k ≡ fits t other k
fits-applied t kind other ks k unnamed =
    let same : row_of (applied kind ks t) k ≡ row_of t k =
    row_of-each_row (meant kind ks) t k
    ∙ elim (row_of t k) as (λ o. option_map (meant kind ks k) o ≡ o) [
      | Some r ↦
          ap (λ b. Some (if b then means kind r else r)) unnamed
      | None ↦ refl
    ] in
    ap (λ o. elim o as (λ _. Bool) [ Some r ↦ applies other r | None ↦ false ]) same

-- a key of the list is among its keys
pub names-at : (ks : List Key) (i : ℕ) (d : Key) → i < length ks → names ks (get_or ks i d) ≡ true
names-at [] i d within = absurd (omega arith)
names-at (q ∷ ks) zero d within = ap (λ b. if b then true else names ks q) (same_key-refl q)
names-at (q ∷ ks) (suc i) d within =
    elim (same_key (get_or ks i d) q) as (λ b.
    (if b then true else names ks (get_or ks i d)) ≡ true) [
      | true ↦ refl
      | false ↦ names-at ks i d (omega arith)
    ]

-- the next key of a list that rises: it isn't named yet, and what applies to all applies on it
pub fits-next : (t : Table) (kind : Kind) (ks : List Key) (i : ℕ) (k : Key) → ascending ks ≡ true
    → i < length ks → k ≡ get_or ks i k → AppliesOn t kind ks
    → fits (applied kind (take i ks) t) kind k ≡ true
fits-next t kind ks i k up within is all =
    let unnamed : names (take i ks) k ≡ false =
    subst (λ (q : Key). names (take i ks) q ≡ false) (sym is) (names-before ks i k up within) in
    fits-applied t kind kind (take i ks) k unnamed
    ∙ all k (subst (λ (q : Key). names ks q ≡ true) (sym is) (names-at ks i k within))

-- the rows after one more key
pub applied-next : (t : Table) (kind : Kind) (ks : List Key) (i : ℕ) (k : Key) → ascending ks ≡ true
    → i < length ks → k ≡ get_or ks i k
    → each_row (at_key k (means kind)) (applied kind (take i ks) t)
    ≡ applied kind (take (i + 1) ks) t
applied-next t kind ks i k up within is =
    let unnamed : names (take i ks) k ≡ false =
    subst (λ (q : Key). names (take i ks) q ≡ false) (sym is) (names-before ks i k up within) in
    sym (applied-push kind (take i ks) k t unnamed)
    ∙ ap (λ (qs : List Key). applied kind qs t)
    (ap (λ (q : Key). take i ks ++ q ∷ []) is ∙ sym (take_more ks i k within))

-- a kind that applies on the keys before one, and on it, applies on the keys up to it
pub AppliesOn-next : (t : Table) (kind : Kind) (ks : List Key) (i : ℕ) (k : Key) → i < length ks
    → k ≡ get_or ks i k → AppliesOn t kind (take i ks) → fits t kind k ≡ true
    → AppliesOn t kind (take (i + 1) ks)
AppliesOn-next t kind ks i k within is before here q named =
    by (names (take i ks) q) refl
    (sym (names-push (take i ks) k q) ∙ ap (λ (qs : List Key). names qs q) (sym one_more) ∙ named)
  where
    one_more : take (i + 1) ks ≡ take i ks ++ k ∷ []
    one_more = take_more ks i k within ∙ ap (λ (x : Key). take i ks ++ x ∷ []) (sym is)

    by : (b : Bool) → names (take i ks) q ≡ b → (if b then true else same_key q k) ≡ true
        → fits t kind q ≡ true
    by true e h = before q e
    by false e h = subst (λ (x : Key). fits t kind x ≡ true) (sym (same_key-true q k h)) here

-- what a look-up of the key's row tells of the kind
pub fits-row_of : (t : Table) (kind : Kind) (k : Key) (o : Option Row) → o ≡ row_of t k
    → (elim o as (λ _. Bool) [ Some row ↦ applies kind row | None ↦ false ]) ≡ fits t kind k
fits-row_of t kind k o is =
    ap (λ x. elim x as (λ _. Bool) [ Some row ↦ applies kind row | None ↦ false ]) is
