-- What a plan has, and how far its change is made.
use Rattle.std.proofs.Common.{◌≡◌, ◌<◌, ℕ, zero, suc, ◌+◌, ◌≤◌, slice_get, append-nil, is_some}
use Rattle.std.proofs.Common.{Bool, true, false, ◌&&◌, List, [], ◌∷◌, ◌++◌, map, length, take}
use Rattle.std.proofs.Common.{get_or, Option, Some, None, cond, if◌then◌else◌, option_map}
use Rattle.std.proofs.Common.{unwrap_or, ap, refl, sym, subst, ◌∙◌, append_assoc, arith}
use Rattle.std.specs.Prelude.{IfSome}
use Rattle.std.specs.BTreeMap.{insert_entry, is_at}
use Rattle.std.specs.Map.{remove_entry}
use Rattle.std.specs.Ordering.{is_lt, is_eq, ordering_reverse, ordering_then, match_ordering}
use Rattle.std.specs.Ordering.{nat_cmp}
use Rattle.std.specs.Cmp.Lexicographic.{slice_cmp}
use Rattle.std.proofs.lemmas.Map.Text.{is_eq-slice_cmp}
use Rattle.std.specs.declared.cmp.Ordering.{Ordering}
use Rattle.std.specs.declared.cmp.Ordering.TheVariants.{Less, Equal, Greater}
use Rattle.std.proofs.lemmas.Bool.{and_parts}
use Rattle.std.proofs.lemmas.List.{take_more, map-append}
use Rattle.td_rows.proofs.Rising.{is_less}
use Rattle.td_rows.specs.declared.key.Key.{Key}
use Rattle.td_rows.specs.declared.row.Row.{Row}
use Rattle.td_rows.specs.declared.kind.Kind.{Kind}
use Rattle.td_rows.specs.Blank.{blank}
use Rattle.td_rows.specs.Keys.{key_cmp, same_key, names, below_all, ascending}
use Rattle.td_rows.specs.Kept.{only, texts_of}
use Rattle.td_rows.specs.Kinds.{written}
use Rattle.td_rows.specs.Meaning.{applies, means}
use Rattle.td_rows.specs.Table.{Table, IsAt, row_of, keys_of, each_row, at_key, meant, applied}
use Rattle.td_rows.specs.Table.{fits, AppliesOn, changed_at}
use Rattle.td_rows.proofs.Keys.{key_total, same_key-true, same_key-refl}
use Rattle.td_rows.proofs.Tables.{row_of-each_row, keys_of-each_row, each_row-each_row}
use Rattle.td_rows.proofs.Tables.{each_row-alike, each_row-itself, changed_at-each_row, names-at}
use Rattle.td_rows.proofs.Tables.{below_key}
use Rattle.td_change.specs.Saved.{place_of, number_of, kept_of, saved, HaveRows}
use Rattle.td_change.specs.Plans.{Planned, plan_of, left, left_out, without, without_row}
use Rattle.td_change.specs.Inside.{ready, numbered, HaveTexts}
use Rattle.td_change.proofs.Numbers.{number_of-at, slice_get-number_of, names-below, named-apart}
use Rattle.td_change.proofs.Numbers.{names-more, map-agree}

-- the first key may be changed first
applied-first : (kind : Kind) (k : Key) (ks : List Key) (t : Table) → names ks k ≡ false
    → applied kind ks (each_row (at_key k (means kind)) t) ≡ applied kind (k ∷ ks) t
applied-first kind k ks t unnamed =
    each_row-each_row (at_key k (means kind)) (meant kind ks) t ∙ each_row-alike _ _ t alike
  where
    alike : (q : Key) (r : Row)
        → meant kind ks q (at_key k (means kind) q r) ≡ meant kind (k ∷ ks) q r
    alike q r =
        elim (same_key q k) as (λ b.
        same_key q k ≡ b → (if names ks q then means kind (if b then means kind r else r)
        else (if b then means kind r else r))
        ≡ (if (if b then true else names ks q) then means kind r else r)) [
          | true ↦
              λ e. ap (λ b. if b then means kind (means kind r) else means kind r)
              (ap (names ks) (same_key-true q k e) ∙ unnamed)
          | false ↦ λ _. refl
        ] refl

-- a key above another compares so
pub above : (a b : Key) → is_lt (key_cmp a b) ≡ true → key_cmp b a ≡ Greater
above a b h = key_total.antisymm b a ∙ ap ordering_reverse (is_less (key_cmp a b) h)

-- the next of keys that rise goes last
pub insert_entry-next : {X : Type 0} (f : Key → X) (ks : List Key) (i : ℕ) (k : Key) (v : X)
    → ascending ks ≡ true → i < length ks → k ≡ get_or ks i k
    → insert_entry key_cmp (map (λ q. (q, f q)) (take i ks)) k v
    ≡ map (λ q. (q, f q)) (take i ks) ++ (k, v) ∷ []
insert_entry-next f [] i k v up within is = absurd (omega arith)
insert_entry-next f (q ∷ ks) zero k v up within is = refl
insert_entry-next {X} f (q ∷ ks) (suc i) k v up within is =
    let both = and_parts (below_all q ks) (ascending ks) up in
    let over : key_cmp k q ≡ Greater =
    above q k (subst (λ (x : Key). is_lt (key_cmp q x) ≡ true) (sym is)
    (below_key q ks i k both.0 (omega arith))) in
    let es : List (Key × X) = map (λ x. (x, f x)) (take i ks) in
    ap (λ o. match_ordering o ((k, v) ∷ (q, f q) ∷ es) ((q, v) ∷ es)
    ((q, f q) ∷ insert_entry key_cmp es k v)) over
    ∙ ap (λ (us : List (Key × X)). (q, f q) ∷ us)
    (insert_entry-next f ks i k v both.1 (omega arith) is)

-- the keys of entries
abbrev pub keys : List (Key × (ℕ × Row)) → List Key
keys entries = map (λ e. e.0) entries

pub left-numbered : (entries : List (Key × (ℕ × Row)))
    → map (λ p. p.0) (map numbered entries) ≡ keys entries
left-numbered [] = refl
left-numbered (e ∷ entries) = ap (λ (ks : List Key). e.0 ∷ ks) (left-numbered entries)

pub numbered-ready : (kind : Kind) (t : Table) (ks : List Key)
    → map numbered (map (ready kind t) ks) ≡ map (λ k. (k, number_of t k)) ks
numbered-ready kind t [] = refl
numbered-ready kind t (k ∷ ks) =
    ap (λ (rows : List (Key × ℕ)). (k, number_of t k) ∷ rows) (numbered-ready kind t ks)

pub keys-ready : (kind : Kind) (t : Table) (ks : List Key) → keys (map (ready kind t) ks) ≡ ks
keys-ready kind t [] = refl
keys-ready kind t (k ∷ ks) = ap (λ (qs : List Key). k ∷ qs) (keys-ready kind t ks)

pub texts-ready : (kind : Kind) (t : Table) (ks : List Key) → HaveTexts kind (map (ready kind t) ks)
texts-ready kind t [] = tt
texts-ready kind t (k ∷ ks) = (refl, texts-ready kind t ks)

pub length-ready : (kind : Kind) (t : Table) (ks : List Key)
    → length (map (ready kind t) ks) ≡ length ks
length-ready kind t [] = refl
length-ready kind t (k ∷ ks) = ap suc (length-ready kind t ks)

heads : {A : Type 0} (x y : A) (xs ys : List A) → x ∷ xs ≡ y ∷ ys → x ≡ y
heads x y xs ys h = cc

tails : {A : Type 0} (x y : A) (xs ys : List A) → x ∷ xs ≡ y ∷ ys → xs ≡ ys
tails x y xs ys h = cc

-- entries with the right numbers and texts are ready
pub are_ready : (kind : Kind) (t : Table) (entries : List (Key × (ℕ × Row)))
    → map numbered entries ≡ map (λ k. (k, number_of t k)) (keys entries) → HaveTexts kind entries
    → entries ≡ map (ready kind t) (keys entries)
are_ready kind t [] h texts = refl
are_ready kind t (e ∷ entries) h texts =
    let number : e.1.0 ≡ number_of t e.0 =
    ap (λ (p : Key × ℕ). p.1) (heads (numbered e) (e.0, number_of t e.0) _ _ h) in
    let rest = are_ready kind t entries (tails (numbered e) (e.0, number_of t e.0) _ _ h) texts.1 in
    λ j. (e.0, (number j, texts.0 j)) ∷ rest j

-- comparing and testing keys say the same
pub is_eq-key_cmp : (a b : Key) → is_eq (key_cmp a b) ≡ same_key a b
is_eq-key_cmp a b =
    both_eq (slice_cmp nat_cmp a.source b.source) (slice_cmp nat_cmp a.arch b.arch)
    ∙ (λ j. is_eq-slice_cmp a.source b.source j && is_eq-slice_cmp a.arch b.arch j)
  where
    both_eq : (o p : Ordering) → is_eq (ordering_then o p) ≡ (is_eq o && is_eq p)
    both_eq Less p = refl
    both_eq Equal p = refl
    both_eq Greater p = refl

module _ (k : Key) where
  pub numbered-remove : (entries : List (Key × (ℕ × Row))) → map numbered
      (remove_entry (is_at (key_cmp k)) entries) ≡ without_row k (map numbered entries)
  numbered-remove [] = refl
  numbered-remove (e ∷ entries) =
      ap (λ b. map numbered (cond b entries (e ∷ remove_entry (is_at (key_cmp k)) entries)))
      (is_eq-key_cmp k e.0)
      ∙ elim (same_key k e.0) as (λ b.
      map numbered (cond b entries (e ∷ remove_entry (is_at (key_cmp k)) entries))
      ≡ (if b then map numbered entries else numbered e ∷ without_row k (map numbered entries))) [
        | true ↦ refl
        | false ↦ ap (λ (rows : List (Key × ℕ)). numbered e ∷ rows) (numbered-remove entries)
      ]

  below-remove : (x : Key) (entries : List (Key × (ℕ × Row))) → below_all x (keys entries) ≡ true
      → below_all x (keys (remove_entry (is_at (key_cmp k)) entries)) ≡ true
  below-remove x [] h = refl
  below-remove x (e ∷ entries) h =
      let both = and_parts (is_lt (key_cmp x e.0)) (below_all x (keys entries)) h in
      elim (is_eq (key_cmp k e.0)) as (λ b.
      below_all x (keys (cond b entries (e ∷ remove_entry (is_at (key_cmp k)) entries))) ≡ true) [
        | true ↦ both.1
        | false ↦ λ j. both.0 j && below-remove x entries both.1 j
      ]

  pub rising-remove : (entries : List (Key × (ℕ × Row))) → ascending (keys entries) ≡ true
      → ascending (keys (remove_entry (is_at (key_cmp k)) entries)) ≡ true
  rising-remove [] h = refl
  rising-remove (e ∷ entries) h =
      let both = and_parts (below_all e.0 (keys entries)) (ascending (keys entries)) h in
      elim (is_eq (key_cmp k e.0)) as (λ b.
      ascending (keys (cond b entries (e ∷ remove_entry (is_at (key_cmp k)) entries))) ≡ true) [
        | true ↦ both.1
        | false ↦ λ j. below-remove e.0 entries both.0 j && rising-remove entries both.1 j
      ]

  pub texts-remove : (kind : Kind) (entries : List (Key × (ℕ × Row))) → HaveTexts kind entries
      → HaveTexts kind (remove_entry (is_at (key_cmp k)) entries)
  texts-remove kind [] h = tt
  texts-remove kind (e ∷ entries) h =
      elim (is_eq (key_cmp k e.0)) as (λ b.
      HaveTexts kind (cond b entries (e ∷ remove_entry (is_at (key_cmp k)) entries))) [
        | true ↦ h.1
        | false ↦ (h.0, texts-remove kind entries h.1)
      ]

  pub length-remove : (entries : List (Key × (ℕ × Row)))
      → length (remove_entry (is_at (key_cmp k)) entries) ≤ length entries
  length-remove [] = omega arith
  length-remove (e ∷ entries) =
      elim (is_eq (key_cmp k e.0)) as (λ b.
      length (cond b entries (e ∷ remove_entry (is_at (key_cmp k)) entries))
      ≤ suc (length entries)) [
        | true ↦ omega arith
        | false ↦ omega (arith, length-remove entries)
      ]

  -- the plan on the keys but for one
  pub without_row-plan : (t : Table) (ks : List Key) → without_row k
      (map (λ q. (q, number_of t q)) ks) ≡ map (λ q. (q, number_of t q)) (without k ks)
  without_row-plan t [] = refl
  without_row-plan t (q ∷ ks) =
      elim (same_key k q) as (λ b.
      (if b then map (λ x. (x, number_of t x)) ks
      else (q, number_of t q) ∷ without_row k (map (λ x. (x, number_of t x)) ks))
      ≡ map (λ x. (x, number_of t x)) (if b then ks else q ∷ without k ks)) [
        | true ↦ refl
        | false ↦ ap (λ (rows : List (Key × ℕ)). (q, number_of t q) ∷ rows) (without_row-plan t ks)
      ]

-- how far the change is made: these entries are left, and lead to the rows and kept cells of all
pub record Left (kind : Kind) (entries : List (Key × (ℕ × Row))) (rows : Table)
    (kept : List (ℕ × Row)) (all : List Key) (was : Table) : Type 0 where
  pub ready_left : entries ≡ map (ready kind rows) (keys entries)
  pub rising : ascending (keys entries) ≡ true
  pub sorted : ascending (keys_of rows) ≡ true
  pub fit : AppliesOn rows kind (keys entries)
  pub leads : applied kind (keys entries) rows ≡ applied kind all was
  pub keeps : kept ++ map (kept_of (written kind) rows) (keys entries)
      ≡ map (kept_of (written kind) was) all

pub Left-start : (kind : Kind) (entries : List (Key × (ℕ × Row))) (rows : Table)
    (kept : List (ℕ × Row)) → ascending (keys_of rows) ≡ true → ascending (keys entries) ≡ true
    → map numbered entries
    ≡ map (λ k. (k, number_of rows k)) (map (λ p. p.0) (map numbered entries))
    → HaveTexts kind entries
    → AppliesOn rows kind (map (λ p. p.0) (map numbered entries)) → kept ≡ []
    → Left kind entries rows kept (map (λ p. p.0) (map numbered entries)) rows
Left-start kind entries rows kept sorted rising plan texts fit none = record {
  ready_left = are_ready kind rows entries
      (plan ∙ ap (map (λ k. (k, number_of rows k))) (left-numbered entries)) texts;
  rising = rising;
  sorted = sorted;
  fit = subst (λ (ks : List Key). AppliesOn rows kind ks) (left-numbered entries) fit;
  leads = ap (λ (ks : List Key). applied kind ks rows) (sym (left-numbered entries));
  keeps = ap (λ (ys : List (ℕ × Row)). ys ++ map (kept_of (written kind) rows) (keys entries)) none
      ∙ ap (map (kept_of (written kind) rows)) (sym (left-numbered entries));
}

-- the row of another key stays
row_of-apart : (t : Table) (k q : Key) (f : Row → Row) → same_key q k ≡ false
    → row_of (each_row (at_key k f) t) q ≡ row_of t q
row_of-apart t k q f other =
    row_of-each_row (at_key k f) t q
    ∙ elim (row_of t q) as (λ o. option_map (at_key k f q) o ≡ o) [
      | Some r ↦
          ap (λ b. Some (if b then f r else r)) other
      | None ↦ refl
    ]

fits-row : (t : Table) (kind : Kind) (k : Key) → fits t kind k ≡ true
    → (r : Row) × ((row_of t k ≡ Some r) × (applies kind r ≡ true))
fits-row t kind k fit =
    elim (row_of t k) as (λ o.
    row_of t k ≡ o → (elim o as (λ _. Bool) [ Some row ↦ applies kind row | None ↦ false ]) ≡ true
    → (r : Row) × ((row_of t k ≡ Some r) × (applies kind r ≡ true))) [
      | Some r ↦ λ e h. (r, (e, h))
      | None ↦ λ _ h. absurd cc
    ] refl fit

-- the next entry: its number is its key's, its row is there, and the kind applies on it
pub record Next (kind : Kind) (k : Key) (n : ℕ) (texts : Row) (rows : Table) : Type 0 where
  pub row : Row
  pub number : n ≡ number_of rows k
  pub texts_are : texts ≡ texts_of kind
  pub found : row_of rows k ≡ Some row
  pub at : slice_get rows n ≡ Some (k, row)
  pub fits_row : applies kind row ≡ true

pub Left-next : (kind : Kind) (k : Key) (n : ℕ) (texts : Row) (rest : List (Key × (ℕ × Row)))
    (rows : Table) (kept : List (ℕ × Row)) (all : List Key) (was : Table)
    → Left kind ((k, (n, texts)) ∷ rest) rows kept all was → Next kind k n texts rows
Left-next kind k n texts rest rows kept all was l =
    let found = fits-row rows kind k
    (l.fit k (ap (λ b. if b then true else names (keys rest) k) (same_key-refl k))) in
    let head : ◌≡◌ {A = ℕ × Row} (n, texts) (number_of rows k, texts_of kind) =
    ap (λ (p : Key × (ℕ × Row)). p.1)
    (heads (k, (n, texts)) (ready kind rows k) _ _ l.ready_left) in
    let number : n ≡ number_of rows k = ap (λ (p : ℕ × Row). p.0) head in
    record {
      row = found.0;
      number = number;
      texts_are = ap (λ (p : ℕ × Row). p.1) head;
      found = found.1.0;
      at = ap (slice_get rows) number ∙ slice_get-number_of rows k found.0 found.1.0;
      fits_row = found.1.1;
    }

pub Left-step : (kind : Kind) (k : Key) (n : ℕ) (texts : Row) (rest : List (Key × (ℕ × Row)))
    (rows rows' : Table) (kept kept' : List (ℕ × Row)) (all : List Key) (was : Table) (row : Row)
    → Left kind ((k, (n, texts)) ∷ rest) rows kept all was → rows' ≡ changed_at n (means kind) rows
    → IfSome (slice_get rows n) (λ p. row ≡ only (written kind) p.1)
    → kept' ≡ kept ++ (n, row) ∷ [] → Left kind rest rows' kept' all was
Left-step kind k n texts rest rows rows' kept kept' all was row l changed saves pushed =
    let next = Left-next kind k n texts rest rows kept all was l in
    let both = and_parts (below_all k (keys rest)) (ascending (keys rest)) l.rising in
    let unnamed : names (keys rest) k ≡ false = names-below k (keys rest) both.0 in
    let now : rows' ≡ each_row (at_key k (means kind)) rows =
    changed ∙ changed_at-each_row rows k n next.row (means kind) l.sorted next.at in
    let keys_are : keys_of rows' ≡ keys_of rows =
    ap keys_of now ∙ keys_of-each_row (at_key k (means kind)) rows in
    let apart : (q : Key) → names (keys rest) q ≡ true → row_of rows' q ≡ row_of rows q =
    λ q named. ap (λ (t : Table). row_of t q) now
    ∙ row_of-apart rows k q (means kind) (named-apart (keys rest) k q unnamed named) in
    let tail : rest ≡ map (ready kind rows) (keys rest) =
    tails (k, (n, texts)) (ready kind rows k) _ _ l.ready_left in
    let row_is : row ≡ only (written kind) next.row =
    subst (λ (o : Option (Key × Row)). IfSome o (λ p. row ≡ only (written kind) p.1)) next.at
    saves in
    let here : ◌≡◌ {A = ℕ × Row} (n, row) (kept_of (written kind) rows k) =
    λ j. (
      next.number j,
      (row_is ∙ ap (λ (o : Option Row). only (written kind) (unwrap_or o blank)) (sym next.found))
          j,
    ) in
    record {
      ready_left = tail ∙ ap
          (λ (ks : List Key). map (λ q. (q, (place_of ks q, texts_of kind))) (keys rest))
          (sym keys_are);
      rising = both.1;
      sorted = ap ascending keys_are ∙ l.sorted;
      fit = λ q named. ap (λ o. elim o as (λ _. Bool) [ Some r ↦ applies kind r | None ↦ false ])
          (apart q named) ∙ l.fit q (names-more (keys rest) k q named);
      leads = ap (applied kind (keys rest)) now ∙ applied-first kind k (keys rest) rows unnamed
          ∙ l.leads;
      keeps =
          ap (λ (ys : List (ℕ × Row)). ys ++ map (kept_of (written kind) rows') (keys rest)) pushed
          ∙ append_assoc kept ((n, row) ∷ []) (map (kept_of (written kind) rows') (keys rest))
          ∙ (λ j. kept ++ here j
          ∷ map-agree (kept_of (written kind) rows') (kept_of (written kind) rows) (keys rest)
          (λ q named i.
          (place_of (keys_are i) q, only (written kind) (unwrap_or (apart q named i) blank))) j)
          ∙ l.keeps;
    }

-- nothing is left
pub Left-end : (kind : Kind) (entries : List (Key × (ℕ × Row))) (rows : Table)
    (kept : List (ℕ × Row)) (all : List Key) (was : Table)
    → Left kind entries rows kept all was → entries ≡ []
    → (rows ≡ applied kind all was) × (kept ≡ map (kept_of (written kind) was) all)
Left-end kind entries rows kept all was l none = (
  sym (each_row-itself rows)
      ∙ ap (λ (es : List (Key × (ℕ × Row))). applied kind (keys es) rows) (sym none) ∙ l.leads,
  sym (append-nil kept) ∙ ap
      (λ (es : List (Key × (ℕ × Row))). kept ++ map (kept_of (written kind) rows) (keys es))
      (sym none) ∙ l.keeps,
)

pub left-plan_of : (kind : Kind) (ks : List Key) (t : Table) → left (plan_of kind ks t) ≡ ks
left-plan_of kind [] t = refl
left-plan_of kind (k ∷ ks) t = ap (λ (qs : List Key). k ∷ qs) (left-plan_of kind ks t)

-- a plan of certain keys is the plan of those that are left to it
pub plan_of-itself : (p : Planned) (kind : Kind) (ks : List Key) (t : Table) → p ≡ plan_of kind ks t
    → p ≡ plan_of p.kind (left p) t
plan_of-itself p kind ks t h =
    subst (λ (q : Planned). q ≡ plan_of q.kind (left q) t) (sym h)
    (ap (λ (qs : List Key). plan_of kind qs t) (sym (left-plan_of kind ks t)))

pub AppliesOn-plan_of : (p : Planned) (kind : Kind) (ks : List Key) (t : Table)
    → p ≡ plan_of kind ks t → AppliesOn t kind ks → AppliesOn t p.kind (left p)
AppliesOn-plan_of p kind ks t h applies =
    subst (λ (q : Planned). AppliesOn t q.kind (left q)) (sym h)
    (subst (λ (qs : List Key). AppliesOn t kind qs) (sym (left-plan_of kind ks t)) applies)

pub saved-plan_of : (p : Planned) (kind : Kind) (ks : List Key) (t : Table) → p ≡ plan_of kind ks t
    → saved p.kind (left p) t ≡ saved kind ks t
saved-plan_of p kind ks t h =
    ap (λ (q : Planned). saved q.kind (left q) t) h
    ∙ ap (λ (qs : List Key). saved kind qs t) (left-plan_of kind ks t)

pub applied-plan_of : (p : Planned) (kind : Kind) (ks : List Key) (t : Table)
    → p ≡ plan_of kind ks t → applied p.kind (left p) t ≡ applied kind ks t
applied-plan_of p kind ks t h =
    ap (λ (q : Planned). applied q.kind (left q) t) h
    ∙ ap (λ (qs : List Key). applied kind qs t) (left-plan_of kind ks t)

-- rows with the same keys have the same plans
pub plan_of-same_keys : (kind : Kind) (ks : List Key) (t u : Table) → keys_of t ≡ keys_of u
    → plan_of kind ks t ≡ plan_of kind ks u
plan_of-same_keys kind ks t u same =
    ap (λ (qs : List Key). record { kind = kind; rows = map (λ k. (k, place_of qs k)) ks }) same

-- a key that is left out leaves the plan of the others
pub left_out-plan_of : (k : Key) (kind : Kind) (ks : List Key) (t : Table)
    → left_out k (plan_of kind ks t) ≡ plan_of kind (without k ks) t
left_out-plan_of k kind ks t =
    ap (λ (rows : List (Key × ℕ)). record { kind = kind; rows = rows }) (without_row-plan k t ks)

-- where the kind applies there are rows
pub HaveRows-AppliesOn : (t : Table) (kind : Kind) (ks : List Key) → AppliesOn t kind ks
    → HaveRows t ks
HaveRows-AppliesOn t kind ks applies k named =
    let found = fits-row t kind k (applies k named) in ap is_some found.1.0

-- the next key with the number of its row
pub entries-next : (kind : Kind) (t : Table) (ks : List Key) (i : ℕ) (k : Key) (n : ℕ) (texts : Row)
    (entries : List (Key × (ℕ × Row)))
    → ascending ks ≡ true → ascending (keys_of t) ≡ true → i < length ks → k ≡ get_or ks i k
    → IsAt t k n → texts ≡ texts_of kind
    → entries ≡ map (ready kind t) (take i ks)
    → insert_entry key_cmp entries k (n, texts) ≡ map (ready kind t) (take (i + 1) ks)
entries-next kind t ks i k n texts entries up sorted within is at texts_are before =
    let f : Key → ℕ × Row = λ q. (number_of t q, texts_of kind) in
    let value : ◌≡◌ {A = ℕ × Row} (n, texts) (f k) =
    λ j. (number_of-at t k n at.row sorted at.at j, texts_are j) in
    ap (λ (es : List (Key × (ℕ × Row))). insert_entry key_cmp es k (n, texts)) before
    ∙ insert_entry-next f ks i k (n, texts) up within is
    ∙ (λ j. map (ready kind t) (take i ks) ++ (k, value j) ∷ [])
    ∙ ap (λ (q : Key). map (ready kind t) (take i ks) ++ ready kind t q ∷ []) is
    ∙ sym (map-append (ready kind t) (take i ks) (get_or ks i k ∷ []))
    ∙ ap (map (ready kind t)) (sym (take_more ks i k within))

-- a key without a row isn't among the keys
pub no_row : (t : Table) (ks : List Key) (i : ℕ) (k : Key) → HaveRows t ks → i < length ks
    → k ≡ get_or ks i k → row_of t k ≡ None → ⊥
no_row t ks i k have within is gone =
    let some : is_some (row_of t k) ≡ true =
    have k (subst (λ (q : Key). names ks q ≡ true) (sym is) (names-at ks i k within)) in
    let bad : true ≡ false = sym some ∙ ap is_some gone in cc
