-- The opening rows of an archive as a table, and those of some of its sources in it.
use Rattle.std.proofs.Common.{◌≡◌, ◌||◌, Bool, true, false, List, [], ◌∷◌, Option, Some, None}
use Rattle.std.proofs.Common.{filter, if◌then◌else◌, refl, sym, ap, ◌∙◌, inl, inr}
use Rattle.std.specs.Prelude.{Err, IfOk, Ok, Result, is_some}
use Rattle.std.specs.List.{list_any}
use Rattle.std.specs.Option.{option_or}
use Rattle.std.specs.Ordering.{is_lt, ordering_reverse}
use Rattle.std.specs.declared.cmp.Ordering.{Ordering}
use Rattle.std.specs.declared.cmp.Ordering.TheVariants.{Equal, Greater, Less}
use Rattle.std.proofs.lemmas.Bool.{and_from, and_parts, cases_Bool}
use Rattle.td_relation.specs.Table.{IsApart}
use Rattle.td_rows.specs.declared.key.Key.{Key}
use Rattle.td_rows.specs.declared.row.Row.{Row}
use Rattle.td_rows.specs.Keys.{ascending, below_all, key_cmp, same_key}
use Rattle.td_rows.specs.Table.{Table, keys_of, row_of}
use Rattle.td_rows.proofs.Keys.{below-apart, key_total, same_key-true}
use Rattle.td_rows.proofs.Rising.{is_less}
use Rattle.td_rows.proofs.Sorting.{key_cmp-equal, table-same}
use Rattle.td_indices.specs.Archive.{Contents}
use Rattle.td_indices.specs.Choosing.{AreOpenedOf, is_of_one}
use Rattle.td_indices.specs.Counting.{Apart}
use Rattle.td_indices.specs.Opening.{opening_row}
use Rattle.td_indices.specs.Sources.{KeptSource, same_source}
use Rattle.td_indices.proofs.OpeningCounts.{all_keys, opens_among}

-- ---- 1. a row is put in its place

-- by how its key compares with the first one's: before it, not at all, or among those behind it
abbrev placed_by : Ordering → Key × Row → Key × Row → Table → Table → Table
placed_by Less new p t behind = new ∷ p ∷ t
placed_by Equal new p t behind = p ∷ t
placed_by Greater new p t behind = p ∷ behind

-- the table with a row before the first greater key; a row of the same key stays as it is
abbrev placed : Key → Row → Table → Table
placed k row [] = (k, row) ∷ []
placed k row (p ∷ t) = placed_by (key_cmp k p.0) (k, row) p t (placed k row t)

-- what is below a key is below all that the key is below
below_further : (k q : Key) (ks : List Key) → is_lt (key_cmp k q) ≡ true → below_all q ks ≡ true
    → below_all k ks ≡ true
below_further k q [] lower below = refl
below_further k q (x ∷ ks) lower below =
    let both = and_parts (is_lt (key_cmp q x)) (below_all q ks) below in
    and_from (is_lt (key_cmp k x)) (below_all k ks)
    (ap is_lt (key_total.trans k q x (is_less (key_cmp k q) lower) (is_less (key_cmp q x) both.0)))
    (below_further k q ks lower both.1)

-- where one key isn't below another, nor it, the other is below it
below_back : (k q : Key) → key_cmp k q ≡ Greater → is_lt (key_cmp q k) ≡ true
below_back k q above = ap is_lt (key_total.antisymm q k ∙ ap ordering_reverse above)

below_placed : (x k : Key) (row : Row) (t : Table) → is_lt (key_cmp x k) ≡ true
    → below_all x (keys_of t) ≡ true → below_all x (keys_of (placed k row t)) ≡ true
below_placed x k row [] lower below = and_from (is_lt (key_cmp x k)) true lower refl
below_placed x k row (p ∷ t) lower below =
    by (λ further. below_placed x k row t lower further) (key_cmp k p.0) refl
  where
    both : (is_lt (key_cmp x p.0) ≡ true) × (below_all x (keys_of t) ≡ true)
    both = and_parts (is_lt (key_cmp x p.0)) (below_all x (keys_of t)) below

    of : Ordering → Bool
    of o = below_all x (keys_of (placed_by o (k, row) p t (placed k row t)))

    by : (below_all x (keys_of t) ≡ true → below_all x (keys_of (placed k row t)) ≡ true)
        → (o : Ordering) → key_cmp k p.0 ≡ o → of (key_cmp k p.0) ≡ true
    by rest Less e =
        ap of e ∙ and_from (is_lt (key_cmp x k)) (below_all x (p.0 ∷ keys_of t)) lower below
    by rest Equal e = ap of e ∙ below
    by rest Greater e =
        ap of e
        ∙ and_from (is_lt (key_cmp x p.0)) (below_all x (keys_of (placed k row t))) both.0
        (rest both.1)

rising_placed : (k : Key) (row : Row) (t : Table) → ascending (keys_of t) ≡ true
    → ascending (keys_of (placed k row t)) ≡ true
rising_placed k row [] up = refl
rising_placed k row (p ∷ t) up =
    by (λ further. rising_placed k row t further) (key_cmp k p.0) refl
  where
    both : (below_all p.0 (keys_of t) ≡ true) × (ascending (keys_of t) ≡ true)
    both = and_parts (below_all p.0 (keys_of t)) (ascending (keys_of t)) up

    of : Ordering → Bool
    of o = ascending (keys_of (placed_by o (k, row) p t (placed k row t)))

    by : (ascending (keys_of t) ≡ true → ascending (keys_of (placed k row t)) ≡ true)
        → (o : Ordering) → key_cmp k p.0 ≡ o → of (key_cmp k p.0) ≡ true
    by rest Less e =
        ap of e
        ∙ and_from (below_all k (p.0 ∷ keys_of t)) (ascending (p.0 ∷ keys_of t))
        (and_from (is_lt (key_cmp k p.0)) (below_all k (keys_of t)) (ap is_lt e)
        (below_further k p.0 (keys_of t) (ap is_lt e) both.0)) up
    by rest Equal e = ap of e ∙ up
    by rest Greater e =
        ap of e
        ∙ and_from (below_all p.0 (keys_of (placed k row t)))
        (ascending (keys_of (placed k row t)))
        (below_placed p.0 k row t (below_back k p.0 e) both.0) (rest both.1)

no_row_below : (k : Key) (t : Table) → below_all k (keys_of t) ≡ true → row_of t k ≡ None
no_row_below k [] below = refl
no_row_below k (p ∷ t) below =
    let both = and_parts (is_lt (key_cmp k p.0)) (below_all k (keys_of t)) below in
    rw (below-apart k p.0 both.0) (no_row_below k t both.1)

option_or-none : (o : Option Row) → o ≡ option_or o None
option_or-none None = refl
option_or-none (Some row) = refl

-- the row of a key is the one that was there, or else the new one
row_of-placed : (k : Key) (row : Row) (t : Table) (q : Key) → ascending (keys_of t) ≡ true
    → row_of (placed k row t) q
    ≡ option_or (row_of t q) (if same_key q k then Some row else None)
row_of-placed k row [] q up = refl
row_of-placed k row (p ∷ t) q up =
    by (λ further. row_of-placed k row t q further) (key_cmp k p.0) refl
  where
    both : (below_all p.0 (keys_of t) ≡ true) × (ascending (keys_of t) ≡ true)
    both = and_parts (below_all p.0 (keys_of t)) (ascending (keys_of t)) up

    new : Option Row
    new = if same_key q k then Some row else None

    of : Ordering → Option Row
    of o = row_of (placed_by o (k, row) p t (placed k row t)) q

    before : key_cmp k p.0 ≡ Less
        → (if same_key q k then Some row else row_of (p ∷ t) q) ≡ option_or (row_of (p ∷ t) q) new
    before e =
        elim (cases_Bool (same_key q k)) [
          | inl is ↦
              let below : below_all k (p.0 ∷ keys_of t) ≡ true =
              and_from (is_lt (key_cmp k p.0)) (below_all k (keys_of t)) (ap is_lt e)
              (below_further k p.0 (keys_of t) (ap is_lt e) both.0) in
              let none : row_of (p ∷ t) q ≡ None =
              ap (row_of (p ∷ t)) (same_key-true q k is) ∙ no_row_below k (p ∷ t) below in
              ap (λ (b : Bool). if b then Some row else row_of (p ∷ t) q) is
              ∙ sym (ap (λ (o : Option Row). option_or o new) none
              ∙ ap (λ (b : Bool). if b then Some row else None) is)
          | inr other ↦
              ap (λ (b : Bool). if b then Some row else row_of (p ∷ t) q) other
              ∙ option_or-none (row_of (p ∷ t) q)
              ∙ sym (ap (λ (b : Bool). option_or (row_of (p ∷ t) q)
              (if b then Some row else None)) other)
        ]

    same : key_cmp k p.0 ≡ Equal → row_of (p ∷ t) q ≡ option_or (row_of (p ∷ t) q) new
    same e =
        elim (cases_Bool (same_key q k)) [
          | inl is ↦
              let here : same_key q p.0 ≡ true =
              ap (same_key q) (sym (key_cmp-equal k p.0 e)) ∙ is in
              let own : row_of (p ∷ t) q ≡ Some p.1 =
              ap (λ (b : Bool). if b then Some p.1 else row_of t q) here in
              own ∙ sym (ap (λ (o : Option Row). option_or o new) own)
          | inr other ↦
              option_or-none (row_of (p ∷ t) q)
              ∙ sym (ap (λ (b : Bool). option_or (row_of (p ∷ t) q)
              (if b then Some row else None)) other)
        ]

    behind : row_of (placed k row t) q ≡ option_or (row_of t q) new
        → (if same_key q p.0 then Some p.1 else row_of (placed k row t) q)
        ≡ option_or (row_of (p ∷ t) q) new
    behind rest =
        elim (cases_Bool (same_key q p.0)) [
          | inl is ↦ rw is refl
          | inr other ↦ rw other rest
        ]

    by : (ascending (keys_of t) ≡ true → row_of (placed k row t) q ≡ option_or (row_of t q) new)
        → (o : Ordering) → key_cmp k p.0 ≡ o
        → of (key_cmp k p.0) ≡ option_or (row_of (p ∷ t) q) new
    by rest Less e = ap of e ∙ before e
    by rest Equal e = ap of e ∙ same e
    by rest Greater e = ap of e ∙ behind (rest both.1)

-- ---- 2. a table of keys

abbrev with_row : Key → Option Row → Table → Table
with_row k None t = t
with_row k (Some row) t = placed k row t

-- the rows that these keys have
abbrev table_of : (Key → Option Row) → List Key → Table
table_of f [] = []
table_of f (k ∷ keys) = with_row k (f k) (table_of f keys)

rising_with : (k : Key) (o : Option Row) (t : Table) → ascending (keys_of t) ≡ true
    → ascending (keys_of (with_row k o t)) ≡ true
rising_with k None t up = up
rising_with k (Some row) t up = rising_placed k row t up

rising_table : (f : Key → Option Row) (keys : List Key) → ascending (keys_of (table_of f keys)) ≡ true
rising_table f [] = refl
rising_table f (k ∷ keys) = rising_with k (f k) (table_of f keys) (rising_table f keys)

row_of-table : (f : Key → Option Row) (keys : List Key) (q : Key)
    → row_of (table_of f keys) q ≡ (if list_any (same_key q) keys then f q else None)
row_of-table f [] q = refl
row_of-table f (k ∷ keys) q = by (row_of-table f keys q) (f k) refl
  where
    rest : Table
    rest = table_of f keys

    there : Bool
    there = list_any (same_key q) keys

    its : same_key q k ≡ true → f q ≡ f k
    its is = ap f (same_key-true q k is)

    nothing : (b : Bool) → f q ≡ None → (if b then f q else None) ≡ None
    nothing true none = none
    nothing false none = refl

    kept : (b : Bool) (row : Row) → f q ≡ Some row
        → option_or (if b then f q else None) (Some row) ≡ f q
    kept true row is = ap (λ (o : Option Row). option_or o (Some row)) is ∙ sym is
    kept false row is = sym is

    by : row_of rest q ≡ (if there then f q else None) → (o : Option Row) → f k ≡ o
        → row_of (with_row k (f k) rest) q ≡ (if same_key q k || there then f q else None)
    by so_far None e =
        ap (λ (o : Option Row). row_of (with_row k o rest) q) e ∙ so_far
        ∙ elim (cases_Bool (same_key q k)) [
          | inl is ↦
              nothing there (its is ∙ e)
              ∙ sym (ap (λ (b : Bool). if b || there then f q else None) is ∙ its is ∙ e)
          | inr other ↦ sym (ap (λ (b : Bool). if b || there then f q else None) other)
        ]
    by so_far (Some row) e =
        ap (λ (o : Option Row). row_of (with_row k o rest) q) e
        ∙ row_of-placed k row rest q (rising_table f keys)
        ∙ ap (λ (o : Option Row). option_or o (if same_key q k then Some row else None)) so_far
        ∙ elim (cases_Bool (same_key q k)) [
          | inl is ↦
              ap (λ (b : Bool). option_or (if there then f q else None)
              (if b then Some row else None)) is
              ∙ kept there row (its is ∙ e)
              ∙ sym (ap (λ (b : Bool). if b || there then f q else None) is)
          | inr other ↦
              ap (λ (b : Bool). option_or (if there then f q else None)
              (if b then Some row else None)) other
              ∙ sym (option_or-none (if there then f q else None))
              ∙ sym (ap (λ (b : Bool). if b || there then f q else None) other)
        ]

-- the opening rows of an archive
abbrev opened_table : Contents → Table
opened_table a = table_of (opening_row a) (all_keys a.table a.sources)

given_back : (o : Option Row) (b : Bool) → b ≡ is_some o → (if b then o else None) ≡ o
given_back None true is = refl
given_back None false is = refl
given_back (Some row) b is = ap (λ (c : Bool). if c then Some row else None) is

row_of-opened : (a : Contents) (k : Key) → IsApart a.table → Apart same_source a.sources
    → row_of (opened_table a) k ≡ opening_row a k
row_of-opened a k apart names =
    row_of-table (opening_row a) (all_keys a.table a.sources) k
    ∙ given_back (opening_row a k) (list_any (same_key k) (all_keys a.table a.sources))
    (opens_among a k apart names)

-- ---- 3. some of a table's rows

below_filter : (x : Key) (keep : Key × Row → Bool) (t : Table) → below_all x (keys_of t) ≡ true
    → below_all x (keys_of (filter keep t)) ≡ true
below_filter x keep [] below = refl
below_filter x keep (p ∷ t) below =
    let both = and_parts (is_lt (key_cmp x p.0)) (below_all x (keys_of t)) below in
    elim (cases_Bool (keep p)) [
      | inl is ↦
          ap (λ (b : Bool). below_all x (keys_of (if b then p ∷ filter keep t else filter keep t)))
          is
          ∙ and_from (is_lt (key_cmp x p.0)) (below_all x (keys_of (filter keep t))) both.0
          (below_filter x keep t both.1)
      | inr other ↦
          ap (λ (b : Bool). below_all x (keys_of (if b then p ∷ filter keep t else filter keep t)))
          other
          ∙ below_filter x keep t both.1
    ]

rising_filter : (keep : Key × Row → Bool) (t : Table) → ascending (keys_of t) ≡ true
    → ascending (keys_of (filter keep t)) ≡ true
rising_filter keep [] up = refl
rising_filter keep (p ∷ t) up =
    let both = and_parts (below_all p.0 (keys_of t)) (ascending (keys_of t)) up in
    elim (cases_Bool (keep p)) [
      | inl is ↦
          ap (λ (b : Bool). ascending (keys_of (if b then p ∷ filter keep t else filter keep t))) is
          ∙ and_from (below_all p.0 (keys_of (filter keep t))) (ascending (keys_of (filter keep t)))
          (below_filter p.0 keep t both.0) (rising_filter keep t both.1)
      | inr other ↦
          ap (λ (b : Bool). ascending (keys_of (if b then p ∷ filter keep t else filter keep t)))
          other
          ∙ rising_filter keep t both.1
    ]

-- the row of a key, where the key passes
row_of-filter : (keep : Key → Bool) (t : Table) (q : Key)
    → row_of (filter (λ p. keep p.0) t) q ≡ (if keep q then row_of t q else None)
row_of-filter keep [] q =
    elim (cases_Bool (keep q)) [
      | inl is ↦ rw is refl
      | inr other ↦ rw other refl
    ]
row_of-filter keep (p ∷ t) q =
    let kept : Table = filter (λ p. keep p.0) t in
    let of : Bool → Option Row = λ b. row_of (if b then p ∷ kept else kept) q in
    elim (cases_Bool (same_key q p.0)) [
      | inl is ↦
          let its : keep q ≡ keep p.0 = ap keep (same_key-true q p.0 is) in
          elim (cases_Bool (keep p.0)) [
            | inl is_in ↦
                ap of is_in ∙ ap (λ (b : Bool). if b then Some p.1 else row_of kept q) is
                ∙ sym (ap (λ (b : Bool). if b then row_of (p ∷ t) q else None) (its ∙ is_in)
                ∙ ap (λ (b : Bool). if b then Some p.1 else row_of t q) is)
            | inr out ↦
                ap of out ∙ row_of-filter keep t q
                ∙ ap (λ (b : Bool). if b then row_of t q else None) (its ∙ out)
                ∙ sym (ap (λ (b : Bool). if b then row_of (p ∷ t) q else None) (its ∙ out))
          ]
      | inr other ↦
          let past : (if keep q then row_of t q else None)
          ≡ (if keep q then row_of (p ∷ t) q else None) =
          ap (λ (o : Option Row). if keep q then o else None)
          (sym (ap (λ (b : Bool). if b then Some p.1 else row_of t q) other)) in
          elim (cases_Bool (keep p.0)) [
            | inl is_in ↦
                ap of is_in ∙ ap (λ (b : Bool). if b then Some p.1 else row_of kept q) other
                ∙ row_of-filter keep t q ∙ past
            | inr out ↦ ap of out ∙ row_of-filter keep t q ∙ past
          ]
    ]

-- rows that rise, and are the opening rows of some sources' keys
pub opened_of : (a : Contents) (sources : List KeptSource) (rows : Table) → IsApart a.table
    → Apart same_source a.sources → ascending (keys_of rows) ≡ true
    → ((k : Key) → row_of rows k ≡ (if is_of_one sources k then opening_row a k else None))
    → AreOpenedOf a sources rows
opened_of a sources rows apart names up same =
    let all : Table = opened_table a in
    let rising : ascending (keys_of all) ≡ true =
    rising_table (opening_row a) (all_keys a.table a.sources) in
    let opened : (k : Key) → row_of all k ≡ opening_row a k =
    λ k. row_of-opened a k apart names in
    let keep : Key → Bool = is_of_one sources in
    record {
      all = all;
      opened = opened;
      rising = rising;
      own = table-same rows (filter (λ p. keep p.0) all) up (rising_filter (λ p. keep p.0) all rising)
          (λ k. same k ∙ sym (row_of-filter keep all k
          ∙ ap (λ (o : Option Row). if keep k then o else None) (opened k)));
    }

pub rows_opened_of : {E : Type 0} (a : Contents) (sources : List KeptSource) (r : Result Table E)
    → IsApart a.table → Apart same_source a.sources
    → IfOk r (λ t. ascending (keys_of t) ≡ true)
    → IfOk r (λ t. (k : Key)
    → row_of t k ≡ (if is_of_one sources k then opening_row a k else None))
    → IfOk r (AreOpenedOf a sources)
rows_opened_of a sources (Ok t) apart names up rows = opened_of a sources t apart names up rows
rows_opened_of a sources (Err e) apart names up rows = tt
