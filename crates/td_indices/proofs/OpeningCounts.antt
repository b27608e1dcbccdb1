-- The opening rows are as many as the pairs of a source and an architecture with a row.
use Rattle.std.proofs.Common.{◌≡◌, ℕ, zero, suc, ◌+◌, ◌<◌, ◌≤◌, Bool, true, false, ◌&&◌, ◌||◌}
use Rattle.std.proofs.Common.{nat_lt, List, [], ◌∷◌, ◌++◌, Option, Some, None, Result, Ok, Err}
use Rattle.std.proofs.Common.{length, slice_get, add-one, if◌then◌else◌, refl, sym, ap, ◌∙◌, inl}
use Rattle.std.proofs.Common.{inr, arith}
use Rattle.std.specs.Prelude.{IfOk, is_some}
use Rattle.std.specs.Cmp.{IsEquivalence}
use Rattle.std.specs.List.{AllByRecursion, IsDistinct, find, list_any}
use Rattle.std.specs.Option.{option_map_or}
use Rattle.std.specs.Ordering.{is_lt}
use Rattle.std.specs.Set.{is_member}
use Rattle.std.specs.Str.{bytes_eq}
use Rattle.std.proofs.Math.Bool.{and-false, or-false}
use Rattle.std.proofs.lemmas.Bool.{and_parts, cases_Bool, or_parts, or_right}
use Rattle.std.proofs.lemmas.List.{length-append, length-map}
use Rattle.std.proofs.lemmas.List.Folds.{list_any-append}
use Rattle.std.proofs.lemmas.List.Sums.{sum_by-cons}
use Rattle.std.proofs.lemmas.Map.Made.{length-from_same_keys}
use Rattle.std.proofs.lemmas.Slice.Eq.{bytes_eq-Decides}
use Rattle.td_relation.specs.Arch.{ArchWords}
use Rattle.td_relation.specs.Table.{IsApart, place_of}
use Rattle.td_rows.specs.declared.key.Key.{Key}
use Rattle.td_rows.specs.declared.row.Row.{Row}
use Rattle.td_rows.specs.Keys.{ascending, below_all, key_cmp, same_key}
use Rattle.td_rows.specs.Table.{Table, keys_of, row_of}
use Rattle.td_rows.proofs.Keys.{below-apart, same_key-apart, same_key-refl, same_key-sym}
use Rattle.td_rows.proofs.Keys.{same_key-true}
use Rattle.td_rows.proofs.Lists.{slice_get-none}
use Rattle.td_indices.specs.Archive.{Contents, source_named}
use Rattle.td_indices.specs.Counting.{Apart}
use Rattle.td_indices.specs.Opening.{opening_at, opening_on, opening_row}
use Rattle.td_indices.specs.OpeningRows.{has_row_before, has_row_on}
use Rattle.td_indices.specs.Rows.{has_row, row_count, rows_before, rows_of}
use Rattle.td_indices.specs.Sources.{KeptSource, same_source}
use Rattle.td_indices.proofs.OpeningRows.{before_end, before_first, before_next, before_past}
use Rattle.td_indices.proofs.OpeningRows.{key_cases}
use Rattle.td_indices.proofs.OwnPlaces.{place_own}

-- ---- 1. keys of which no two are the same

swap : (a b : Key) → same_key a b ≡ same_key b a
swap a b =
    elim (cases_Bool (same_key a b)) [
      | inl is ↦ is ∙ sym (same_key-sym a b is)
      | inr other ↦ other ∙ sym (same_key-apart a b other)
    ]

key_laws : IsEquivalence same_key
key_laws = record {
  refl = same_key-refl;
  symm = swap;
  congr = λ a b q h. ap (λ (k : Key). same_key k q) (same_key-true a b h);
}

-- a key that isn't among others is apart from each, and back
all_apart : (k : Key) (ks : List Key) → list_any (same_key k) ks ≡ false
    → AllByRecursion (λ q. same_key k q ≡ false) ks
all_apart k [] none = tt
all_apart k (q ∷ ks) none =
    let parts = or_parts (same_key k q) (list_any (same_key k) ks) none in
    (parts.0, all_apart k ks parts.1)

not_among : (k : Key) (ks : List Key) → AllByRecursion (λ q. same_key k q ≡ false) ks
    → list_any (same_key k) ks ≡ false
not_among k [] apart = refl
not_among k (q ∷ ks) apart =
    ap (λ (b : Bool). b || list_any (same_key k) ks) apart.0 ∙ not_among k ks apart.1

distinct_more : (k : Key) (ks : List Key) → list_any (same_key k) ks ≡ false
    → IsDistinct same_key ks → IsDistinct same_key (k ∷ ks)
unfolding IsDistinct
distinct_more k ks none distinct = (all_apart k ks none, distinct)

-- two lists that share no key
distinct_joined : (ks qs : List Key) → IsDistinct same_key ks → IsDistinct same_key qs
    → ((k : Key) → list_any (same_key k) ks ≡ true → list_any (same_key k) qs ≡ false)
    → IsDistinct same_key (ks ++ qs)
unfolding IsDistinct
distinct_joined [] qs a b foreign = b
distinct_joined (k ∷ ks) qs a b foreign =
    let own : list_any (same_key k) (k ∷ ks) ≡ true =
    ap (λ (b : Bool). b || list_any (same_key k) ks) (same_key-refl k) in
    let none : list_any (same_key k) (ks ++ qs) ≡ false =
    list_any-append (same_key k) ks qs
    ∙ ap (λ (b : Bool). b || list_any (same_key k) qs) (not_among k ks a.0) ∙ foreign k own in (
      all_apart k (ks ++ qs) none,
      distinct_joined ks qs a.1 b (λ q h.
          foreign q (or_right (same_key q k) (list_any (same_key q) ks) h)),
    )

below_none : (k : Key) (ks : List Key) → below_all k ks ≡ true → list_any (same_key k) ks ≡ false
below_none k [] below = refl
below_none k (q ∷ ks) below =
    let both = and_parts (is_lt (key_cmp k q)) (below_all k ks) below in
    ap (λ (b : Bool). b || list_any (same_key k) ks) (below-apart k q both.0)
    ∙ below_none k ks both.1

-- keys that rise
rising_distinct : (ks : List Key) → ascending ks ≡ true → IsDistinct same_key ks
unfolding IsDistinct
rising_distinct [] up = tt
rising_distinct (k ∷ ks) up =
    let both = and_parts (below_all k ks) (ascending ks) up in
    distinct_more k ks (below_none k ks both.0) (rising_distinct ks both.1)

-- the keys of a table are those with a row
among_keys : (t : Table) (k : Key) → list_any (same_key k) (keys_of t) ≡ is_some (row_of t k)
among_keys [] k = refl
among_keys (p ∷ t) k =
    elim (cases_Bool (same_key k p.0)) [
      | inl is ↦ rw is refl
      | inr other ↦ rw other (among_keys t k)
    ]

-- ---- 2. the keys of a source

abbrev key_under : List ℕ → List ℕ → Key
key_under source arch = record { source = source; arch = arch }

abbrev name_at : Option ArchWords → List ℕ
name_at o = option_map_or (λ a. a.name) o []

-- the key of a source on the architecture at a place
abbrev key_on : List ArchWords → List ℕ → ℕ → Key
key_on table source place = key_under source (name_at (slice_get table place))

-- its keys on the architectures before a place on which it has a row
abbrev keys_before : List ArchWords → List ℕ → List ℕ → ℕ → List Key
keys_before table source archs zero = []
keys_before table source archs (suc place) =
    if has_row table archs place
    then key_on table source place ∷ keys_before table source archs place
    else keys_before table source archs place

length_more : (b : Bool) (k : Key) (ks : List Key) (n : ℕ) → length ks ≡ n
    → length (if b then k ∷ ks else ks) ≡ n + (if b then 1 else 0)
length_more true k ks n h = omega arith
length_more false k ks n h = omega arith

length-keys_before : (table : List ArchWords) (source archs : List ℕ) (place : ℕ)
    → length (keys_before table source archs place) ≡ rows_before table archs place
length-keys_before table source archs zero = refl
length-keys_before table source archs (suc place) =
    length_more (has_row table archs place) (key_on table source place)
    (keys_before table source archs place) (rows_before table archs place)
    (length-keys_before table source archs place)

shared : (own first second : Bool)
    → ((own && second) || (own && first)) ≡ (own && (first || second))
shared false first second = refl
shared true false false = refl
shared true false true = refl
shared true true false = refl
shared true true true = refl

-- which keys they are
among_next : (table : List ArchWords) (source archs : List ℕ) (k : Key) (place : ℕ) → IsApart table
    → place < length table
    → list_any (same_key k) (keys_before table source archs place)
    ≡ (bytes_eq k.source source && has_row_before table archs place k.arch)
    → list_any (same_key k) (keys_before table source archs (suc place))
    ≡ (bytes_eq k.source source && has_row_before table archs (suc place) k.arch)
among_next table source archs k place apart within so_far = by (slice_get table place) refl
  where
    by : (o : Option ArchWords) → slice_get table place ≡ o
        → list_any (same_key k) (keys_before table source archs (suc place))
        ≡ (bytes_eq k.source source && has_row_before table archs (suc place) k.arch)
    by None e = absurd (slice_get-none table place e within)
    by (Some w) e =
        elim (cases_Bool (has_row table archs place)) [
          | inl has ↦
              let its : same_key k (key_on table source place)
              ≡ (bytes_eq k.source source && bytes_eq w.name k.arch) =
              key_cases source w.name k (key_on table source place)
              (ap (λ (o : Option ArchWords). key_under source (name_at o)) e) in
              let more : has_row_before table archs (suc place) k.arch
              ≡ (has_row_before table archs place k.arch || bytes_eq w.name k.arch) =
              ap (λ (n : ℕ). has_row_before table archs n k.arch) (sym (add-one place))
              ∙ before_next table archs k.arch place w apart e has in
              ap (λ (b : Bool). list_any (same_key k)
              (if b then key_on table source place ∷ keys_before table source archs place
              else keys_before table source archs place)) has
              ∙ ap (λ (b : Bool). b || list_any (same_key k) (keys_before table source archs place))
              its
              ∙ ap (λ (b : Bool). (bytes_eq k.source source && bytes_eq w.name k.arch) || b) so_far
              ∙ shared (bytes_eq k.source source) (has_row_before table archs place k.arch)
              (bytes_eq w.name k.arch)
              ∙ ap (λ (b : Bool). bytes_eq k.source source && b) (sym more)
          | inr lacks ↦
              let same : has_row_before table archs (suc place) k.arch
              ≡ has_row_before table archs place k.arch =
              ap (λ (n : ℕ). has_row_before table archs n k.arch) (sym (add-one place))
              ∙ before_past table archs k.arch place lacks in
              ap (λ (b : Bool). list_any (same_key k)
              (if b then key_on table source place ∷ keys_before table source archs place
              else keys_before table source archs place)) lacks
              ∙ so_far
              ∙ ap (λ (b : Bool). bytes_eq k.source source && b) (sym same)
        ]

among_before : (table : List ArchWords) (source archs : List ℕ) (k : Key) (place : ℕ)
    → IsApart table → place ≤ length table
    → list_any (same_key k)
    (keys_before table source archs place)
    ≡ (bytes_eq k.source source && has_row_before table archs place k.arch)
among_before table source archs k zero apart within =
    sym (ap (λ (b : Bool). bytes_eq k.source source && b) (before_first table archs k.arch)
    ∙ and-false (bytes_eq k.source source))
among_before table source archs k (suc place) apart within =
    among_next table source archs k place apart (omega arith)
    (among_before table source archs k place apart (omega arith))

-- the architecture at a place isn't before it
not_below : (place : ℕ) → nat_lt place place ≡ false
not_below place = grind arith

before_itself : (table : List ArchWords) (archs : List ℕ) (place : ℕ) (w : ArchWords)
    → IsApart table → slice_get table place ≡ Some w
    → has_row_before table archs place w.name ≡ false
before_itself table archs place w apart at =
    ap (λ (o : Option ℕ). option_map_or (λ p. nat_lt p place && has_row table archs p) o false)
    (place_own table place w apart at)
    ∙ ap (λ (b : Bool). b && has_row table archs place) (not_below place)

distinct_if : (b : Bool) (k : Key) (ks : List Key) → list_any (same_key k) ks ≡ false
    → IsDistinct same_key ks → IsDistinct same_key (if b then k ∷ ks else ks)
distinct_if true k ks none distinct = distinct_more k ks none distinct
distinct_if false k ks none distinct = distinct

distinct_next : (table : List ArchWords) (source archs : List ℕ) (place : ℕ) → IsApart table
    → place < length table → IsDistinct same_key (keys_before table source archs place)
    → IsDistinct same_key (keys_before table source archs (suc place))
distinct_next table source archs place apart within distinct = by (slice_get table place) refl
  where
    by : (o : Option ArchWords) → slice_get table place ≡ o
        → IsDistinct same_key (keys_before table source archs (suc place))
    by None e = absurd (slice_get-none table place e within)
    by (Some w) e =
        let k : Key = key_on table source place in
        let none : list_any (same_key k) (keys_before table source archs place) ≡ false =
        among_before table source archs k place apart (omega arith)
        ∙ ap (λ (o : Option ArchWords).
        bytes_eq source source && has_row_before table archs place (name_at o)) e
        ∙ ap (λ (b : Bool). bytes_eq source source && b) (before_itself table archs place w apart e)
        ∙ and-false (bytes_eq source source) in
        distinct_if (has_row table archs place) k (keys_before table source archs place) none
        distinct

distinct_before : (table : List ArchWords) (source archs : List ℕ) (place : ℕ) → IsApart table
    → place ≤ length table → IsDistinct same_key (keys_before table source archs place)
unfolding IsDistinct
distinct_before table source archs zero apart within = tt
distinct_before table source archs (suc place) apart within =
    distinct_next table source archs place apart (omega arith)
    (distinct_before table source archs place apart (omega arith))

-- ---- 3. the keys of all sources

abbrev own_keys : List ArchWords → KeptSource → List Key
own_keys table s = keys_before table s.head.name s.head.archs (length table)

abbrev pub all_keys : List ArchWords → List KeptSource → List Key
all_keys table [] = []
all_keys table (s ∷ sources) = own_keys table s ++ all_keys table sources

length-all_keys : (table : List ArchWords) (sources : List KeptSource)
    → length (all_keys table sources) ≡ row_count table sources
length-all_keys table [] = refl
length-all_keys table (s ∷ sources) =
    length-append (own_keys table s) (all_keys table sources)
    ∙ (λ i. length-keys_before table s.head.name s.head.archs (length table) i
    + length-all_keys table sources i)
    ∙ sym (sum_by-cons (rows_of table) s sources)

within_all : (table : List ArchWords) → length table ≤ length table
within_all table = omega arith

among_all : (table : List ArchWords) (sources : List KeptSource) (k : Key) → IsApart table
    → list_any (same_key k) (all_keys table sources)
    ≡ list_any (λ s. bytes_eq k.source s.head.name && has_row_on table s.head.archs k.arch) sources
among_all table [] k apart = refl
among_all table (s ∷ sources) k apart =
    list_any-append (same_key k) (own_keys table s) (all_keys table sources)
    ∙ ap (λ (b : Bool). b || list_any (same_key k) (all_keys table sources))
    (among_before table s.head.name s.head.archs k (length table) apart (within_all table)
    ∙ ap (λ (b : Bool). bytes_eq k.source s.head.name && b) (before_end table s.head.archs k.arch))
    ∙ ap (λ (b : Bool). (bytes_eq k.source s.head.name && has_row_on table s.head.archs k.arch)
    || b) (among_all table sources k apart)

-- no other source has the name of one
no_other : (k : Key) (test : KeptSource → Bool) (s : KeptSource) (sources : List KeptSource)
    → AllByRecursion (λ t. same_source s t ≡ false) sources → bytes_eq k.source s.head.name ≡ true
    → list_any (λ t. bytes_eq k.source t.head.name && test t) sources ≡ false
no_other k test s [] names is = refl
no_other k test s (t ∷ sources) names is =
    let other : bytes_eq k.source t.head.name ≡ false =
    ap (λ (n : List ℕ). bytes_eq n t.head.name) ((bytes_eq-Decides k.source s.head.name).0 is)
    ∙ names.0 in
    ap (λ (b : Bool). (b && test t)
    || list_any (λ u. bytes_eq k.source u.head.name && test u) sources) other
    ∙ no_other k test s sources names.1 is

-- so the one with the key's decides
one_named : (k : Key) (test : KeptSource → Bool) (sources : List KeptSource)
    → Apart same_source sources
    → list_any (λ t. bytes_eq k.source t.head.name && test t) sources
    ≡ option_map_or test (find (λ t. bytes_eq k.source t.head.name) sources) false
one_named k test [] names = refl
one_named k test (s ∷ sources) names =
    elim (cases_Bool (bytes_eq k.source s.head.name)) [
      | inl is ↦
          let none = no_other k test s sources names.0 is in
          rw (is, none) (or-false (test s))
      | inr other ↦ rw other (one_named k test sources names.1)
    ]

distinct_all : (table : List ArchWords) (sources : List KeptSource) → IsApart table
    → Apart same_source sources → IsDistinct same_key (all_keys table sources)
unfolding IsDistinct
distinct_all table [] apart names = tt
distinct_all table (s ∷ sources) apart names =
    distinct_joined (own_keys table s) (all_keys table sources)
    (distinct_before table s.head.name s.head.archs (length table) apart (within_all table))
    (distinct_all table sources apart names.1)
    (λ k here.
    let its = and_parts (bytes_eq k.source s.head.name)
    (has_row_before table s.head.archs (length table) k.arch)
    (sym (among_before table s.head.name s.head.archs k (length table) apart (within_all table))
    ∙ here) in
    among_all table sources k apart
    ∙ no_other k (λ t. has_row_on table t.head.archs k.arch) s sources names.0 its.0)

-- ---- 4. the rows

-- whether a key opens with a row
opens : (a : Contents) (k : Key)
    → is_some (opening_row a k)
    ≡ option_map_or (λ s. has_row_on a.table s.head.archs k.arch) (source_named a k.source) false
opens a k = by (source_named a k.source)
  where
    on : (s : KeptSource) (o : Option ℕ)
        → is_some (opening_on a s o) ≡ option_map_or (λ p. has_row a.table s.head.archs p) o false
    on s None = refl
    on s (Some p) =
        elim (cases_Bool (has_row a.table s.head.archs p)) [
          | inl has ↦ rw has refl
          | inr lacks ↦ rw lacks refl
        ]

    by : (o : Option KeptSource)
        → is_some (opening_at a o k.arch)
        ≡ option_map_or (λ s. has_row_on a.table s.head.archs k.arch) o false
    by None = refl
    by (Some s) = on s (place_of a.table k.arch)

-- a key opens with a row where it is among them
pub opens_among : (a : Contents) (k : Key) → IsApart a.table → Apart same_source a.sources
    → list_any (same_key k) (all_keys a.table a.sources) ≡ is_some (opening_row a k)
opens_among a k apart names =
    among_all a.table a.sources k apart
    ∙ one_named k (λ s. has_row_on a.table s.head.archs k.arch) a.sources names
    ∙ sym (opens a k)

-- a table of the opening rows, each key once
rows_are : (a : Contents) (t : Table) → IsApart a.table → Apart same_source a.sources
    → ascending (keys_of t) ≡ true → ((k : Key) → row_of t k ≡ opening_row a k)
    → length t ≡ row_count a.table a.sources
rows_are a t apart names up rows =
    sym (length-map t (λ (p : Key × Row). p.0))
    ∙ length-from_same_keys key_laws (keys_of t) (all_keys a.table a.sources)
    (rising_distinct (keys_of t) up) (distinct_all a.table a.sources apart names) same
    ∙ length-all_keys a.table a.sources
  where
    same : (k : Key)
        → is_member same_key (keys_of t) k ≡ is_member same_key (all_keys a.table a.sources) k
    same k =
        among_keys t k ∙ ap is_some (rows k) ∙ sym (opens_among a k apart names)

pub counted_rows : {E : Type 0} (a : Contents) (r : Result Table E) → IsApart a.table
    → Apart same_source a.sources → IfOk r (λ t. ascending (keys_of t) ≡ true)
    → IfOk r (λ t. (k : Key) → row_of t k ≡ opening_row a k)
    → IfOk r (λ t. length t ≡ row_count a.table a.sources)
counted_rows a (Ok t) apart names up rows = rows_are a t apart names up rows
counted_rows a (Err e) apart names up rows = tt
