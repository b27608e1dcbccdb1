-- Opening rows that are put together source by source.
use Rattle.std.proofs.Common.{◌≡◌, ◌≢◌, ℕ, zero, suc, ◌+◌, ◌<◌, Bool, true, false, ◌&&◌, ◌||◌}
use Rattle.std.proofs.Common.{nat_lt, ◌==◌, List, [], ◌∷◌, Option, Some, None, option_map, ◌++◌}
use Rattle.std.proofs.Common.{length, drop, get_or, slice_get, add-one, if◌then◌else◌, refl}
use Rattle.std.proofs.Common.{sym, ap, ◌∙◌, inl, inr, arith}
use Rattle.std.specs.Prelude.{Err, IfOk, Ok, Result}
use Rattle.std.specs.List.{find, list_any}
use Rattle.std.specs.Option.{option_map_or, option_or}
use Rattle.std.specs.Str.{bytes_eq}
use Rattle.std.proofs.Math.Bool.{and-false, or-false}
use Rattle.std.proofs.lemmas.Bool.{cases_Bool, and_parts, and_from, eq-eqb, eqb-true, lt-ltb}
use Rattle.std.proofs.lemmas.Bool.{or_right}
use Rattle.std.proofs.lemmas.List.Quantifiers.{position-Some}
use Rattle.std.proofs.lemmas.List.Sums.{sum_by-cons}
use Rattle.std.proofs.lemmas.Slice.Eq.{bytes_eq-Decides}
use Rattle.indexmap.specs.IndexMap.{insert_entry}
use Rattle.td_text.proofs.Anywhere.{any-push}
use Rattle.td_text.proofs.Chain.{some_is}
use Rattle.td_relation.specs.Arch.{ArchWords}
use Rattle.td_relation.specs.Table.{IsApart, place_of}
use Rattle.td_rows.specs.declared.key.Key.{Key}
use Rattle.td_rows.specs.declared.row.Row.{Row}
use Rattle.td_rows.specs.Keys.{same_key}
use Rattle.td_rows.specs.Table.{Table, row_of}
use Rattle.td_rows.proofs.Keys.{same_key-true, same_key-refl}
use Rattle.td_rows.proofs.Lists.{drop-next, slice_get-none}
use Rattle.td_indices.specs.Archive.{Contents, source_named}
use Rattle.td_indices.specs.Choosing.{is_of_one}
use Rattle.td_indices.specs.Opening.{opening_on, opening_at, opening_row}
use Rattle.td_indices.specs.OpeningRows.{is_key_at, has_row_on, has_row_before, with_opening}
use Rattle.td_indices.specs.Rows.{has_row, row_count, rows_before, rows_of}
use Rattle.td_indices.specs.Sources.{KeptSource}
use Rattle.td_indices.proofs.OwnPlaces.{place_own}

-- ---- 1. a row more

-- the row of a key after one is put in
pub row_of-insert : (t : Table) (k : Key) (row : Row) (q : Key)
    → row_of (insert_entry same_key t k row) q ≡ (if same_key q k then Some row else row_of t q)
row_of-insert [] k row q = refl
row_of-insert (p ∷ t) k row q =
    elim (cases_Bool (same_key k p.0)) [
      | inl is ↦
          let same : k ≡ p.0 = same_key-true k p.0 is in
          elim (cases_Bool (same_key q p.0)) [
            | inl here ↦
                let own : same_key q k ≡ true = ap (same_key q) same ∙ here in
                rw (is, here, own) refl
            | inr other ↦
                let foreign : same_key q k ≡ false = ap (same_key q) same ∙ other in
                rw (is, other, foreign) refl
          ]
      | inr apart ↦
          elim (cases_Bool (same_key q p.0)) [
            | inl here ↦
                let foreign : same_key q k ≡ false =
                elim (cases_Bool (same_key q k)) [
                  | inl bad ↦
                      absurd (let e : true ≡ false =
                      sym here ∙ ap (λ (x : Key). same_key x p.0) (same_key-true q k bad) ∙ apart in
                      cc)
                  | inr fine ↦ fine
                ] in
                rw (apart, here, foreign) refl
            | inr other ↦ rw (apart, other) (row_of-insert t k row q)
          ]
    ]

-- whether a key is the one of the source and the architecture
key_at : (table : List ArchWords) (source arch : List ℕ) (place : ℕ) (k : Key)
    → option_map (λ (a : ArchWords). a.name) (slice_get table place) ≡ Some arch
    → is_key_at table source place k ≡ (bytes_eq k.source source && bytes_eq arch k.arch)
key_at table source arch place k named = by (slice_get table place) refl
  where
    by : (o : Option ArchWords) → slice_get table place ≡ o
        → is_key_at table source place k ≡ (bytes_eq k.source source && bytes_eq arch k.arch)
    by None e =
        absurd (let bad : None ≡ Some arch =
        sym (ap (option_map (λ (a : ArchWords). a.name)) e) ∙ named in cc)
    by (Some a) e =
        let is : a.name ≡ arch =
        some_is a.name arch (sym (ap (option_map (λ (b : ArchWords). b.name)) e) ∙ named) in
        ap (λ (o : Option ArchWords).
        bytes_eq k.source source
        && option_map_or (λ (b : ArchWords). bytes_eq b.name k.arch) o false) e
        ∙ ap (λ (n : List ℕ). bytes_eq k.source source && bytes_eq n k.arch) is

-- it is, or it isn't
pub key_cases : (source arch : List ℕ) (k key : Key) → key ≡ record { source = source; arch = arch }
    → same_key k key ≡ (bytes_eq k.source source && bytes_eq arch k.arch)
key_cases source arch k key is =
    elim (cases_Bool (same_key k key)) [
      | inl same ↦
          let at : k ≡ record { source = source; arch = arch } = same_key-true k key same ∙ is in
          let first : bytes_eq k.source source ≡ true =
          (bytes_eq-Decides k.source source).1 (ap (λ (x : Key). x.source) at) in
          let second : bytes_eq arch k.arch ≡ true =
          (bytes_eq-Decides arch k.arch).1 (sym (ap (λ (x : Key). x.arch) at)) in
          same ∙ sym (and_from (bytes_eq k.source source) (bytes_eq arch k.arch) first second)
      | inr other ↦
          elim (cases_Bool (bytes_eq k.source source && bytes_eq arch k.arch)) [
            | inl bad ↦
                let both = and_parts (bytes_eq k.source source) (bytes_eq arch k.arch) bad in
                let sources : k.source ≡ source = (bytes_eq-Decides k.source source).0 both.0 in
                let archs : k.arch ≡ arch = sym ((bytes_eq-Decides arch k.arch).0 both.1) in
                let at : k ≡ key = (λ i. record { source = sources i; arch = archs i }) ∙ sym is in
                absurd (let e : true ≡ false = sym (same_key-refl k) ∙ ap (same_key k) at ∙ other in
                cc)
            | inr fine ↦ other ∙ sym fine
          ]
    ]

-- the rows with the one with which a key opens
pub opened : (a : Contents) (old new : Table) (source arch : List ℕ) (place : ℕ) (key : Key)
    (row : Row) → option_map (λ (w : ArchWords). w.name) (slice_get a.table place) ≡ Some arch
    → key ≡ record { source = source; arch = arch } → Some row ≡ opening_row a key
    → new ≡ insert_entry same_key old key row
    → (k : Key) → row_of new k
    ≡ with_opening (is_key_at a.table source place k) (opening_row a k) (row_of old k)
opened a old new source arch place key row named is opens entries k =
    ap (λ (t : Table). row_of t k) entries ∙ row_of-insert old key row k
    ∙ elim (cases_Bool (same_key k key)) [
      | inl same ↦
          let at : is_key_at a.table source place k ≡ true =
          key_at a.table source arch place k named ∙ sym (key_cases source arch k key is) ∙ same in
          let its : opening_row a k ≡ Some row =
          ap (opening_row a) (same_key-true k key same) ∙ sym opens in
          rw (same, at, its) refl
      | inr other ↦
          let past : is_key_at a.table source place k ≡ false =
          key_at a.table source arch place k named ∙ sym (key_cases source arch k key is) ∙ other in
          rw (other, past) refl
    ]

-- ---- 2. one place more

got : {A : Type 0} (xs : List A) (n : ℕ) (x : A) → slice_get xs n ≡ Some x → get_or xs n x ≡ x
got [] n x at = absurd (let bad : None ≡ Some x = at in cc)
got (y ∷ xs) zero x at = some_is y x at
got (y ∷ xs) (suc n) x at = got xs n x at

-- the architecture at the place of a name has the name
place_named : (table : List ArchWords) (arch : List ℕ) (place : ℕ) (w : ArchWords)
    → slice_get table place ≡ Some w → place_of table arch ≡ Some place
    → bytes_eq w.name arch ≡ true
place_named table arch place w at is =
    let found = position-Some (λ (a : ArchWords). bytes_eq a.name arch) table place w is in
    ap (λ (a : ArchWords). bytes_eq a.name arch) (sym (got table place w at)) ∙ found.1

-- whether a source with this Architecture field has a row at a place of the table, and before
-- another
abbrev before : List ArchWords → List ℕ → ℕ → Option ℕ → Bool
before table archs place o = option_map_or (λ p. nat_lt p place && has_row table archs p) o false

-- a place that isn't the last one is before both or before none
ltb-next : (p place : ℕ) → p ≢ place → nat_lt p (place + 1) ≡ nat_lt p place
ltb-next p place apart = grind arith

before-none : (table : List ArchWords) (archs : List ℕ) (place : ℕ) (o : Option ℕ) → o ≢ Some place
    → before table archs (place + 1) o ≡ before table archs place o
before-none table archs place None apart = refl
before-none table archs place (Some p) apart =
    ap (λ (b : Bool). b && has_row table archs p) (ltb-next p place (λ e. apart (ap Some e)))

pub before_next : (table : List ArchWords) (archs arch : List ℕ) (place : ℕ) (w : ArchWords)
    → IsApart table → slice_get table place ≡ Some w → has_row table archs place ≡ true
    → has_row_before table archs (place + 1) arch
    ≡ (has_row_before table archs place arch || bytes_eq w.name arch)
before_next table archs arch place w apart at has =
    let own : place_of table w.name ≡ Some place = place_own table place w apart at in
    elim (cases_Bool (bytes_eq w.name arch)) [
      | inl is ↦
          let here : place_of table arch ≡ Some place =
          ap (place_of table) (sym ((bytes_eq-Decides w.name arch).0 is)) ∙ own in
          let now : before table archs (place + 1) (Some place) ≡ true =
          and_from (nat_lt place (place + 1)) (has_row table archs place) (grind arith) has in
          ap (before table archs (place + 1)) here ∙ now
          ∙ sym (or_right (has_row_before table archs place arch) (bytes_eq w.name arch) is)
      | inr other ↦
          let past : place_of table arch ≢ Some place =
          λ e. (let bad : true ≡ false = sym (place_named table arch place w at e) ∙ other in cc) in
          before-none table archs place (place_of table arch) past
          ∙ sym (ap (λ (b : Bool). has_row_before table archs place arch || b) other
          ∙ or-false (has_row_before table archs place arch))
    ]

pub before_past : (table : List ArchWords) (archs arch : List ℕ) (place : ℕ)
    → has_row table archs place ≡ false
    → has_row_before table archs (place + 1) arch ≡ has_row_before table archs place arch
before_past table archs arch place lacks = by (place_of table arch) refl
  where
    by : (o : Option ℕ) → place_of table arch ≡ o
        → has_row_before table archs (place + 1) arch ≡ has_row_before table archs place arch
    by None e =
        before-none table archs place (place_of table arch)
        (λ h. (let bad : None ≡ Some place = sym e ∙ h in cc))
    by (Some p) e =
        elim (cases_Bool (p == place)) [
          | inl is ↦
              let at_place : place_of table arch ≡ Some place = e ∙ ap Some (eqb-true p place is) in
              ap (before table archs (place + 1)) at_place
              ∙ ap (λ (b : Bool). nat_lt place (place + 1) && b) lacks
              ∙ and-false (nat_lt place (place + 1))
              ∙ sym (ap (before table archs place) at_place
              ∙ ap (λ (b : Bool). nat_lt place place && b) lacks ∙ and-false (nat_lt place place))
          | inr other ↦
              before-none table archs place (place_of table arch)
              (λ h. (let same : p ≡ place = some_is p place (sym e ∙ h) in
              let bad : true ≡ false = sym (eq-eqb p place same) ∙ other in cc))
        ]

none_below : (p : ℕ) → nat_lt p 0 ≡ false
none_below p = grind arith

-- no place is before the first, and each before the end
pub before_first : (table : List ArchWords) (archs arch : List ℕ)
    → has_row_before table archs 0 arch ≡ false
before_first table archs arch = by (place_of table arch)
  where
    by : (o : Option ℕ) → before table archs 0 o ≡ false
    by None = refl
    by (Some p) = ap (λ (b : Bool). b && has_row table archs p) (none_below p)

pub before_end : (table : List ArchWords) (archs arch : List ℕ)
    → has_row_before table archs (length table) arch ≡ has_row_on table archs arch
before_end table archs arch = by (place_of table arch) refl
  where
    by : (o : Option ℕ) → place_of table arch ≡ o
        → before table archs (length table) o ≡ option_map_or (λ p. has_row table archs p) o false
    by None e = refl
    by (Some p) e =
        let found = position-Some (λ (a : ArchWords). bytes_eq a.name arch) table p
        (record { name = []; os = []; cpu = [] }) e in
        ap (λ (b : Bool). b && has_row table archs p) (lt-ltb p (length table) found.0)

-- ---- 3. over places, and over sources

-- what a look-up gives after rows are opened twice
opened_twice : (b first second : Bool) (opening row : Option Row)
    → with_opening (b && second) opening (with_opening (b && first) opening row)
    ≡ with_opening (b && (first || second)) opening row
opened_twice false first second opening row = refl
opened_twice true false second opening row = refl
opened_twice true true false opening row = refl
opened_twice true true true None row = refl
opened_twice true true true (Some r) row = refl

-- before the first place nothing is opened
pub opened_none : (a : Contents) (source archs : List ℕ) (k : Key) (row : Option Row)
    → row ≡ with_opening (bytes_eq k.source source && has_row_before a.table archs 0 k.arch)
    (opening_row a k) row
opened_none a source archs k row =
    sym (ap (λ (b : Bool). with_opening b (opening_row a k) row)
    (ap (λ (b : Bool). bytes_eq k.source source && b) (before_first a.table archs k.arch)
    ∙ and-false (bytes_eq k.source source)))

-- the rows before a place, and the one at it
pub opened_next : (a : Contents) (old mid new : Table) (source archs : List ℕ) (place : ℕ)
    → IsApart a.table → place < length a.table → has_row a.table archs place ≡ true
    → ((k : Key) → row_of mid k
    ≡ with_opening (bytes_eq k.source source && has_row_before a.table archs place k.arch)
    (opening_row a k) (row_of old k))
    → ((k : Key) → row_of new k
    ≡ with_opening (is_key_at a.table source place k) (opening_row a k) (row_of mid k))
    → (k : Key) → row_of new k
    ≡ with_opening (bytes_eq k.source source && has_row_before a.table archs (place + 1) k.arch)
    (opening_row a k) (row_of old k)
opened_next a old mid new source archs place apart within has so_far here k =
    by (slice_get a.table place) refl
  where
    by : (o : Option ArchWords) → slice_get a.table place ≡ o
        → row_of new k ≡ with_opening
        (bytes_eq k.source source && has_row_before a.table archs (place + 1) k.arch)
        (opening_row a k) (row_of old k)
    by None e = absurd (slice_get-none a.table place e within)
    by (Some w) e =
        let at : is_key_at a.table source place k
        ≡ (bytes_eq k.source source && bytes_eq w.name k.arch) =
        ap (λ (o : Option ArchWords).
        bytes_eq k.source source
        && option_map_or (λ (b : ArchWords). bytes_eq b.name k.arch) o false) e in
        here k
        ∙ ap (λ (b : Bool). with_opening b (opening_row a k) (row_of mid k)) at
        ∙ ap (with_opening (bytes_eq k.source source && bytes_eq w.name k.arch) (opening_row a k))
        (so_far k)
        ∙ opened_twice (bytes_eq k.source source) (has_row_before a.table archs place k.arch)
        (bytes_eq w.name k.arch) (opening_row a k) (row_of old k)
        ∙ ap (λ (b : Bool). with_opening (bytes_eq k.source source && b) (opening_row a k)
        (row_of old k)) (sym (before_next a.table archs k.arch place w apart e has))

-- at a place without a row nothing is opened
pub opened_past : (a : Contents) (source archs : List ℕ) (place : ℕ)
    → has_row a.table archs place ≡ false → (k : Key) (row : Option Row)
    → with_opening (bytes_eq k.source source && has_row_before a.table archs place k.arch)
    (opening_row a k) row ≡ with_opening
    (bytes_eq k.source source && has_row_before a.table archs (place + 1) k.arch)
    (opening_row a k) row
opened_past a source archs place none k row =
    ap (λ (b : Bool). with_opening (bytes_eq k.source source && b) (opening_row a k) row)
    (sym (before_past a.table archs k.arch place none))

find-none : {A : Type 0} (test : A → Bool) (xs : List A) → list_any test xs ≡ false
    → find test xs ≡ None
find-none test [] none = refl
find-none test (y ∷ xs) none =
    elim (cases_Bool (test y)) [
      | inl bad ↦ absurd (let e : true ≡ false = sym (rw bad refl) ∙ none in cc)
      | inr other ↦ rw other (find-none test xs (sym (rw other refl) ∙ none))
    ]

-- the row of a key whose source is gone over
abbrev pub row_so_far : Contents → List KeptSource → Key → Option Row
row_so_far a sources k = if is_of_one sources k then opening_row a k else None

opened_again : (opening : Option Row) → option_or opening opening ≡ opening
opened_again None = refl
opened_again (Some r) = refl

opened_new : (opening : Option Row) → option_or opening None ≡ opening
opened_new None = refl
opened_new (Some r) = refl

-- the rows of the sources before one, and its own
pub source_opened : (a : Contents) (old new : Table) (gone : List KeptSource) (s : KeptSource)
    → source_named a s.head.name ≡ Some s
    → ((k : Key) → row_of old k ≡ row_so_far a gone k)
    → ((k : Key) → row_of new k
    ≡ with_opening (bytes_eq k.source s.head.name && has_row_on a.table s.head.archs k.arch)
    (opening_row a k) (row_of old k))
    → (k : Key) → row_of new k ≡ row_so_far a (gone ++ s ∷ []) k
source_opened a old new gone s named so_far here k =
    let more : is_of_one (gone ++ s ∷ []) k ≡ (is_of_one gone k || bytes_eq k.source s.head.name) =
    any-push (λ (t : KeptSource). bytes_eq k.source t.head.name) gone s in
    let old_row = so_far k in
    here k ∙ elim (cases_Bool (bytes_eq k.source s.head.name)) [
      | inl own ↦ elim (cases_Bool (is_of_one gone k)) [
        | inl seen ↦
            let was : row_of old k ≡ opening_row a k =
            old_row ∙ ap (λ (b : Bool). if b then opening_row a k else None) seen in
            let now : is_of_one (gone ++ s ∷ []) k ≡ true =
            more ∙ ap (λ (b : Bool). b || bytes_eq k.source s.head.name) seen in
            ap (with_opening (bytes_eq k.source s.head.name
            && has_row_on a.table s.head.archs k.arch) (opening_row a k)) was
            ∙ either (bytes_eq k.source s.head.name && has_row_on a.table s.head.archs k.arch)
            ∙ sym (ap (λ (b : Bool). if b then opening_row a k else None) now)
        | inr new_one ↦
            let was : row_of old k ≡ None =
            old_row ∙ ap (λ (b : Bool). if b then opening_row a k else None) new_one in
            let now : is_of_one (gone ++ s ∷ []) k ≡ true =
            more ∙ or_right (is_of_one gone k) (bytes_eq k.source s.head.name) own in
            let its : source_named a k.source ≡ Some s =
            ap (source_named a) ((bytes_eq-Decides k.source s.head.name).0 own) ∙ named in
            let opens : opening_row a k ≡ opening_on a s (place_of a.table k.arch) =
            ap (λ (o : Option KeptSource). opening_at a o k.arch) its in
            ap (with_opening (bytes_eq k.source s.head.name
            && has_row_on a.table s.head.archs k.arch) (opening_row a k)) was
            ∙ ap (λ (b : Bool). with_opening (b && has_row_on a.table s.head.archs k.arch)
            (opening_row a k) None) own
            ∙ fresh (has_row_on a.table s.head.archs k.arch) (place_of a.table k.arch) refl refl
            opens
            ∙ sym (ap (λ (b : Bool). if b then opening_row a k else None) now)
      ]
      | inr foreign ↦
          let same : is_of_one (gone ++ s ∷ []) k ≡ is_of_one gone k =
          more ∙ ap (λ (b : Bool). is_of_one gone k || b) foreign
          ∙ or-false (is_of_one gone k) in
          ap (λ (b : Bool). with_opening (b && has_row_on a.table s.head.archs k.arch)
          (opening_row a k) (row_of old k)) foreign
          ∙ old_row ∙ sym (ap (λ (b : Bool). if b then opening_row a k else None) same)
    ]
  where
    either : (b : Bool) → with_opening b (opening_row a k) (opening_row a k) ≡ opening_row a k
    either true = opened_again (opening_row a k)
    either false = refl

    without : (o : Option ℕ) → option_map_or (λ p. has_row a.table s.head.archs p) o false ≡ false
        → opening_on a s o ≡ None
    without None e = refl
    without (Some p) e = rw e refl

    fresh : (b : Bool) (o : Option ℕ) → has_row_on a.table s.head.archs k.arch ≡ b
        → place_of a.table k.arch ≡ o → opening_row a k ≡ opening_on a s (place_of a.table k.arch)
        → with_opening b (opening_row a k) None ≡ opening_row a k
    fresh true o has at_place opens = opened_new (opening_row a k)
    fresh false o has at_place opens = sym (opens ∙ without (place_of a.table k.arch) has)

-- all sources are gone over
pub all_opened : (a : Contents) (k : Key) → row_so_far a a.sources k ≡ opening_row a k
all_opened a k =
    elim (cases_Bool (is_of_one a.sources k)) [
      | inl seen ↦ ap (λ (b : Bool). if b then opening_row a k else None) seen
      | inr none ↦
          ap (λ (b : Bool). if b then opening_row a k else None) none
          ∙ sym (ap (λ (o : Option KeptSource). opening_at a o k.arch)
          (find-none (λ (t : KeptSource). bytes_eq k.source t.head.name) a.sources none))
    ]

pub rows_opened : {R E : Type 0} (row_in : R → Key → Option Row) (a : Contents) (r : Result R E)
    → IfOk r (λ t. (k : Key) → row_in t k ≡ row_so_far a a.sources k)
    → IfOk r (λ t. (k : Key) → row_in t k ≡ opening_row a k)
rows_opened row_in a (Ok t) rows = λ k. rows k ∙ all_opened a k
rows_opened row_in a (Err e) rows = tt

-- how many rows there are before the next place
pub rows_next : (table : List ArchWords) (archs : List ℕ) (place : ℕ)
    → has_row table archs place ≡ true
    → rows_before table archs (place + 1) ≡ rows_before table archs place + 1
rows_next table archs place has =
    rw add-one (ap (λ (b : Bool). rows_before table archs place + (if b then 1 else 0)) has)

pub rows_past : (table : List ArchWords) (archs : List ℕ) (place : ℕ)
    → has_row table archs place ≡ false
    → rows_before table archs (place + 1) ≡ rows_before table archs place
rows_past table archs place none =
    rw add-one
    (ap (λ (b : Bool). rows_before table archs place + (if b then 1 else 0)) none ∙ omega arith)

-- ---- 4. the source with a number

-- how many rows are left
pub rows_left : (table : List ArchWords) (sources : List KeptSource) (n : ℕ) (s : KeptSource)
    → slice_get sources n ≡ Some s
    → row_count table (drop n sources)
    ≡ rows_before table s.head.archs (length table) + row_count table (drop (n + 1) sources)
rows_left table sources n s at =
    ap (row_count table) (drop-next sources n s at)
    ∙ sum_by-cons (rows_of table) s (drop (n + 1) sources)
