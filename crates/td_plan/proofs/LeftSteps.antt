-- The comments on rows that aren't planned, row by row.
use Rattle.std.proofs.Common.{◌≡◌, ℕ, ◌+◌, ◌<◌, not, Bool, true, false, cond}
use Rattle.std.proofs.Common.{List}
use Rattle.std.proofs.Common.{[], ◌∷◌, ◌++◌, length, take, Option, Some, None, refl}
use Rattle.std.proofs.Common.{sym}
use Rattle.std.proofs.Common.{ap, ◌∙◌}
use Rattle.std.specs.Prelude.{is_some, option_map, slice_get}
use Rattle.std.specs.List.{cons_option, filter_map, range_with_len}
use Rattle.std.specs.Option.{option_and_then, option_map_or, option_to_list}
use Rattle.std.specs.Str.{bytes_eq}
use Rattle.std.proofs.lemmas.Bool.{and_from, and_left, and_right, false≢true}
use Rattle.std.proofs.lemmas.Bool.{false_from_ne_true, not_from_false}
use Rattle.std.proofs.lemmas.List.{take_more}
use Rattle.std.proofs.lemmas.List.Elements.{filter_map-append}
use Rattle.std.proofs.lemmas.List.Quantifiers.{position-Some}
use Rattle.std.proofs.lemmas.Option.{get_or_from_slice_get, slice_get_within}
use Rattle.std.proofs.lemmas.Slice.Eq.{bytes_eq-Decides}
use Rattle.td_text.specs.Lines.{text_of}
use Rattle.td_relation.specs.Arch.{ArchWords}
use Rattle.td_relation.specs.Table.{place_of}
use Rattle.td_rows.specs.declared.key.Key.{Key}
use Rattle.td_rows.specs.declared.row.Row.{Row}
use Rattle.td_rows.specs.Table.{row_of}
use Rattle.td_indices.specs.Archive.{source_named}
use Rattle.td_indices.specs.Sources.{KeptSource}
use Rattle.td_query.specs.declared.status.Status.{Status}
use Rattle.td_query.specs.Statuses.{is_affected, row_status}
use Rattle.td_plan.specs.Due.{asks_rebuild, is_due, is_wanted}
use Rattle.td_plan.specs.Lines.{left_line}
use Rattle.td_plan.specs.Plan.{left_at, left_of}
use Rattle.td_plan.specs.Premises.{Premises, arch_at, key_at, row_at}
use Rattle.td_plan.specs.Reasons.{Reason, is_left, reason_of}
use Rattle.td_plan.proofs.Chosen.{find-has}
use Rattle.td_plan.proofs.Existing.{range-has, some-any}
use Rattle.td_plan.proofs.SourceTexts.{text_of-append}
use Rattle.td_plan.proofs.Waiters.{at-below}

module _ (p : Premises) (s : KeptSource) (place : ℕ) (k : Key) (row : Row) where
  -- ---- 1. the line of a row

  left-none : is_left p s place ≡ false → option_to_list (left_at p k row s place) ≡ []
  left-none skip = ap (λ (b : Bool). option_to_list (cond b
      (option_map (λ status. left_line k status row (reason_of p s place))
      (row_status p.archive p.tracker s place)) None)) skip

  -- a row that isn't wanted has no line
  pub left-unwanted : (status : Option Status)
      → status ≡ row_status p.archive p.tracker s place → asks_rebuild status ≡ false
      → option_to_list (left_at p k row s place) ≡ []
  left-unwanted status is asks = left-none (and_left (is_wanted p s place)
      (not (is_due p s place)) (ap asks_rebuild (sym is) ∙ asks))

  -- a row that is due has no line
  pub left-due : is_due p s place ≡ true → option_to_list (left_at p k row s place) ≡ []
  left-due due = left-none (and_right (is_wanted p s place) (not (is_due p s place)) (ap not due))

  pub left-is : (status : Status) (reason : Reason)
      → Some status ≡ row_status p.archive p.tracker s place → asks_rebuild (Some status) ≡ true
      → is_due p s place ≡ false → reason ≡ reason_of p s place
      → option_to_list (left_at p k row s place) ≡ left_line k status row reason ∷ []
  left-is status reason is asks due why =
      let wanted : is_wanted p s place ≡ true = ap asks_rebuild (sym is) ∙ asks in
      let left : is_left p s place ≡ true = and_from (is_wanted p s place)
      (not (is_due p s place)) wanted (not_from_false (is_due p s place) due) in
      ap (λ (b : Bool). option_to_list (cond b
      (option_map (λ st. left_line k st row (reason_of p s place))
      (row_status p.archive p.tracker s place)) None)) left
      ∙ ap (λ (o : Option Status). option_to_list
      (option_map (λ st. left_line k st row (reason_of p s place)) o)) (sym is)
      ∙ ap (λ (r : Reason). left_line k status row r ∷ []) (sym why)

-- ---- 2. the source and the place of a key

place-low : (table : List ArchWords) (arch : List ℕ) (place : ℕ)
    → place_of table arch ≡ Some place → place < length table
place-low table arch place at =
    (position-Some (λ (a : ArchWords). bytes_eq a.name arch) table place (first table at) at).0
  where
    first : (l : List ArchWords) → place_of l arch ≡ Some place → ArchWords
    first [] none = absurd (cc)
    first (a ∷ l) there = a

-- a key is that of its source at its place
pub key-is : (p : Premises) (s : KeptSource) (place : ℕ) (k : Key)
    → source_named p.archive k.source ≡ Some s → place_of p.archive.table k.arch ≡ Some place
    → key_at p s place ≡ k
key-is p s place k named at =
    let of =
    find-has (λ (t : KeptSource). bytes_eq k.source t.head.name) p.archive.sources s named in
    let source : s.head.name ≡ k.source = sym ((bytes_eq-Decides k.source s.head.name).0 of.1) in
    let low = place-low p.archive.table k.arch place at in
    let a = at-below p.archive.table place low in
    let passes = (position-Some (λ (b : ArchWords). bytes_eq b.name k.arch) p.archive.table place
    a.0 at).1 in
    let name : a.0.name ≡ k.arch = (bytes_eq-Decides a.0.name k.arch).0
    (ap (λ (b : ArchWords). bytes_eq b.name k.arch)
    (sym (get_or_from_slice_get p.archive.table place a.0 a.0 a.1)) ∙ passes) in
    let arch : arch_at p.archive.table place ≡ k.arch =
    ap (λ (o : Option ArchWords). option_map_or (λ (b : ArchWords). b.name) o []) a.1 ∙ name in
    λ i. record { source = source i; arch = arch i }

-- ---- 3. the line of a key's row

unasked : (o : Option Status) → is_some o ≡ false → asks_rebuild o ≡ false
unasked None none = refl
unasked (Some status) none = absurd (false≢true (sym none))

-- a row of a source that isn't affected has no line
pub left-unaffected : (p : Premises) (k : Key) (row : Row)
    → ((s : KeptSource) → source_named p.archive k.source ≡ Some s
    → is_affected p.archive p.tracker s ≡ false) → option_to_list (left_of p (k, row)) ≡ []
left-unaffected p k row none = by (source_named p.archive k.source) refl
  where
    at-place : (s : KeptSource) → is_affected p.archive p.tracker s ≡ false → (o : Option ℕ)
        → place_of p.archive.table k.arch ≡ o
        → option_to_list (option_and_then (left_at p k row s) o) ≡ []
    at-place s not_it None there = refl
    at-place s not_it (Some place) there =
        let low = place-low p.archive.table k.arch place there in
        let still : is_some (row_status p.archive p.tracker s place) ≡ false = false_from_ne_true
        (is_some (row_status p.archive p.tracker s place)) (λ some. false≢true (sym not_it
        ∙ some-any (λ n. is_some (row_status p.archive p.tracker s n))
        (range_with_len 0 (length p.archive.table)) place
        (range-has (length p.archive.table) place low) some)) in
        left-unwanted p s place k row (row_status p.archive p.tracker s place) refl
        (unasked (row_status p.archive p.tracker s place) still)

    by : (o : Option KeptSource) → source_named p.archive k.source ≡ o
        → option_to_list (option_and_then (λ s. option_and_then (left_at p k row s)
        (place_of p.archive.table k.arch)) o) ≡ []
    by None named = refl
    by (Some s) named = at-place s (none s named) (place_of p.archive.table k.arch) refl

-- a row on an architecture that the table doesn't have has no line
pub left-nowhere : (p : Premises) (k : Key) (row : Row) (s : KeptSource)
    → source_named p.archive k.source ≡ Some s → None ≡ place_of p.archive.table k.arch
    → option_to_list (left_of p (k, row)) ≡ []
left-nowhere p k row s named none =
    ap (λ (o : Option KeptSource). option_to_list (option_and_then (λ t.
    option_and_then (left_at p k row t) (place_of p.archive.table k.arch)) o)) named
    ∙ ap (λ (o : Option ℕ). option_to_list (option_and_then (left_at p k row s) o)) (sym none)

pub left-there : (p : Premises) (k : Key) (row : Row) (s : KeptSource) (place : ℕ)
    → source_named p.archive k.source ≡ Some s → Some place ≡ place_of p.archive.table k.arch
    → left_of p (k, row) ≡ left_at p k row s place
left-there p k row s place named at =
    ap (λ (o : Option KeptSource). option_and_then (λ t.
    option_and_then (left_at p k row t) (place_of p.archive.table k.arch)) o) named
    ∙ ap (λ (o : Option ℕ). option_and_then (left_at p k row s) o) (sym at)

-- the row of a key is that of its source at its place
pub row-is : (p : Premises) (k : Key) (row : Row) (s : KeptSource) (place : ℕ)
    → source_named p.archive k.source ≡ Some s → Some place ≡ place_of p.archive.table k.arch
    → row_of p.rows k ≡ Some row → row_at p s place ≡ Some row
row-is p k row s place named at row_there =
    ap (row_of p.rows) (key-is p s place k named (sym at)) ∙ row_there

pub there-low : (p : Premises) (k : Key) (place : ℕ)
    → Some place ≡ place_of p.archive.table k.arch → place < length p.archive.table
there-low p k place at = place-low p.archive.table k.arch place (sym at)

-- ---- 4. one row more

pub row-more : (f : Key × Row → Option (List ℕ)) (rows : List (Key × Row)) (i : ℕ)
    (e : Key × Row) → slice_get rows i ≡ Some e
    → text_of (filter_map f (take (i + 1) rows))
    ≡ text_of (filter_map f (take i rows)) ++ text_of (option_to_list (f e))
row-more f rows i e at =
    ap (λ l. text_of (filter_map f l)) (take_more rows i e (slice_get_within rows i e at)
    ∙ ap (λ x. take i rows ++ x ∷ []) (get_or_from_slice_get rows i e e at))
    ∙ ap text_of (filter_map-append f (take i rows) (e ∷ [])
    ∙ ap (λ l. filter_map f (take i rows) ++ l) (one (f e)))
    ∙ text_of-append (filter_map f (take i rows)) (option_to_list (f e))
  where
    one : (o : Option (List ℕ)) → cons_option o [] ≡ option_to_list o
    one None = refl
    one (Some l) = refl
