-- The keys of the rows with which a desk opens over an archive can be written.
use Rattle.std.proofs.Common.{◌≡◌, ◌+◌, ◌<◌, ℕ, true, not, ltb, cond, List, [], ◌∷◌}
use Rattle.std.proofs.Common.{Option, Some, None, length, refl, sym, ap, ◌∙◌, subst}
use Rattle.std.proofs.Common.{inl}
use Rattle.std.proofs.Common.{inr, arith}
use Rattle.std.specs.List.{AllByRecursion, find, prefix_len}
use Rattle.std.specs.Str.{bytes_eq}
use Rattle.std.proofs.lemmas.Bool.{and_parts, cases_Bool, ltb-true}
use Rattle.std.proofs.lemmas.Slice.Eq.{bytes_eq-Decides}
use Rattle.td_text.specs.Words.{is_arch, is_name}
use Rattle.td_relation.specs.Arch.{ArchFits, ArchWords}
use Rattle.td_relation.specs.Table.{place_of}
use Rattle.td_rows.specs.declared.key.Key.{Key}
use Rattle.td_rows.specs.declared.row.Row.{Row}
use Rattle.td_rows.specs.KeyText.{KeyFits}
use Rattle.td_rows.specs.Keys.{same_key}
use Rattle.td_rows.specs.Table.{Table, keys_of, row_of}
use Rattle.td_rows.proofs.Keys.{same_key-refl}
use Rattle.td_rows.proofs.Tables.{keys_of-each_row}
use Rattle.td_indices.specs.Archive.{Contents, source_named}
use Rattle.td_indices.specs.Opening.{opening_at, opening_on, opening_row}
use Rattle.td_indices.specs.Sources.{KeptSource, kept_source_at, lower_source, same_source}
use Rattle.td_indices.specs.declared.archive_fault.IndexFile.TheVariants.{Sources}
use Rattle.td_indices.proofs.LegalNames.{all_over}
use Rattle.td_indices.proofs.SourceStanzas.{source_found}
use Rattle.td_inputs.specs.Inputs.{AreOpened, AreRowsOf, IsArchiveOf, Texts}

-- ---- 1. a source and an architecture that are found by their names

named_source : (name : List ℕ) (ss : List KeptSource) (s : KeptSource)
    → AllByRecursion (λ (t : KeptSource). is_name t.head.name ≡ true) ss
    → find (λ (t : KeptSource). bytes_eq name t.head.name) ss ≡ Some s → is_name name ≡ true
named_source name [] s legal is = absurd (let bad : None ≡ Some s = is in cc)
named_source name (t ∷ ss) s legal is =
    elim (cases_Bool (bytes_eq name t.head.name)) [
      | inl same ↦ ap is_name ((bytes_eq-Decides name t.head.name).0 same) ∙ legal.0
      | inr other ↦ named_source name ss s legal.1 (sym (rw other refl) ∙ is)
    ]

-- how many architectures come before the one with the name
abbrev passed : List ℕ → List ArchWords → ℕ
passed name table = prefix_len (λ (a : ArchWords). not (bytes_eq a.name name)) table

named_before : (name : List ℕ) (table : List ArchWords) → AllByRecursion ArchFits table
    → passed name table < length table → is_arch name ≡ true
named_before name [] fits within = absurd (omega arith)
named_before name (a ∷ table) fits within =
    elim (cases_Bool (bytes_eq a.name name)) [
      | inl same ↦
          ap is_arch (sym ((bytes_eq-Decides a.name name).0 same))
          ∙ (and_parts (is_arch a.name) _ fits.0.name).0
      | inr other ↦
          named_before name table fits.1
          (let one : passed name (a ∷ table) ≡ 1 + passed name table = rw other refl in
          omega (arith, one, within))
    ]

within_of : (n m len : ℕ) → cond (ltb n len) (Some n) None ≡ Some m → n < len
within_of n m len is =
    elim (cases_Bool (ltb n len)) [
      | inl less ↦ ltb-true n len less
      | inr other ↦ absurd (let bad : None ≡ Some m = sym (rw other refl) ∙ is in cc)
    ]

named_place : (name : List ℕ) (table : List ArchWords) (n : ℕ) → AllByRecursion ArchFits table
    → place_of table name ≡ Some n → is_arch name ≡ true
named_place name table n fits is =
    named_before name table fits (within_of (passed name table) n (length table) is)

-- ---- 2. a key that has a row

-- the sources of an archive have names of packages, and its architectures can be named
pub record IsLegal (c : Contents) : Type 0 where
  pub sources : AllByRecursion (λ (s : KeptSource). is_name s.head.name ≡ true) c.sources
  pub table : AllByRecursion ArchFits c.table

pub archive_legal : (x : Texts) (c : Contents) → IsArchiveOf x c → IsLegal c
archive_legal x c is = record {
  sources = all_over same_source lower_source kept_source_at Sources
      (λ (s : KeptSource). is_name s.head.name ≡ true)
      (λ m fields s e. (source_found m fields s e).legal) 0 [] c.source_stanzas c.sources tt
      is.is_archive.sources;
  table = is.is_table.fits;
}

module _ (c : Contents) (legal : IsLegal c) (k : Key) where
  key_on : (s : KeptSource) (row : Row) → is_name k.source ≡ true → (place : Option ℕ)
      → place_of c.table k.arch ≡ place → opening_on c s place ≡ Some row → KeyFits k
  key_on s row named None at is = absurd (let bad : None ≡ Some row = is in cc)
  key_on s row named (Some n) at is =
      record { source = named; arch = named_place k.arch c.table n legal.table at }

  key_at : (row : Row) (found : Option KeptSource) → source_named c k.source ≡ found
      → opening_at c found k.arch ≡ Some row → KeyFits k
  key_at row None at is = absurd (let bad : None ≡ Some row = is in cc)
  key_at row (Some s) at is =
      key_on s row (named_source k.source c.sources s legal.sources at)
      (place_of c.table k.arch) refl is

  key_fits : (row : Row) → opening_row c k ≡ Some row → KeyFits k
  key_fits row is = key_at row (source_named c k.source) refl is

-- ---- 3. the keys of rows

-- the key of each row has a row
abbrev HaveRows : Table → Table → Type 0
HaveRows rows t = AllByRecursion (λ (k : Key). (row : Row) × (row_of rows k ≡ Some row)) (keys_of t)

-- rows behind others: what is looked up among them is found among all, if it isn't an earlier key
have_first : (p : Key × Row) (t : Table) (k : Key) → (row : Row) × (row_of t k ≡ Some row)
    → (row : Row) × (row_of (p ∷ t) k ≡ Some row)
have_first p t k found =
    elim (cases_Bool (same_key k p.0)) [
      | inl same ↦ (p.1, rw same refl)
      | inr other ↦ (found.0, rw other found.1)
    ]

have_later : (p : Key × Row) (rows t : Table) → HaveRows rows t → HaveRows (p ∷ rows) t
have_later p rows [] have = tt
have_later p rows (q ∷ t) have = (have_first p rows q.0 have.0, have_later p rows t have.1)

have_own : (t : Table) → HaveRows t t
have_own [] = tt
have_own (p ∷ t) =
    ((p.1, rw (same_key-refl p.0) refl), have_later p t t (have_own t))

each_fits : (c : Contents) (rows t : Table) → IsLegal c
    → ((k : Key) → row_of rows k ≡ opening_row c k) → HaveRows rows t
    → AllByRecursion KeyFits (keys_of t)
each_fits c rows [] legal same have = tt
each_fits c rows (p ∷ t) legal same have = (
  key_fits c legal p.0 have.0.0 (sym (same p.0) ∙ have.0.1),
  each_fits c rows t legal same have.1,
)

opened_fit : (c : Contents) (rows : Table) → IsLegal c → AreOpened c rows
    → AllByRecursion KeyFits (keys_of rows)
opened_fit c rows legal opened = each_fits c rows rows legal opened.same (have_own rows)

-- the keys of the rows with which a desk opens can be written
pub keys_fit : (x : Texts) (c : Contents) (state : Option (List ℕ)) (rows : Table)
    → IsArchiveOf x c → AreRowsOf c state rows → AllByRecursion KeyFits (keys_of rows)
keys_fit x c None rows archive are = opened_fit c rows (archive_legal x c archive) are
keys_fit x c (Some text) rows archive are =
    subst (λ (keys : List Key). AllByRecursion KeyFits keys)
    (sym (ap keys_of are.replaced
    ∙ keys_of-each_row _ are.opened))
    (opened_fit c are.opened (archive_legal x c archive) are.are_opened)
