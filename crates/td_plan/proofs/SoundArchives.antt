-- Premises over an archive that was read are sound.
use Rattle.std.proofs.Common.{◌≡◌, ◌⊎◌, ℕ, ◌≤◌, ◌∙◌, not, ltb, Bool, true, List, [], ◌∷◌}
use Rattle.std.proofs.Common.{None, Ok, Option, Some, filter, length, option_map, slice_get}
use Rattle.std.proofs.Common.{unwrap_or, refl, sym, ap, subst, inl, inr, arith, if◌then◌else◌}
use Rattle.std.specs.List.{AllByRecursion, Contains, prefix_len}
use Rattle.std.specs.Str.{bytes_eq}
use Rattle.std.proofs.lemmas.Bool.{cases_Bool, lt-ltb}
use Rattle.std.proofs.lemmas.Option.{slice_get_within}
use Rattle.td_text.specs.Limits.{max_rebuild}
use Rattle.td_text.proofs.Chain.{some_is}
use Rattle.td_version.specs.Splitting.{rebuild_at}
use Rattle.td_version.proofs.Rebuilds.{found_some}
use Rattle.td_rows.specs.Keys.{ascending, same_key}
use Rattle.td_rows.specs.Overlay.{overlaid}
use Rattle.td_rows.specs.StateFile.{IsStateFile, Opens}
use Rattle.td_rows.specs.Table.{IsTable, Table, row_of}
use Rattle.td_rows.specs.declared.key.Key.{Key}
use Rattle.td_rows.specs.declared.row.Row.{Row}
use Rattle.td_rows.proofs.Tables.{keys_of-each_row, length-each_row, row_of-each_row}
use Rattle.td_indices.specs.Archive.{Contents, number_named}
use Rattle.td_indices.specs.Choosing.{is_of_one}
use Rattle.td_indices.specs.Counting.{Apart}
use Rattle.td_indices.specs.Kept.{KeptBinary, same_package}
use Rattle.td_indices.specs.Opening.{opening_row, rebuild_number}
use Rattle.td_indices.specs.OpeningLaws.{IsBuilt, IsUnbuilt}
use Rattle.td_indices.specs.Rows.{row_count}
use Rattle.td_indices.specs.Sources.{KeptSource, same_source}
use Rattle.td_indices.proofs.CountingLaws.{greatest_packages, greatest_sources, package_keys}
use Rattle.td_indices.proofs.CountingLaws.{source_keys}
use Rattle.td_indices.proofs.OpeningCounts.{counted_rows}
use Rattle.td_indices.proofs.OpeningNumbers.{opening_rows_are_exact}
use Rattle.td_plan.specs.Premises.{IsRowOf, Premises}
use Rattle.td_plan.specs.SoundLaws.{AreOpening, CanBePlanned, ChosenRowsCanBePlanned}
use Rattle.td_plan.specs.SoundLaws.{OpeningRowsCanBePlanned, ReplacedRowsCanBePlanned, WasRead}
use Rattle.td_plan.proofs.ApartKeys.{one-key, own-place}
use Rattle.td_plan.proofs.KeptRows.{few-kept, kept-is, rising-kept}

-- ---- 1. the archive

module _ (a : Contents) (read : WasRead a) where
  pub sources-apart : Apart same_source a.sources
  sources-apart = (greatest_sources a.source_stanzas a.sources read.is_archive.sources).2.apart

  packages-apart : Apart same_package a.binaries
  packages-apart =
      (greatest_packages a.table a.packages a.binaries read.is_archive.binaries).2.apart

  source-itself : (s : KeptSource) → same_source s s ≡ true
  source-itself s = (source_keys s s).1 refl

  source-back : (s t : KeptSource) → same_source s t ≡ true → same_source t s ≡ true
  source-back s t is = (source_keys t s).1 (sym ((source_keys s t).0 is))

  -- a source has its number by its name
  own-number : (number : ℕ) (s : KeptSource) → slice_get a.sources number ≡ Some s
      → number_named a s.head.name ≡ Some number
  own-number number s at =
      let first : prefix_len (λ (t : KeptSource). not (bytes_eq s.head.name t.head.name)) a.sources
      ≡ number =
      own-place same_source source-itself source-back a.sources number s sources-apart at in
      let within : ltb number (length a.sources) ≡ true =
      lt-ltb number (length a.sources) (slice_get_within a.sources number s at) in
      rw (first, within) refl

  package-itself : (b : KeptBinary) → same_package b b ≡ true
  package-itself b = (package_keys b b).1 (refl, refl)

  package-back : (b c : KeptBinary) → same_package b c ≡ true → same_package c b ≡ true
  package-back b c is =
      let both = (package_keys b c).0 is in
      (package_keys c b).1 (sym both.0, sym both.1)

  pub one-package : (b c : KeptBinary) → Contains a.binaries b → Contains a.binaries c
      → same_package b c ≡ true → b ≡ c
  one-package b c left right is =
      one-key same_package package-itself package-back a.binaries b c packages-apart left right is

-- ---- 2. the numbers of opening rows

rebuild-within : (text : List ℕ) → rebuild_number text ≤ max_rebuild
rebuild-within text = by (rebuild_at text) refl
  where
    by : (o : Option (List ℕ × ℕ)) → rebuild_at text ≡ o → rebuild_number text ≤ max_rebuild
    by None e = rw e (omega arith)
    by (Some found) e =
        let is = found_some text found.0 found.1 e in
        rw e is.bounded

opened-within : (a : Contents) (s : KeptSource) (place : ℕ) (row : Row)
    → IsBuilt a s place row ⊎ IsUnbuilt a s place row → row.number ≤ max_rebuild
opened-within a s place row (inl h) =
    subst (λ (r : Row). r.number ≤ max_rebuild) (sym h.installed)
    (rebuild-within h.binary.head.version)
opened-within a s place row (inr h) =
    subst (λ (r : Row). r.number ≤ max_rebuild) (sym h.blank_row) (omega arith)

-- ---- 3. rows over an archive

-- rows of keys that open over an archive, with numbers within the limit
pub record AreOver (a : Contents) (rows : Table) : Type 0 where
  pub table : IsTable rows
  pub opens : (k : Key) (row : Row) → row_of rows k ≡ Some row
      → (first : Row) × (opening_row a k ≡ Some first)
  pub limited : (k : Key) (row : Row) → row_of rows k ≡ Some row → row.number ≤ max_rebuild

row-is : (p : Premises) → AreOver p.archive p.rows → (k : Key) (row : Row)
    → row_of p.rows k ≡ Some row → IsRowOf p k row
row-is p over k row is =
    let first = over.opens k row is in
    let h = (opening_rows_are_exact p.archive k first.0).0 first.1 in
    record {
      source = h.source;
      named = h.named;
      place = h.place;
      at = h.at;
      limited = over.limited k row is;
    }

pub can-be : (p : Premises) → WasRead p.archive → AreOver p.archive p.rows → CanBePlanned p
can-be p read over = record {
  sound = record {
    apart = read.apart;
    numbered = own-number p.archive read;
    rows = over.table;
    of_archive = row-is p over;
  };
  apart = one-package p.archive read;
}

-- ---- 4. the rows with which a desk opens

module _ (a : Contents) (read : WasRead a) (rows : Table) (are : AreOpening a rows) where
  few-opening : IsTable rows
  few-opening =
      let count : length rows ≡ row_count a.table a.sources =
      counted_rows {E = ℕ} a (Ok rows) read.apart (sources-apart a read) are.rising are.same in
      record {
        rising = are.rising;
        limited = omega (arith, count, read.is_archive.limited);
      }

  number-within : (k : Key) (row : Row) → row_of rows k ≡ Some row → row.number ≤ max_rebuild
  number-within k row is =
      let h = (opening_rows_are_exact a k row).0 (sym (are.same k) ∙ is) in
      opened-within a h.source h.place row h.opens

  opening-over : AreOver a rows
  opening-over = record {
    table = few-opening;
    opens = λ k row is. (row, sym (are.same k) ∙ is);
    limited = number-within;
  }

pub opening-rows : OpeningRowsCanBePlanned
opening-rows p read are = can-be p read (opening-over p.archive read p.rows are)

-- ---- 5. rows of a state file over them

made-of : {A B : Type 0} (f : A → B) (o : Option A) (y : B) → option_map f o ≡ Some y
    → (x : A) × (o ≡ Some x) × (f x ≡ y)
made-of f None y is = absurd (let bad : None ≡ Some y = is in cc)
made-of f (Some x) y is = (x, refl, some_is (f x) y is)

-- the number of each row that is written is within the limit
written-within : (rows : Table) (k : Key) (row : Row) → AllByRecursion Opens rows
    → row_of rows k ≡ Some row → row.number ≤ max_rebuild
written-within [] k row all is = absurd (let bad : None ≡ Some row = is in cc)
written-within (e ∷ rows) k row all is = elim (cases_Bool (same_key k e.0)) [
  | inl here ↦
      let one : e.1 ≡ row = some_is e.1 row
      (sym (ap (λ (b : Bool). if b then Some e.1 else row_of rows k) here) ∙ is) in
      subst (λ (r : Row). r.number ≤ max_rebuild) one all.0.fits.number
  | inr other ↦
      written-within rows k row all.1
      (sym (ap (λ (b : Bool). if b then Some e.1 else row_of rows k) other) ∙ is)
]

module _ (given : Table) (lines : List (List ℕ)) (file : IsStateFile lines given) where
  given-within : (k : Key) (row : Row) → row_of given k ≡ Some row → row.number ≤ max_rebuild
  given-within k row is =
      written-within file.rows k row file.written.opening (sym (file.same k) ∙ is)

  either-within : (k : Key) (first row : Row) (o : Option Row) → row_of given k ≡ o
      → unwrap_or o first ≡ row → first.number ≤ max_rebuild → row.number ≤ max_rebuild
  either-within k first row None e is low =
      subst (λ (r : Row). r.number ≤ max_rebuild) is low
  either-within k first row (Some own) e is low =
      subst (λ (r : Row). r.number ≤ max_rebuild) is (given-within k own e)

  module _ (a : Contents) (opened : Table) (over : AreOver a opened) where
    abbrev put : Key → Row → Row
    put k row = unwrap_or (row_of given k) row

    under : (k : Key) (row : Row) → row_of (overlaid given opened) k ≡ Some row
        → (first : Row) × (row_of opened k ≡ Some first) × (put k first ≡ row)
    under k row is =
        made-of (put k) (row_of opened k) row (sym (row_of-each_row put opened k) ∙ is)

    replaced-over : AreOver a (overlaid given opened)
    replaced-over = record {
      table = record {
        rising = ap ascending (keys_of-each_row put opened) ∙ over.table.rising;
        limited = omega (arith, length-each_row put opened, over.table.limited);
      };
      opens = λ k row is. (let u = under k row is in over.opens k u.0 u.1);
      limited = λ k row is. (let u = under k row is in
          either-within k u.0 row (row_of given k) refl u.2 (over.limited k u.0 u.1));
    }

pub replaced-rows : ReplacedRowsCanBePlanned
replaced-rows p opened given lines read are file is =
    can-be p read (subst (AreOver p.archive) (sym is)
    (replaced-over given lines file p.archive opened (opening-over p.archive read opened are)))

-- ---- 6. the rows of some sources

chosen-over : (a : Contents) (sources : List KeptSource) (all : Table) → AreOver a all
    → AreOver a (filter (λ e. is_of_one sources e.0) all)
chosen-over a sources all over =
    let keep : Key → Bool = is_of_one sources in
    record {
      table = record {
        rising = rising-kept keep all over.table.rising;
        limited = omega (arith, few-kept keep all, over.table.limited);
      };
      opens = λ k row is. over.opens k row (kept-is keep all k row is);
      limited = λ k row is. over.limited k row (kept-is keep all k row is);
    }

pub chosen-rows : ChosenRowsCanBePlanned
chosen-rows p sources read are =
    can-be p read (subst (AreOver p.archive) (sym are.own)
    (chosen-over p.archive sources are.all
    (opening-over p.archive read are.all (record { same = are.opened; rising = are.rising }))))
