-- The rows with which a desk opens: no builder has one, and the version of each one's source is
-- known.
-- known.
use Rattle.std.proofs.Common.{◌≡◌, ℕ, Bool, false, List, [], ◌∷◌, Option, Some, None, Result, Ok}
use Rattle.std.proofs.Common.{Err, map, option_map, refl, sym, ap, subst, ◌∙◌, inl, inr}
use Rattle.std.specs.Prelude.{IfOk}
use Rattle.std.specs.List.{AllByRecursion, find}
use Rattle.std.specs.Str.{bytes_eq}
use Rattle.std.proofs.lemmas.Bool.{cases_Bool}
use Rattle.td_text.proofs.Chain.{some_is}
use Rattle.td_rows.specs.declared.key.Key.{Key}
use Rattle.td_rows.specs.declared.row.Row.{Row}
use Rattle.td_rows.specs.States.{is_building}
use Rattle.td_relation.specs.Table.{place_of}
use Rattle.td_stanza.specs.Field.{Entry}
use Rattle.td_supply.specs.Supply.{opened}
use Rattle.td_supply.specs.VersionTexts.{IsVersionText}
use Rattle.td_version.specs.Reading.{reading}
use Rattle.td_indices.specs.declared.archive_fault.IndexFile.TheVariants.{Sources}
use Rattle.td_indices.specs.declared.archive_fault.VersionField.TheVariants.{Version}
use Rattle.td_indices.specs.Archive.{Contents, source_named}
use Rattle.td_indices.specs.Fields.{version_in}
use Rattle.td_indices.specs.OpeningRows.{IsVersionKnown}
use Rattle.td_indices.specs.Reading.{sources_at}
use Rattle.td_indices.specs.Supplying.{AreRead, listed, supply_of}
use Rattle.td_indices.specs.Opening.{current_numbers, greatest, opening_at, opening_of, opening_on}
use Rattle.td_indices.specs.Opening.{opening_row}
use Rattle.td_indices.specs.Rows.{has_row}
use Rattle.td_indices.specs.Sources.{KeptSource, kept_source_at}
use Rattle.td_indices.specs.Sources.{lower_source, same_source}
use Rattle.td_indices.proofs.LegalNames.{all_over}
use Rattle.td_indices.proofs.PackageStanzas.{version_again, version_read}
use Rattle.td_indices.proofs.SourceStanzas.{source_found}

free_of : (best : Option ℕ) → is_building (opening_of best).state ≡ false
free_of None = refl
free_of (Some n) = refl

free_on : (a : Contents) (s : KeptSource) (o : Option ℕ) (row : Row) → opening_on a s o ≡ Some row
    → is_building row.state ≡ false
free_on a s None row e = absurd cc
free_on a s (Some place) row e =
    elim (cases_Bool (has_row a.table s.head.archs place)) [
      | inl has ↦
          let is : opening_of (greatest (current_numbers a s place)) ≡ row =
          some_is _ row (sym (rw has refl) ∙ e) in
          subst (λ (r : Row). is_building r.state ≡ false) is
          (free_of (greatest (current_numbers a s place)))
      | inr none ↦ absurd (let bad : None ≡ Some row = sym (rw none refl) ∙ e in cc)
    ]

free_at : (a : Contents) (o : Option KeptSource) (arch : List ℕ) (row : Row)
    → opening_at a o arch ≡ Some row → is_building row.state ≡ false
free_at a None arch row e = absurd cc
free_at a (Some s) arch row e = free_on a s (place_of a.table arch) row e

pub free : (a : Contents) (k : Key) (row : Row) → opening_row a k ≡ Some row
    → is_building row.state ≡ false
free a k row e = free_at a (source_named a k.source) k.arch row e

pub free_rows : {R E : Type 0} (look : R → Key → Option Row) (a : Contents) (r : Result R E)
    → IfOk r (λ rows. (k : Key) → look rows k ≡ opening_row a k)
    → IfOk r (λ rows.
    (k : Key) (row : Row) → look rows k ≡ Some row → is_building row.state ≡ false)
free_rows look a (Ok rows) h = λ k row at. free a k row (sym (h k) ∙ at)
free_rows look a (Err e) h = tt

-- ---- the version of a source that is kept

kept_read : (n : ℕ) (fields : List Entry) (s : KeptSource) → kept_source_at n fields ≡ Ok (Some s)
    → version_in Version s.head.version ≡ Ok s.head.parts
kept_read n fields s e =
    version_again Version s.head.version s.head.parts (source_found n fields s e).readable

found_by : {A : Type 0} (P : A → Type 0) (test : A → Bool) (xs : List A) (x : A)
    → AllByRecursion P xs → find test xs ≡ Some x → P x
found_by P test [] x h e = absurd cc
found_by P test (y ∷ xs) x h e =
    elim (cases_Bool (test y)) [
      | inl is ↦ subst P (some_is y x (sym (rw is refl) ∙ e)) h.0
      | inr other ↦ found_by P test xs x h.1 (sym (rw other refl) ∙ e)
    ]

-- the versions of the sources that are kept are versions
pub all_read : (stanzas : List (List Entry)) (sources : List KeptSource)
    → sources_at stanzas ≡ Ok sources → AreRead sources
all_read stanzas sources kept =
    all_over same_source lower_source kept_source_at Sources (λ (s : KeptSource).
    IsVersionText s.head.version)
    (λ n fields s e. (s.head.parts, (source_found n fields s e).readable))
    0 [] stanzas sources tt kept

find_listed : (name : List ℕ) (ss : List KeptSource)
    → find (λ (p : List ℕ × List ℕ). bytes_eq name p.0) (map listed ss)
    ≡ option_map listed (find (λ (s : KeptSource). bytes_eq name s.head.name) ss)
find_listed name [] = refl
find_listed name (s ∷ ss) =
    elim (cases_Bool (bytes_eq name s.head.name)) [
      | inl is ↦ rw is refl
      | inr other ↦ rw other (find_listed name ss)
    ]

known_at : (a : Contents) (name : List ℕ) (s : KeptSource)
    → sources_at a.source_stanzas ≡ Ok a.sources → source_named a name ≡ Some s
    → IsVersionKnown (opened (supply_of a)) name
known_at a name s kept named =
    let all = all_over same_source lower_source kept_source_at Sources
    (λ (t : KeptSource). version_in Version t.head.version ≡ Ok t.head.parts) kept_read 0 []
    a.source_stanzas a.sources tt kept in
    let read = found_by (λ (t : KeptSource). version_in Version t.head.version ≡ Ok t.head.parts)
    (λ (t : KeptSource). bytes_eq name t.head.name) a.sources s all named in (
      s.head.version,
      s.head.parts,
      ap (option_map (λ (p : List ℕ × List ℕ). p.1))
          (find_listed name a.sources ∙ ap (option_map listed) named),
      version_read Version (reading s.head.version) s.head.parts read,
    )

pub known : (a : Contents) → sources_at a.source_stanzas ≡ Ok a.sources → (k : Key) (row : Row)
    → opening_row a k ≡ Some row → IsVersionKnown (opened (supply_of a)) k.source
known a kept k row e = by (source_named a k.source) refl
  where
    by : (o : Option KeptSource) → source_named a k.source ≡ o
        → IsVersionKnown (opened (supply_of a)) k.source
    by None none =
        absurd (let bad : None ≡ Some row =
        sym (ap (λ (o : Option KeptSource). opening_at a o k.arch) none) ∙ e in cc)
    by (Some s) named = known_at a k.source s kept named

pub known_rows : {R E : Type 0} (look : R → Key → Option Row) (a : Contents) (r : Result R E)
    → sources_at a.source_stanzas ≡ Ok a.sources
    → IfOk r (λ rows. (k : Key) → look rows k ≡ opening_row a k)
    → IfOk r (λ rows. (k : Key) (row : Row) → look rows k ≡ Some row
    → IsVersionKnown (opened (supply_of a)) k.source)
known_rows look a (Ok rows) kept h = λ k row at. known a kept k row (sym (h k) ∙ at)
known_rows look a (Err e) kept h = tt
