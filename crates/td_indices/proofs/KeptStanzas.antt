-- The stanzas that packages and sources were kept of.
use Rattle.std.proofs.Common.{◌≡◌, ℕ, suc, ◌+◌, List, [], ◌∷◌, ◌++◌, Bool, Option, Some, None}
use Rattle.std.proofs.Common.{Result, Ok, Err, option_map, slice_get, is_some, true, refl, sym, ap}
use Rattle.std.proofs.Common.{◌∙◌, subst, arith}
use Rattle.std.specs.List.{AllByRecursion}
use Rattle.std.specs.Option.{option_map_or}
use Rattle.td_text.proofs.Chain.{some_is}
use Rattle.td_stanza.specs.Field.{Entry}
use Rattle.td_relation.specs.Arch.{ArchWords}
use Rattle.td_relation.specs.Asked.{Asked}
use Rattle.std.specs.Prelude.{IfOk}
use Rattle.td_indices.specs.declared.archive_fault.RelationField.{RelationField}
use Rattle.td_indices.specs.declared.archive_fault.EntryFault.{EntryFault}
use Rattle.td_indices.specs.Archive.{Contents}
use Rattle.td_indices.specs.Counting.{AreItems, Counts, consed}
use Rattle.td_indices.specs.Fields.{relation_of}
use Rattle.td_indices.specs.Kept.{KeptBinary, binary_at, lower_package, same_package}
use Rattle.td_indices.specs.Reading.{binaries_at, sources_at}
use Rattle.td_indices.specs.Sources.{KeptSource, kept_source_at}
use Rattle.td_indices.specs.Sources.{lower_source, same_source}
use Rattle.td_indices.specs.SourceStanzas.{IsKeptSource}
use Rattle.td_indices.specs.Stanzas.{IsKeptOf, asked_in, asked_or_none}
use Rattle.td_indices.proofs.CountingLaws.{greatest_packages, greatest_sources}
use Rattle.td_indices.proofs.LegalNames.{all_at}
use Rattle.td_indices.proofs.SourceStanzas.{binary_found, source_found}

-- ---- 1. an item among those of the stanzas is that of one of them

no_item : {A : Type 0} (before after : List A) (x : A) → ◌≡◌ {A = List A} [] (before ++ x ∷ after)
    → ⊥
no_item [] after x e = cc
no_item (y ∷ before) after x e = cc

module _ {A : Type 0} (at : ℕ → List Entry → Result (Option A) EntryFault) where
  -- an item, read of the stanza behind these many
  abbrev OneOf : ℕ → List (List Entry) → A → Type 0
  OneOf n stanzas x =
      (k : ℕ) × (fields : List Entry) × (slice_get stanzas k ≡ Some fields)
      × (at (n + k) fields ≡ Ok (Some x))

  further : (n : ℕ) (s : List Entry) (ss : List (List Entry)) (x : A) → OneOf (n + 1) ss x
      → OneOf n (s ∷ ss) x
  further n s ss x h =
      let next : (n + 1) + h.0 ≡ n + suc h.0 = omega arith in
      (suc h.0, h.1, h.2, subst (λ (m : ℕ). at m h.1 ≡ Ok (Some x)) next h.3)

  first : (n : ℕ) (s : List Entry) (ss : List (List Entry)) (x : A) → at n s ≡ Ok (Some x)
      → OneOf n (s ∷ ss) x
  first n s ss x h =
      let here : n ≡ n + 0 = omega arith in
      (0, s, refl, subst (λ (m : ℕ). at m s ≡ Ok (Some x)) here h)

  among : (n : ℕ) (s : List Entry) (ss : List (List Entry)) (y : A) (rest before after : List A)
      (x : A) → ((front : List A) → rest ≡ front ++ x ∷ after → OneOf (n + 1) ss x)
      → at n s ≡ Ok (Some y) → y ∷ rest ≡ before ++ x ∷ after → OneOf n (s ∷ ss) x
  among n s ss y rest [] after x later read e =
      let same : y ≡ x = cc in first n s ss x (read ∙ ap (λ (z : A). Ok (Some z)) same)
  among n s ss y rest (z ∷ before) after x later read e =
      let behind : rest ≡ before ++ x ∷ after = cc in further n s ss x (later before behind)

  by_stanza : (n : ℕ) (s : List Entry) (ss : List (List Entry)) (rest before after : List A) (x : A)
      → ((front : List A) → rest ≡ front ++ x ∷ after → OneOf (n + 1) ss x) → (o : Option A)
      → at n s ≡ Ok o → consed o rest ≡ before ++ x ∷ after → OneOf n (s ∷ ss) x
  by_stanza n s ss rest before after x later None read e = further n s ss x (later before e)
  by_stanza n s ss rest before after x later (Some y) read e =
      among n s ss y rest before after x later read e

  one_of : (n : ℕ) (ss : List (List Entry)) (items before after : List A) (x : A)
      → AreItems at n ss items → items ≡ before ++ x ∷ after → OneOf n ss x
  one_of n [] items before after x are is = absurd (no_item before after x (sym are ∙ is))
  one_of n (s ∷ ss) items before after x are is =
      by_stanza n s ss are.1 before after x
      (λ front e. one_of (n + 1) ss are.1 front after x are.4 e) are.0 are.2 (sym are.3 ∙ is)

-- ---- 2. the items of an archive

kept_one : {A : Type 0} (same lower : A → A → Bool)
    (at : ℕ → List Entry → Result (Option A) EntryFault) (ss : List (List Entry))
    (items kept : List A) (i : ℕ) (x : A) → AreItems at 0 ss items
    → AllByRecursion (Counts same lower items) kept → slice_get kept i ≡ Some x
    → (k : ℕ) × (fields : List Entry) × (slice_get ss k ≡ Some fields) × (at k fields ≡ Ok (Some x))
kept_one same lower at ss items kept i x are counting got =
    let counts = all_at (Counts same lower items) kept i x counting got in
    let one = one_of at 0 ss items counts.before counts.after x are counts.parts in
    let here : 0 + one.0 ≡ one.0 = omega arith in
    (one.0, one.1, one.2, subst (λ (m : ℕ). at m one.1 ≡ Ok (Some x)) here one.3)

pub binary_kept : (table : List ArchWords) (stanzas : List (List Entry)) (kept : List KeptBinary)
    (i : ℕ) (b : KeptBinary) → binaries_at table stanzas ≡ Ok kept → slice_get kept i ≡ Some b
    → IsKeptOf (binary_at table) stanzas b.stanza b
binary_kept table stanzas kept i b read got =
    let g = greatest_packages table stanzas kept read in
    let one = kept_one same_package lower_package (binary_at table) stanzas g.0 kept i b g.1
    g.2.counting got in
    let number : one.0 ≡ b.stanza = sym (binary_found table one.0 one.1 b one.3).numbered in
    record {
      fields = one.1;
      there = subst (λ (n : ℕ). slice_get stanzas n ≡ Some one.1) number one.2;
      kept = subst (λ (n : ℕ). binary_at table n one.1 ≡ Ok (Some b)) number one.3;
    }

pub source_kept : (stanzas : List (List Entry)) (kept : List KeptSource) (i : ℕ) (s : KeptSource)
    → sources_at stanzas ≡ Ok kept → slice_get kept i ≡ Some s
    → IsKeptOf kept_source_at stanzas s.stanza s
source_kept stanzas kept i s read got =
    let g = greatest_sources stanzas kept read in
    let one = kept_one same_source lower_source kept_source_at stanzas g.0 kept i s g.1 g.2.counting
    got in
    let number : one.0 ≡ s.stanza = sym (source_found one.0 one.1 s one.3).numbered in
    record {
      fields = one.1;
      there = subst (λ (n : ℕ). slice_get stanzas n ≡ Some one.1) number one.2;
      kept = subst (λ (n : ℕ). kept_source_at n one.1 ≡ Ok (Some s)) number one.3;
    }

-- ---- 3. what is looked up by a number

pub mapped : {A B : Type 0} (f : A → B) (o : Option A) (y : B) → option_map f o ≡ Some y
    → is_some o ≡ true
mapped f None y e = absurd cc
mapped f (Some x) y e = refl

-- a source of an archive whose stanza has these fields
pub record SourceAt (a : Contents) (n : ℕ) (fields : List Entry) : Type 0 where
  pub source : KeptSource
  pub got : slice_get a.sources n ≡ Some source
  pub there : slice_get a.source_stanzas source.stanza ≡ Some fields

pub source_at : (a : Contents) (n : ℕ) (fields : List Entry)
    → option_map (λ (s : KeptSource). slice_get a.source_stanzas s.stanza) (slice_get a.sources n)
    ≡ Some (Some fields) → SourceAt a n fields
source_at a n fields e = by (slice_get a.sources n) refl
  where
    by : (o : Option KeptSource) → slice_get a.sources n ≡ o → SourceAt a n fields
    by None none =
        absurd (let bad : None ≡ Some (Some fields) =
        sym (ap (option_map (λ (s : KeptSource). slice_get a.source_stanzas s.stanza)) none) ∙ e in
        cc)
    by (Some s) got =
        let same : Some (slice_get a.source_stanzas s.stanza) ≡ Some (Some fields) =
        sym (ap (option_map (λ (t : KeptSource). slice_get a.source_stanzas t.stanza)) got) ∙ e in
        record { source = s; got = got; there = cc }

-- its two relations can be read
pub readable_at : (a : Contents) (n : ℕ) (fields : List Entry)
    → sources_at a.source_stanzas ≡ Ok a.sources → SourceAt a n fields
    → (s : KeptSource) × IsKeptSource s.stanza fields s
readable_at a n fields kept at =
    let its = source_kept a.source_stanzas a.sources n at.source kept at.got in
    let same : its.fields ≡ fields = some_is its.fields fields (sym its.there ∙ at.there) in (
      at.source,
      source_found at.source.stanza fields at.source
          (ap (λ (l : List Entry). kept_source_at at.source.stanza l) (sym same) ∙ its.kept),
    )

-- a relation of its stanza is that of the source
asked_at : (a : Contents) (n : ℕ) (fields : List Entry) (field : RelationField)
    → SourceAt a n fields
    → option_map (λ (s : KeptSource). asked_in a s field) (slice_get a.sources n)
    ≡ Some (relation_of fields field)
asked_at a n fields field at =
    ap (option_map (λ (s : KeptSource). asked_in a s field)) at.got
    ∙ ap (λ (o : Option (List Entry)).
    Some (relation_of (option_map_or (λ l. l) o []) field)) at.there

pub read_at : {R E : Type 0} (view : R → List (List Asked)) (a : Contents) (n : ℕ)
    (fields : List Entry) (field : RelationField) → SourceAt a n fields → (result : Result R E)
    → IfOk result (λ r. relation_of fields field ≡ Ok (view r))
    → IfOk result (λ r. option_map (λ (s : KeptSource). asked_in a s field) (slice_get a.sources n)
    ≡ Some (Ok (view r)))
read_at view a n fields field at (Ok r) h = asked_at a n fields field at ∙ ap Some h
read_at view a n fields field at (Err e) h = tt

listed : (f : KeptSource → Result (List (List Asked)) EntryFault) (o : Option KeptSource)
    → option_map (λ (s : KeptSource). asked_or_none (f s)) o
    ≡ option_map asked_or_none (option_map f o)
listed f None = refl
listed f (Some s) = refl

pub list_at : {R E : Type 0} (view : R → List (List Asked)) (a : Contents) (n : ℕ)
    (fields : List Entry) (field : RelationField) → SourceAt a n fields → (result : Result R E)
    → IfOk result (λ r. relation_of fields field ≡ Ok (view r))
    → IfOk result (λ r. option_map (λ (s : KeptSource). asked_or_none (asked_in a s field))
    (slice_get a.sources n) ≡ Some (view r))
list_at view a n fields field at (Ok r) h =
    listed (λ (s : KeptSource). asked_in a s field) (slice_get a.sources n)
    ∙ ap (option_map asked_or_none) (asked_at a n fields field at ∙ ap Some h)
list_at view a n fields field at (Err e) h = tt
