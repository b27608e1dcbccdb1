-- The field that is named as missing is the first that is.
use Rattle.std.proofs.Common.{◌≡◌, ◌≢◌, ◌⊎◌, ℕ, Bool, true, false, cond, List, [], ◌∷◌, ◌++◌}
use Rattle.std.proofs.Common.{Option}
use Rattle.std.proofs.Common.{Some, None, Result, Ok, Err, refl, sym, ap, subst, ◌∙◌, inl, inr}
use Rattle.std.proofs.Common.{append_assoc, length, ◌==◌}
use Rattle.std.specs.Prelude.{codes}
use Rattle.td_text.specs.Cut.{Without, cut}
use Rattle.td_text.specs.Lines.{on_ok}
use Rattle.td_text.specs.Words.{is_name}
use Rattle.td_text.specs.Runs.{is_blank, is_space}
use Rattle.td_text.proofs.Chain.{some_is}
use Rattle.td_text.proofs.Cut.{Without-append, Without-from_test, cut-at, cut_found}
use Rattle.td_text.proofs.Words.{Without-name}
use Rattle.td_stanza.specs.Field.{Entry}
use Rattle.td_version.specs.Reading.{reading}
use Rattle.td_version.specs.Version.{Parts}
use Rattle.td_version.specs.declared.version.VersionFault.{VersionFault}
use Rattle.td_relation.specs.Arch.{ArchWords}
use Rattle.td_relation.specs.Asked.{Asked}
use Rattle.td_relation.specs.RelationGrammar.{relation_at}
use Rattle.td_relation.specs.declared.relation_fault.RelationFault.{RelationFault}
use Rattle.td_indices.specs.declared.archive_fault.EntryFault.{EntryFault}
use Rattle.td_indices.specs.declared.archive_fault.EntryFault.TheVariants.{BadRelation, BadVersion}
use Rattle.td_indices.specs.declared.archive_fault.EntryFault.TheVariants.{Missing}
use Rattle.td_indices.specs.declared.archive_fault.IndexField.{IndexField}
use Rattle.td_indices.specs.declared.archive_fault.IndexField.TheVariants.{Architecture, Package}
use Rattle.td_indices.specs.declared.archive_fault.IndexField.TheVariants.{Version, Source}
use Rattle.td_indices.specs.declared.archive_fault.RelationField.{RelationField}
use Rattle.td_indices.specs.declared.archive_fault.RelationField.TheVariants as relation_field
use Rattle.td_indices.specs.declared.archive_fault.VersionField.{VersionField}
use Rattle.td_indices.specs.declared.archive_fault.VersionField.TheVariants as version_field
use Rattle.td_indices.specs.Binaries.{BinaryPackage, bracketed, front_name, home_of, if_here}
use Rattle.td_indices.specs.Binaries.{local_at, named_front, origin_of, package_at, source_text}
use Rattle.td_indices.specs.Binaries.{source_version}
use Rattle.td_indices.specs.Fields.{name_in, needed, relation_in, relation_of, relation_or_bad}
use Rattle.td_indices.specs.Fields.{value_of, version_in, version_or_bad}
use Rattle.td_indices.specs.Kept.{binary_at, provides_at, with_relations}
use Rattle.td_indices.specs.MissingFields.{IsFirstMissing, LacksSource, NamesNoSource}
use Rattle.td_indices.specs.MissingFields.{MissingPackageFieldsAreExact}
use Rattle.td_indices.specs.MissingFields.{MissingSourceFieldsAreExact}
use Rattle.td_indices.specs.Needed.{HasNeeded}
use Rattle.td_indices.specs.Sources.{KeptSource, is_extra, kept_source_at, source_at}
use Rattle.td_indices.specs.Sources.{whole_source_at, with_build_relations}
use Rattle.td_indices.proofs.FaultOrder.{failing}
use Rattle.td_indices.proofs.Needed.{HasThen, needed_again, needed_then}
use Rattle.td_indices.proofs.PackageStanzas.{front_again, front_found}
use Rattle.td_indices.proofs.SourceStanzas.{versioned, yes_again, yes_found}

-- ---- no field is missing that is told of otherwise

-- no field is missing
abbrev Complete : {A : Type 0} → Result A EntryFault → Type 0
Complete {A} r = (field : IndexField) → r ≡ Err (Missing field) → ⊥

complete_ok : {A : Type 0} (x : A) → Complete (Ok x)
complete_ok {A} x field h =
    (let bad : ◌≡◌ {A = Result A EntryFault} (Ok x) (Err (Missing field)) = h in cc)

complete_chain : {A B : Type 0} (r : Result A EntryFault) (f : A → Result B EntryFault)
    → Complete r → ((x : A) → Complete (f x)) → Complete (on_ok r f)
complete_chain r f first next field h =
    elim (failing r f (Missing field) h) [
      | inl now ↦ first field now
      | inr p ↦ next p.0 field p.2
    ]

version_complete : (field : VersionField) (text : List ℕ) → Complete (version_in field text)
version_complete field text = by (reading text)
  where
    by : (r : Result Parts VersionFault) → Complete (version_or_bad field r)
    by (Ok parts) = complete_ok parts
    by (Err fault) = λ other h. (let bad :
        ◌≡◌ {A = Result Parts EntryFault} (Err (BadVersion field)) (Err (Missing other)) = h in cc)

relation_complete : (fields : List Entry) (field : RelationField)
    → Complete (relation_of fields field)
relation_complete fields field = by (value_of fields _)
  where
    read : (r : Result (List (List Asked)) RelationFault) → Complete (relation_or_bad field r)
    read (Ok members) = complete_ok members
    read (Err fault) = λ other h. (let bad : ◌≡◌ {A = Result (List (List Asked)) EntryFault}
        (Err (BadRelation field)) (Err (Missing other)) = h in cc)

    blank : (b : Bool) (r : Result (List (List Asked)) RelationFault)
        → Complete (cond b (Ok []) (relation_or_bad field r))
    blank true r = complete_ok []
    blank false r = read r

    by : (o : Option (List ℕ)) → Complete (relation_in field o)
    by None = complete_ok []
    by (Some text) = blank (is_blank text) (relation_at text)

bracket_complete : (o : Option (List ℕ × List ℕ)) → Complete (bracketed o)
bracket_complete None = λ other h. (let bad : ◌≡◌ {A = Result Parts EntryFault}
    (Err (BadVersion version_field.Source)) (Err (Missing other)) = h in cc)
bracket_complete (Some p) = by (length p.1 == 0)
  where
    by : (b : Bool) → Complete
        (cond b (version_in version_field.Source p.0) (Err (BadVersion version_field.Source)))
    by true = version_complete version_field.Source p.0
    by false = λ other h. (let bad : ◌≡◌ {A = Result Parts EntryFault}
        (Err (BadVersion version_field.Source)) (Err (Missing other)) = h in cc)

source_version_complete : (own : Parts) (o : Option (List ℕ)) → Complete (source_version own o)
unfolding source_version
source_version_complete own None = complete_ok own
source_version_complete own (Some rest) = bracket_complete (cut 41 rest)

-- ---- the first three fields

fields_same : {A : Type 0} (x y : IndexField)
    → ◌≡◌ {A = Result A EntryFault} (Err (Missing x)) (Err (Missing y)) → x ≡ y
fields_same x y h = cc

module _ {A : Type 0} (fields : List Entry) (source : Type 0)
    (next : List ℕ → List ℕ → List ℕ → Result A EntryFault) (field : IndexField) where
  abbrev Told : Type 0
  Told = IsFirstMissing fields source field ⊎ HasThen fields next (Err (Missing field))

  told : (x : IndexField) → IsFirstMissing fields source x
      → ◌≡◌ {A = Result A EntryFault} (Err (Missing x)) (Err (Missing field)) → Told
  told x is h = inl (subst (λ (f : IndexField). IsFirstMissing fields source f)
      (fields_same {A = A} x field h) is)

  at_arch : (name version : List ℕ) → value_of fields (codes "Package") ≡ Some name
      → is_name name ≡ true → value_of fields (codes "Version") ≡ Some version
      → (o : Option (List ℕ)) → value_of fields (codes "Architecture") ≡ o
      → on_ok (needed Architecture o) (λ arch. next name version arch) ≡ Err (Missing field) → Told
  at_arch name version named legal versioned None is e =
      told Architecture ((name, named, legal), (version, versioned), is) e
  at_arch name version named legal versioned (Some arch) is e = inr (record {
    version = version;
    arch = arch;
    has = record {
      name = name;
      named = named;
      legal = legal;
      versioned = versioned;
      there = is;
    };
    behind = e;
  })

  at_version : (name : List ℕ) → value_of fields (codes "Package") ≡ Some name
      → is_name name ≡ true
      → (o : Option (List ℕ)) → value_of fields (codes "Version") ≡ o
      → on_ok (needed Version o) (λ version.
      on_ok (needed Architecture (value_of fields (codes "Architecture"))) (λ arch.
      next name version arch)) ≡ Err (Missing field) → Told
  at_version name named legal None is e = told Version ((name, named, legal), is) e
  at_version name named legal (Some version) is e =
      at_arch name version named legal is (value_of fields (codes "Architecture")) refl e

  at_name : (o : Option (List ℕ)) → value_of fields (codes "Package") ≡ o
      → on_ok (name_in Package o) (λ name.
      on_ok (needed Version (value_of fields (codes "Version"))) (λ version.
      on_ok (needed Architecture (value_of fields (codes "Architecture"))) (λ arch.
      next name version arch))) ≡ Err (Missing field) → Told
  at_name None is e = told Package (λ name there. (let bad : None ≡ Some name = sym is ∙ there in
      absurd cc)) e
  at_name (Some name) is e = by (is_name name) refl e
    where
      by : (b : Bool) → is_name name ≡ b
          → on_ok (cond b (Ok name) (Err (Missing Package))) (λ name.
          on_ok (needed Version (value_of fields (codes "Version"))) (λ version.
          on_ok (needed Architecture (value_of fields (codes "Architecture"))) (λ arch.
          next name version arch))) ≡ Err (Missing field) → Told
      by true legal k = at_version name is legal (value_of fields (codes "Version")) refl k
      by false legal k = told Package (λ other there.
          ap is_name (some_is other name (sym there ∙ is)) ∙ legal) k

  first_or_behind : needed_then fields next ≡ Err (Missing field) → Told
  first_or_behind e = at_name (value_of fields (codes "Package")) refl e

-- and the other way round
unnamed_again : (fields : List Entry) (o : Option (List ℕ)) → value_of fields (codes "Package") ≡ o
    → ((name : List ℕ) → value_of fields (codes "Package") ≡ Some name → is_name name ≡ false)
    → name_in Package o ≡ Err (Missing Package)
unnamed_again fields None is none = refl
unnamed_again fields (Some name) is none =
    ap (λ (b : Bool). cond b (Ok name) (Err (Missing Package))) (none name is)

named_again : (name : List ℕ) (o : Option (List ℕ)) → o ≡ Some name → is_name name ≡ true
    → name_in Package o ≡ Ok name
named_again name o e legal =
    ap (name_in Package) e ∙ ap (λ (b : Bool). cond b (Ok name) (Err (Missing Package))) legal

three_again : {A : Type 0} (fields : List Entry) (source : Type 0)
    (next : List ℕ → List ℕ → List ℕ → Result A EntryFault) (field : IndexField)
    → IsFirstMissing fields source field
    → (needed_then fields next ≡ Err (Missing field)) ⊎ (source × (field ≡ Source))
three_again fields source next Package none = inl (
    ap (λ r. on_ok r (λ name.
    on_ok (needed Version (value_of fields (codes "Version"))) (λ version.
    on_ok (needed Architecture (value_of fields (codes "Architecture"))) (λ arch.
    next name version arch)))) (unnamed_again fields (value_of fields (codes "Package")) refl none))
three_again fields source next Version ((name, named, legal), none) = inl (
    rw (named_again name (value_of fields (codes "Package")) named legal, none) refl)
three_again fields source next Architecture ((name, named, legal), (version, versioned), none) =
    inl (rw (named_again name (value_of fields (codes "Package")) named legal, versioned, none)
    refl)
three_again fields source next Source is = inr (is, refl)

-- ---- the Source field

bracket_missing : (text front rest : List ℕ) → text ≡ front ++ 40 ∷ rest → is_name text ≡ true → ⊥
bracket_missing text front rest is legal =
    by front (subst (λ (t : List ℕ). Without 40 t) is (Without-name 40 text refl legal))
  where
    by : (f : List ℕ) → Without 40 (f ++ 40 ∷ rest) → ⊥
    by [] w = w.0 refl
    by (x ∷ f) w = by f w.1

false_unless : (b : Bool) → (b ≡ true → ⊥) → b ≡ false
false_unless true h = absurd (h refl)
false_unless false h = refl

front_without : (source space : List ℕ) → is_name source ≡ true → is_blank space ≡ true
    → Without 40 (source ++ space)
front_without source space legal blank =
    Without-append 40 source space (Without-name 40 source refl legal)
    (Without-from_test is_space 40 space refl blank)

-- a field that can't be read names no source
unread_source : (text : List ℕ) (field : IndexField) (o : Option (List ℕ × List ℕ))
    → cut 40 text ≡ o → source_text text o ≡ Err (Missing field)
    → (field ≡ Source) × NamesNoSource text
unread_source text field None is e = by (is_name text) refl e
  where
    by : (b : Bool) → is_name text ≡ b
        → cond {A = Result (List ℕ × Option (List ℕ)) EntryFault} b (Ok (text, None))
        (Err (Missing Source)) ≡ Err (Missing field)
        → (field ≡ Source) × NamesNoSource text
    by true legal k = absurd (complete_ok {A = List ℕ × Option (List ℕ)} (text, None) field k)
    by false other k = (
      sym (fields_same {A = List ℕ × Option (List ℕ)} Source field k),
      record {
        no_name = other;
        no_front = λ source space rest spelled legal blank.
            (let found =
            cut-at 40 (source ++ space) rest (front_without source space legal blank) in
            let joined : text ≡ (source ++ space) ++ 40 ∷ rest =
            spelled ∙ sym (append_assoc source space (40 ∷ rest)) in
            let bad : None ≡ Some (source ++ space, rest) = sym is ∙ ap (cut 40) joined ∙ found in
            cc);
      },
    )
unread_source text field (Some p) is e = by (front_name p.0) refl e
  where
    by : (n : Option (List ℕ)) → front_name p.0 ≡ n
        → named_front n p.1 ≡ Err (Missing field) → (field ≡ Source) × NamesNoSource text
    by (Some name) named k =
        absurd (complete_ok {A = List ℕ × Option (List ℕ)} (name, Some p.1) field k)
    by None none k = (
      sym (fields_same {A = List ℕ × Option (List ℕ)} Source field k),
      record {
        no_name = false_unless (is_name text)
            (bracket_missing text p.0 p.1 (cut_found 40 text p is).0);
        no_front = λ source space rest spelled legal blank.
            (let found =
            cut-at 40 (source ++ space) rest (front_without source space legal blank) in
            let joined : text ≡ (source ++ space) ++ 40 ∷ rest =
            spelled ∙ sym (append_assoc source space (40 ∷ rest)) in
            let same : p ≡ (source ++ space, rest) =
            some_is p (source ++ space, rest) (sym is ∙ ap (cut 40) joined ∙ found) in
            let bad : None ≡ Some source =
            sym none ∙ ap (λ (q : List ℕ × List ℕ). front_name q.0) same
            ∙ front_again source space legal blank in
            cc);
      },
    )

-- a text that names no source can't be read
source_unread : (text : List ℕ) (o : Option (List ℕ × List ℕ)) → cut 40 text ≡ o
    → NamesNoSource text → source_text text o ≡ Err (Missing Source)
source_unread text None is h =
    ap (λ (b : Bool). cond {A = Result (List ℕ × Option (List ℕ)) EntryFault} b (Ok (text, None))
    (Err (Missing Source))) h.no_name
source_unread text (Some p) is h = by (front_name p.0) refl
  where
    by : (n : Option (List ℕ)) → front_name p.0 ≡ n → named_front n p.1 ≡ Err (Missing Source)
    by None none = refl
    by (Some name) named =
        let front = front_found p.0 name named in
        absurd (h.no_front name front.space p.1
        ((cut_found 40 text p is).0
        ∙ ap (λ (t : List ℕ). t ++ 40 ∷ p.1) front.joined
        ∙ append_assoc name front.space (40 ∷ p.1)) front.legal front.blank)

-- ---- packages

-- what is read behind the three fields of a package
abbrev here : List ArchWords → List Entry → List ℕ → List ℕ → List ℕ
    → Result (Option BinaryPackage) EntryFault
here table fields name version arch = if_here fields name version (home_of table arch)

origin_missing : (fields : List Entry) (name : List ℕ) (field : IndexField) (o : Option (List ℕ))
    → value_of fields (codes "Source") ≡ o → origin_of name o ≡ Err (Missing field)
    → (field ≡ Source) × ((text : List ℕ) × (value_of fields (codes "Source") ≡ Some text)
    × NamesNoSource text)
unfolding origin_of
origin_missing fields name field None is e =
    absurd (complete_ok {A = List ℕ × Option (List ℕ)} (name, None) field e)
origin_missing fields name field (Some text) is e =
    let p = unread_source text field (cut 40 text) refl e in (p.0, (text, is, p.1))

local_missing : (fields : List Entry) (name version : List ℕ) (home : Option ℕ)
    (field : IndexField) → local_at fields name version home ≡ Err (Missing field)
    → (field ≡ Source) × ((text : List ℕ) × (value_of fields (codes "Source") ≡ Some text)
    × NamesNoSource text)
unfolding local_at
local_missing fields name version home field e =
    elim (failing (origin_of name (value_of fields (codes "Source"))) _ (Missing field) e) [
      | inl origin ↦
          origin_missing fields name field (value_of fields (codes "Source")) refl origin
      | inr p ↦
          absurd (complete_chain (version_in version_field.Version version) _
          (version_complete version_field.Version version) (λ parts.
          complete_chain (source_version parts p.0.1) _ (source_version_complete parts p.0.1)
          (λ source_parts. complete_ok _)) field p.2)
    ]

lacks_source : (table : List ArchWords) (fields : List Entry) (name version arch : List ℕ)
    (o : Option (Option ℕ)) (field : IndexField) → home_of table arch ≡ o
    → HasNeeded fields version arch → if_here fields name version o ≡ Err (Missing field)
    → (field ≡ Source) × LacksSource table fields
lacks_source table fields name version arch None field is has e =
    absurd (complete_ok {A = Option BinaryPackage} None field e)
lacks_source table fields name version arch (Some home) field is has e =
    elim (failing (local_at fields name version home) _ (Missing field) e) [
      | inl head ↦
          let p = local_missing fields name version home field head in (
            p.0,
            record {
              version = version;
              arch = arch;
              home = home;
              has = has;
              here = is;
              text = p.1.0;
              there = p.1.1;
              unnamed = p.1.2;
            },
          )
      | inr p ↦ absurd (complete_ok _ field p.2)
    ]

package_missing : (table : List ArchWords) (fields : List Entry) (field : IndexField)
    → package_at table fields ≡ Err (Missing field)
    → IsFirstMissing fields (LacksSource table fields) field
unfolding package_at
package_missing table fields field e =
    elim (first_or_behind fields (LacksSource table fields) (here table fields) field e) [
      | inl first ↦ first
      | inr h ↦
          let p = lacks_source table fields h.has.name h.version h.arch (home_of table h.arch)
          field refl h.has h.behind in
          subst (λ (f : IndexField). IsFirstMissing fields (LacksSource table fields) f) (sym p.0)
          p.1
    ]

relations_complete : (number : ℕ) (fields : List Entry) (o : Option BinaryPackage)
    → Complete (with_relations number fields o)
unfolding provides_at
relations_complete number fields None = complete_ok None
relations_complete number fields (Some p) =
    complete_chain (provides_at fields) _
    (complete_chain (relation_of fields relation_field.Depends) _
    (relation_complete fields relation_field.Depends) (λ depends.
    complete_chain (relation_of fields relation_field.PreDepends) _
    (relation_complete fields relation_field.PreDepends) (λ pre_depends.
    relation_complete fields relation_field.Provides))) (λ provides. complete_ok _)

package_told : (table : List ArchWords) (fields : List Entry) (field : IndexField)
    → IsFirstMissing fields (LacksSource table fields) field
    → package_at table fields ≡ Err (Missing field)
unfolding package_at local_at origin_of
package_told table fields field is =
    elim (three_again fields (LacksSource table fields) (here table fields) field is) [
      | inl first ↦ first
      | inr p ↦
          let h = p.0 in
          let origin : origin_of h.has.name (value_of fields (codes "Source"))
          ≡ Err (Missing Source) =
          ap (origin_of h.has.name) h.there ∙ source_unread h.text (cut 40 h.text) refl h.unnamed in
          needed_again fields (here table fields) h.version h.arch h.has
          ∙ ap (if_here fields h.has.name h.version) h.here
          ∙ rw origin (ap (λ (f : IndexField). Err (Missing f)) (sym p.1))
    ]

pub missing_package_fields_are_exact : MissingPackageFieldsAreExact
unfolding binary_at
missing_package_fields_are_exact table number fields field = (
  λ e. elim (failing (package_at table fields) _ (Missing field) e) [
    | inl head ↦ package_missing table fields field head
    | inr p ↦ absurd (relations_complete number fields p.0 field p.2)
  ],
  λ is. ap (λ r. on_ok r (λ p. with_relations number fields p))
      (package_told table fields field is),
)

-- ---- sources

source_missing : (fields : List Entry) (field : IndexField)
    → source_at fields ≡ Err (Missing field) → IsFirstMissing fields ⊥ field
unfolding source_at
source_missing fields field e =
    elim (first_or_behind fields ⊥ versioned field e) [
      | inl first ↦ first
      | inr h ↦
          absurd (complete_chain (version_in version_field.Version h.version) _
          (version_complete version_field.Version h.version) (λ parts. complete_ok _) field
          h.behind)
    ]

source_told : (fields : List Entry) (field : IndexField) → IsFirstMissing fields ⊥ field
    → source_at fields ≡ Err (Missing field)
unfolding source_at
source_told fields field is =
    elim (three_again fields ⊥ versioned field is) [
      | inl first ↦ first
      | inr p ↦ absurd p.0
    ]

whole_missing : (number : ℕ) (fields : List Entry) (field : IndexField)
    → whole_source_at number fields ≡ Err (Missing field) → IsFirstMissing fields ⊥ field
unfolding whole_source_at with_build_relations
whole_missing number fields field e =
    elim (failing (source_at fields) _ (Missing field) e) [
      | inl head ↦ source_missing fields field head
      | inr p ↦
          absurd (complete_chain (relation_of fields relation_field.BuildDepends) _
          (relation_complete fields relation_field.BuildDepends) (λ depends.
          complete_chain (relation_of fields relation_field.BuildDependsArch) _
          (relation_complete fields relation_field.BuildDependsArch) (λ more. complete_ok _)) field
          p.2)
    ]

pub missing_source_fields_are_exact : MissingSourceFieldsAreExact
unfolding kept_source_at whole_source_at
missing_source_fields_are_exact number fields field = (
  λ e. by (is_extra fields) refl e,
  λ p. (let own = yes_again (value_of fields (codes "Extra-Source-Only")) p.0 in
      let head = source_told fields field p.1 in
      rw (own, head) refl),
)
  where
    by : (b : Bool) → is_extra fields ≡ b
        → cond b (Ok None) (on_ok (whole_source_at number fields) (λ s. Ok (Some s)))
        ≡ Err (Missing field)
        → (value_of fields (codes "Extra-Source-Only") ≢ Some (codes "yes"))
        × IsFirstMissing fields ⊥ field
    by true extra e = absurd (complete_ok {A = Option KeptSource} None field e)
    by false own e = (
      yes_found (value_of fields (codes "Extra-Source-Only")) own,
      elim (failing (whole_source_at number fields) (λ s. Ok (Some s)) (Missing field) e) [
        | inl whole ↦ whole_missing number fields field whole
        | inr s ↦ absurd (complete_ok _ field s.2)
      ],
    )
