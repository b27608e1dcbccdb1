-- The version and the relation that are named as bad are the first that are.
use Rattle.std.proofs.Common.{◌≡◌, ℕ, ◌≤◌, Bool, true, false, cond, eqb, List, [], Option}
use Rattle.std.proofs.Common.{Some}
use Rattle.std.proofs.Common.{None, Result, Ok, Err, length, refl, sym, ap, subst, ◌∙◌, inl, inr}
use Rattle.std.proofs.Common.{arith}
use Rattle.std.specs.Prelude.{codes}
use Rattle.td_text.specs.Cut.{cut}
use Rattle.td_text.specs.Lines.{on_ok}
use Rattle.td_text.specs.Runs.{is_blank}
use Rattle.td_stanza.specs.Field.{Entry}
use Rattle.td_version.specs.Grammar.{IsVersion}
use Rattle.td_version.specs.Reading.{reading}
use Rattle.td_version.specs.Version.{Parts}
use Rattle.td_version.specs.declared.version.VersionFault.{VersionFault}
use Rattle.td_version.proofs.Outcomes.{read_only}
use Rattle.td_relation.specs.Arch.{ArchWords}
use Rattle.td_relation.specs.Asked.{Asked}
use Rattle.td_relation.specs.RelationGrammar.{relation_at}
use Rattle.td_relation.specs.Spacing.{IsRelation}
use Rattle.td_relation.specs.declared.relation_fault.RelationFault.{RelationFault}
use Rattle.td_relation.proofs.FoundRelations.{relations_are_exact}
use Rattle.td_indices.specs.declared.archive_fault.EntryFault.{EntryFault}
use Rattle.td_indices.specs.declared.archive_fault.EntryFault.TheVariants.{BadRelation, BadVersion}
use Rattle.td_indices.specs.declared.archive_fault.RelationField.{RelationField}
use Rattle.td_indices.specs.declared.archive_fault.RelationField.TheVariants.{BuildDepends}
use Rattle.td_indices.specs.declared.archive_fault.RelationField.TheVariants.{BuildDependsArch}
use Rattle.td_indices.specs.declared.archive_fault.RelationField.TheVariants.{Depends, PreDepends}
use Rattle.td_indices.specs.declared.archive_fault.RelationField.TheVariants.{Provides}
use Rattle.td_indices.specs.BadFields.{BadPackageRelationsAreExact, BadSourceRelationsAreExact}
use Rattle.td_indices.specs.BadFields.{HasHead, IsFirstUnread, IsFirstUnreadBuild, IsReadable}
use Rattle.td_indices.specs.BadFields.{IsUnread, MayBeBad, PackageVersionsComeInOrder}
use Rattle.td_indices.specs.declared.archive_fault.VersionField.{VersionField}
use Rattle.td_indices.specs.declared.archive_fault.VersionField.TheVariants.{Version, Source}
use Rattle.td_indices.specs.Binaries.{BinaryPackage, bracketed, home_of, if_here, local_at}
use Rattle.td_indices.specs.Binaries.{origin_of, package_at, source_version}
use Rattle.td_indices.specs.Fields.{relation_field_name, relation_in, relation_of, relation_or_bad}
use Rattle.td_indices.specs.Fields.{value_of, version_in, version_or_bad}
use Rattle.td_indices.specs.Kept.{KeptBinary, binary_at, provides_at, with_relations}
use Rattle.td_indices.specs.PackageStanzas.{IsPackage}
use Rattle.td_indices.specs.Sources.{KeptSource, SourcePackage, is_extra, kept_source_at, source_at}
use Rattle.td_indices.specs.Sources.{whole_source_at, with_build_relations}
use Rattle.td_indices.proofs.FaultOrder.{failing, fails, head_found, head_low, origin_low}
use Rattle.td_indices.proofs.FaultOrder.{package_low, too_late}
use Rattle.td_indices.proofs.Needed.{needed_again, needed_bad}
use Rattle.td_indices.proofs.PackageStanzas.{package_again, package_found, version_again}
use Rattle.td_indices.proofs.PackageStanzas.{version_found}
use Rattle.td_indices.proofs.SourceStanzas.{versioned, yes_again, yes_found}

abbrev Members : Type 0
Members = List (List Asked)

-- ---- 1. one field

bad_same : {A : Type 0} (x y : RelationField)
    → ◌≡◌ {A = Result A EntryFault} (Err (BadRelation x)) (Err (BadRelation y)) → x ≡ y
bad_same x y e = cc

ok_never : {A : Type 0} (x : A) (e : EntryFault) → ◌≡◌ {A = Result A EntryFault} (Ok x) (Err e)
    → ⊥
ok_never x e h = cc

none_read : (f field : RelationField) (text : List ℕ) (r : Result Members RelationFault)
    → relation_at text ≡ r → relation_or_bad f r ≡ Err (BadRelation field)
    → (f ≡ field) × ((asked : Members) → IsRelation text asked → ⊥)
none_read f field text (Ok members) is e = absurd (ok_never members (BadRelation field) e)
none_read f field text (Err fault) is e = (
  bad_same {A = Members} f field e,
  λ asked h. (let bad : ◌≡◌ {A = Result Members RelationFault} (Err fault) (Ok asked) =
      sym is ∙ (relations_are_exact text asked).1 h in cc),
)

unread : (fields : List Entry) (f field : RelationField)
    → relation_of fields f ≡ Err (BadRelation field) → (f ≡ field) × IsUnread fields f
unread fields f field e = by (value_of fields (relation_field_name f)) refl e
  where
    blank : (text : List ℕ) → value_of fields (relation_field_name f) ≡ Some text → (b : Bool)
        → is_blank text ≡ b
        → cond b (Ok []) (relation_or_bad f (relation_at text)) ≡ Err (BadRelation field)
        → (f ≡ field) × IsUnread fields f
    blank text there true is k = absurd (ok_never {A = Members} [] (BadRelation field) k)
    blank text there false is k =
        let p = none_read f field text (relation_at text) refl k in
        (p.0, (text, there, is, p.1))

    by : (o : Option (List ℕ)) → value_of fields (relation_field_name f) ≡ o
        → relation_in f o ≡ Err (BadRelation field) → (f ≡ field) × IsUnread fields f
    by None there k = absurd (ok_never {A = Members} [] (BadRelation field) k)
    by (Some text) there k = blank text there (is_blank text) refl k

members_is : (text : List ℕ) (f : RelationField) (r : Result Members RelationFault)
    → relation_at text ≡ r → (x : Members) → relation_or_bad f r ≡ Ok x
    → (asked : Members) × IsRelation text asked
members_is text f (Ok members) is x e = (members, (relations_are_exact text members).0 is)
members_is text f (Err fault) is x e = absurd (ok_never x (BadRelation f) (sym e))

readable : (fields : List Entry) (f : RelationField) (x : Members) → relation_of fields f ≡ Ok x
    → IsReadable fields f
readable fields f x e text there filled =
    let at : relation_in f (Some text) ≡ Ok x = ap (relation_in f) (sym there) ∙ e in
    members_is text f (relation_at text) refl x
    (ap (λ (b : Bool). cond b (Ok []) (relation_or_bad f (relation_at text))) (sym filled) ∙ at)

no_relation : (text : List ℕ) (f : RelationField) (r : Result Members RelationFault)
    → relation_at text ≡ r → ((asked : Members) → IsRelation text asked → ⊥)
    → relation_or_bad f r ≡ Err (BadRelation f)
no_relation text f (Ok members) is none =
    absurd (none members ((relations_are_exact text members).0 is))
no_relation text f (Err fault) is none = refl

unread_again : (fields : List Entry) (f : RelationField) → IsUnread fields f
    → relation_of fields f ≡ Err (BadRelation f)
unread_again fields f (text, there, filled, none) =
    ap (relation_in f) there
    ∙ ap (λ (b : Bool). cond b (Ok []) (relation_or_bad f (relation_at text))) filled
    ∙ no_relation text f (relation_at text) refl none

some_read : (text : List ℕ) (f : RelationField) (asked : Members) → IsRelation text asked
    → relation_or_bad f (relation_at text) ≡ Ok asked
some_read text f asked h = ap (relation_or_bad f) ((relations_are_exact text asked).1 h)

readable_again : (fields : List Entry) (f : RelationField) → IsReadable fields f
    → (x : Members) × (relation_of fields f ≡ Ok x)
readable_again fields f h = by (value_of fields (relation_field_name f)) refl
  where
    blank : (text : List ℕ) → value_of fields (relation_field_name f) ≡ Some text → (b : Bool)
        → is_blank text ≡ b
        → (x : Members) × (cond b (Ok []) (relation_or_bad f (relation_at text)) ≡ Ok x)
    blank text there true is = ([], refl)
    blank text there false is =
        let p = h text there is in (p.0, some_read text f p.0 p.1)

    by : (o : Option (List ℕ)) → value_of fields (relation_field_name f) ≡ o
        → (x : Members) × (relation_in f o ≡ Ok x)
    by None there = ([], refl)
    by (Some text) there = blank text there (is_blank text) refl

-- ---- 2. a package

moved : (fields : List Entry) (Is : List Entry → RelationField → Type 0) (f field : RelationField)
    → f ≡ field → Is fields f → Is fields field
moved fields Is f field same h = subst (λ (x : RelationField). Is fields x) same h

provides_fails : (fields : List Entry) (field : RelationField)
    → provides_at fields ≡ Err (BadRelation field) → IsFirstUnread fields field
unfolding provides_at
provides_fails fields field e =
    elim (failing (relation_of fields Depends) _ (BadRelation field) e) [
      | inl first ↦ (let p = unread fields Depends field first in
          moved fields IsFirstUnread Depends field p.0 p.1)
      | inr p ↦
          elim (failing (relation_of fields PreDepends) _ (BadRelation field) p.2) [
            | inl second ↦ (let q = unread fields PreDepends field second in
                moved fields IsFirstUnread PreDepends field q.0
                (readable fields Depends p.0 p.1, q.1))
            | inr q ↦ (let r = unread fields Provides field q.2 in
                moved fields IsFirstUnread Provides field r.0
                (readable fields Depends p.0 p.1, readable fields PreDepends q.0 q.1, r.1))
          ]
    ]

provides_bad : (fields : List Entry) (field : RelationField) → IsFirstUnread fields field
    → provides_at fields ≡ Err (BadRelation field)
unfolding provides_at
provides_bad fields Depends h = rw (unread_again fields Depends h) refl
provides_bad fields PreDepends h =
    let depends = readable_again fields Depends h.0 in
    rw (depends.1, unread_again fields PreDepends h.1) refl
provides_bad fields Provides h =
    let depends = readable_again fields Depends h.0 in
    let pre_depends = readable_again fields PreDepends h.1 in
    rw (depends.1, pre_depends.1, unread_again fields Provides h.2) refl
provides_bad fields BuildDepends h = absurd h
provides_bad fields BuildDependsArch h = absurd h

relations_fail : (table : List ArchWords) (number : ℕ) (fields : List Entry)
    (field : RelationField) (o : Option BinaryPackage) → package_at table fields ≡ Ok o
    → with_relations number fields o ≡ Err (BadRelation field)
    → (p : BinaryPackage) × IsPackage table fields p × IsFirstUnread fields field
relations_fail table number fields field None is e =
    absurd (ok_never {A = Option KeptBinary} None (BadRelation field) e)
relations_fail table number fields field (Some p) is e =
    elim (failing (provides_at fields) _ (BadRelation field) e) [
      | inl told ↦ (p, package_found table fields p is, provides_fails fields field told)
      | inr q ↦ absurd (ok_never _ (BadRelation field) q.2)
    ]

pub bad_package_relations : BadPackageRelationsAreExact
unfolding binary_at
bad_package_relations table number fields field = (
  λ e. elim (failing (package_at table fields) _ (BadRelation field) e) [
    | inl head ↦ absurd (too_late field _ (package_low table fields) head)
    | inr p ↦ relations_fail table number fields field p.0 p.1 p.2
  ],
  λ h. ap (λ r. on_ok r (λ p. with_relations number fields p)) (package_again table fields h.0 h.1)
      ∙ ap (λ (r : Result Members EntryFault). on_ok r
      (λ provides. Ok (Some (record { head = h.0; provides = provides; stanza = number }))))
      (provides_bad fields field h.2),
)

-- ---- 3. a source

build_fails : (number : ℕ) (fields : List Entry) (head : SourcePackage) (field : RelationField)
    → with_build_relations number fields head ≡ Err (BadRelation field)
    → IsFirstUnreadBuild fields field
unfolding with_build_relations
build_fails number fields head field e =
    elim (failing (relation_of fields BuildDepends) _ (BadRelation field) e) [
      | inl first ↦ (let p = unread fields BuildDepends field first in
          moved fields IsFirstUnreadBuild BuildDepends field p.0 p.1)
      | inr p ↦
          elim (failing (relation_of fields BuildDependsArch) _ (BadRelation field) p.2) [
            | inl second ↦ (let q = unread fields BuildDependsArch field second in
                moved fields IsFirstUnreadBuild BuildDependsArch field q.0
                (readable fields BuildDepends p.0 p.1, q.1))
            | inr q ↦ absurd (ok_never _ (BadRelation field) q.2)
          ]
    ]

build_bad : (number : ℕ) (fields : List Entry) (head : SourcePackage) (field : RelationField)
    → IsFirstUnreadBuild fields field
    → with_build_relations number fields head ≡ Err (BadRelation field)
unfolding with_build_relations
build_bad number fields head Depends h = absurd h
build_bad number fields head PreDepends h = absurd h
build_bad number fields head Provides h = absurd h
build_bad number fields head BuildDepends h = rw (unread_again fields BuildDepends h) refl
build_bad number fields head BuildDependsArch h =
    let depends = readable_again fields BuildDepends h.0 in
    rw (depends.1, unread_again fields BuildDependsArch h.1) refl

head_again : (fields : List Entry) (h : HasHead fields)
    → (head : SourcePackage) × (source_at fields ≡ Ok head)
unfolding source_at
head_again fields h =
    let made : SourcePackage = record {
      name = h.has.name;
      version = h.version;
      parts = h.parts;
      archs = h.arch;
    } in (
      made,
      needed_again fields versioned h.version h.arch h.has
          ∙ ap (λ r. on_ok r (λ parts. Ok (record {
            name = h.has.name;
            version = h.version;
            parts = parts;
            archs = h.arch;
          }))) (version_again _ h.version h.parts h.readable),
    )

-- what is kept of a source that is extra, or isn't
abbrev kept_if : ℕ → List Entry → Bool → Result (Option KeptSource) EntryFault
kept_if number fields extra =
    cond extra (Ok None) (on_ok (whole_source_at number fields) (λ s. Ok (Some s)))

whole_fails : (number : ℕ) (fields : List Entry) (field : RelationField)
    → is_extra fields ≡ false → whole_source_at number fields ≡ Err (BadRelation field)
    → HasHead fields × IsFirstUnreadBuild fields field
unfolding whole_source_at
whole_fails number fields field own e =
    elim (failing (source_at fields) _ (BadRelation field) e) [
      | inl head ↦ absurd (too_late field _ (head_low fields) head)
      | inr p ↦
          let h = head_found fields p.0 p.1 in (
            record {
              own = yes_found (value_of fields (codes "Extra-Source-Only")) own;
              version = h.0;
              arch = h.1;
              has = h.3;
              parts = h.2;
              readable = h.4;
            },
            build_fails number fields p.0 field p.2,
          )
    ]

source_fails : (number : ℕ) (fields : List Entry) (field : RelationField) (b : Bool)
    → is_extra fields ≡ b → kept_if number fields b ≡ Err (BadRelation field)
    → HasHead fields × IsFirstUnreadBuild fields field
source_fails number fields field true is e =
    absurd (ok_never {A = Option KeptSource} None (BadRelation field) e)
source_fails number fields field false is e =
    elim (failing (whole_source_at number fields) (λ s. Ok (Some s)) (BadRelation field) e) [
      | inl whole ↦ whole_fails number fields field is whole
      | inr p ↦ absurd (ok_never _ (BadRelation field) p.2)
    ]

whole_bad : (number : ℕ) (fields : List Entry) (field : RelationField) → HasHead fields
    → IsFirstUnreadBuild fields field → whole_source_at number fields ≡ Err (BadRelation field)
unfolding whole_source_at
whole_bad number fields field h first =
    let head = head_again fields h in
    ap (λ (r : Result SourcePackage EntryFault).
    on_ok r (λ x. with_build_relations number fields x)) head.1
    ∙ build_bad number fields head.0 field first

pub bad_source_relations : BadSourceRelationsAreExact
unfolding kept_source_at
bad_source_relations number fields field = (
  λ e. source_fails number fields field (is_extra fields) refl e,
  λ h. ap (kept_if number fields)
      (yes_again (value_of fields (codes "Extra-Source-Only")) h.0.own)
      ∙ ap (λ (r : Result KeptSource EntryFault).
      on_ok {B = Option KeptSource} r (λ s. Ok (Some s))) (whole_bad number fields field h.0 h.1),
)

-- ---- 4. versions

relation_fault : (fields : List Entry) (f : RelationField) (e : EntryFault)
    → relation_of fields f ≡ Err e → e ≡ BadRelation f
relation_fault fields f e h = by (value_of fields (relation_field_name f)) h
  where
    told : (r : Result Members RelationFault) → relation_or_bad f r ≡ Err e → e ≡ BadRelation f
    told (Ok members) k = absurd (ok_never members e k)
    told (Err fault) k =
        let same : ◌≡◌ {A = Result Members EntryFault} (Err (BadRelation f)) (Err e) = k in cc

    blank : (text : List ℕ) (b : Bool)
        → cond b (Ok []) (relation_or_bad f (relation_at text)) ≡ Err e → e ≡ BadRelation f
    blank text true k = absurd (ok_never {A = Members} [] e k)
    blank text false k = told (relation_at text) k

    by : (o : Option (List ℕ)) → relation_in f o ≡ Err e → e ≡ BadRelation f
    by None k = absurd (ok_never {A = Members} [] e k)
    by (Some text) k = blank text (is_blank text) k

no_version_fault : (fields : List Entry) (f : RelationField) (field : VersionField)
    → relation_of fields f ≡ Err (BadVersion field) → ⊥
no_version_fault fields f field h =
    (let bad : BadVersion field ≡ BadRelation f =
    relation_fault fields f (BadVersion field) h in cc)

provides_no_version : (fields : List Entry) (field : VersionField)
    → provides_at fields ≡ Err (BadVersion field) → ⊥
unfolding provides_at
provides_no_version fields field e =
    elim (failing (relation_of fields Depends) _ (BadVersion field) e) [
      | inl first ↦ no_version_fault fields Depends field first
      | inr p ↦
          elim (failing (relation_of fields PreDepends) _ (BadVersion field) p.2) [
            | inl second ↦ no_version_fault fields PreDepends field second
            | inr q ↦ no_version_fault fields Provides field q.2
          ]
    ]

version_same : {A : Type 0} (x y : VersionField)
    → ◌≡◌ {A = Result A EntryFault} (Err (BadVersion x)) (Err (BadVersion y)) → x ≡ y
version_same x y e = cc

version_fails : (f field : VersionField) (text : List ℕ) (r : Result Parts VersionFault)
    → reading text ≡ r → version_or_bad f r ≡ Err (BadVersion field)
    → (f ≡ field) × ((parts : Parts) → IsVersion text parts → ⊥)
version_fails f field text (Ok parts) is e = absurd (ok_never parts (BadVersion field) e)
version_fails f field text (Err fault) is e = (
  version_same {A = Parts} f field e,
  λ parts v. (let bad : ◌≡◌ {A = Result Parts VersionFault} (Err fault) (Ok parts) =
      sym is ∙ read_only text parts v in cc),
)

bracket_fails : (field : VersionField) (o : Option (List ℕ × List ℕ))
    → bracketed o ≡ Err (BadVersion field) → Source ≡ field
bracket_fails field None e = version_same {A = Parts} Source field e
bracket_fails field (Some p) e = by (eqb (length p.1) 0) e
  where
    by : (b : Bool) → cond b (version_in Source p.0) (Err (BadVersion Source))
        ≡ Err (BadVersion field) → Source ≡ field
    by true k = (version_fails Source field p.0 (reading p.0) refl k).0
    by false k = version_same {A = Parts} Source field k

source_version_fails : (field : VersionField) (own : Parts) (o : Option (List ℕ))
    → source_version own o ≡ Err (BadVersion field) → Source ≡ field
unfolding source_version
source_version_fails field own None e = absurd (ok_never own (BadVersion field) e)
source_version_fails field own (Some rest) e = bracket_fails field (cut 41 rest) e

local_version : (fields : List Entry) (name version : List ℕ) (home : Option ℕ)
    (field : VersionField) → value_of fields (codes "Version") ≡ Some version
    → local_at fields name version home ≡ Err (BadVersion field) → MayBeBad fields field
unfolding local_at
local_version fields name version home field there e =
    elim (failing (origin_of name (value_of fields (codes "Source"))) _ (BadVersion field) e) [
      | inl origin ↦
          absurd (let low = fails 0 _ (BadVersion field)
          (origin_low name (value_of fields (codes "Source"))) origin in
          let bad : 1 ≤ 0 = low in omega arith)
      | inr p ↦
          elim (failing (version_in Version version) _ (BadVersion field) p.2) [
            | inl own ↦
                (let q = version_fails Version field version (reading version) refl own in
                subst (MayBeBad fields) q.0 (version, there, q.1))
            | inr q ↦
                elim (failing (source_version q.0 p.0.1) _ (BadVersion field) q.2) [
                  | inl source ↦
                      subst (MayBeBad fields) (source_version_fails field q.0 p.0.1 source)
                      (version, q.0, there, version_found Version version q.0 q.1)
                  | inr r ↦ absurd (ok_never _ (BadVersion field) r.2)
                ]
          ]
    ]

here_version : (fields : List Entry) (name version : List ℕ) (o : Option (Option ℕ))
    (field : VersionField) → value_of fields (codes "Version") ≡ Some version
    → if_here fields name version o ≡ Err (BadVersion field) → MayBeBad fields field
here_version fields name version None field there e =
    absurd (ok_never {A = Option BinaryPackage} None (BadVersion field) e)
here_version fields name version (Some home) field there e =
    elim (failing (local_at fields name version home) _ (BadVersion field) e) [
      | inl local ↦ local_version fields name version home field there local
      | inr p ↦ absurd (ok_never _ (BadVersion field) p.2)
    ]

package_version : (table : List ArchWords) (fields : List Entry) (field : VersionField)
    → package_at table fields ≡ Err (BadVersion field) → MayBeBad fields field
unfolding package_at
package_version table fields field e =
    let p = needed_bad fields
    (λ name version arch. if_here fields name version (home_of table arch)) field e in
    here_version fields p.has.name p.version (home_of table p.arch) field p.has.versioned p.behind

relations_version : (number : ℕ) (fields : List Entry) (field : VersionField)
    (o : Option BinaryPackage) → with_relations number fields o ≡ Err (BadVersion field) → ⊥
relations_version number fields field None e =
    ok_never {A = Option KeptBinary} None (BadVersion field) e
relations_version number fields field (Some p) e =
    elim (failing (provides_at fields) _ (BadVersion field) e) [
      | inl told ↦ provides_no_version fields field told
      | inr q ↦ ok_never _ (BadVersion field) q.2
    ]

pub package_versions : PackageVersionsComeInOrder
unfolding binary_at
package_versions table number fields field e =
    elim (failing (package_at table fields) _ (BadVersion field) e) [
      | inl head ↦ package_version table fields field head
      | inr p ↦ absurd (relations_version number fields field p.0 p.2)
    ]
