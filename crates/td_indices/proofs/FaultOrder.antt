-- In which order the faults of a stanza come.
use Rattle.std.proofs.Common.{◌≡◌, ◌⊎◌, ℕ, ◌≤◌, ◌==◌, Bool, true, false, cond, List, Option, Some}
use Rattle.std.proofs.Common.{None, length, Result, Ok, Err, refl, ap, subst, inl, inr, arith}
use Rattle.std.specs.Prelude.{codes}
use Rattle.td_text.specs.Cut.{cut}
use Rattle.td_text.specs.Lines.{on_ok}
use Rattle.td_text.specs.Words.{is_name}
use Rattle.td_text.proofs.Chain.{on_ok_parts}
use Rattle.td_stanza.specs.Field.{Entry}
use Rattle.td_version.specs.Grammar.{IsVersion}
use Rattle.td_version.specs.Reading.{reading}
use Rattle.td_version.specs.Version.{Parts}
use Rattle.td_version.specs.declared.version.VersionFault.{VersionFault}
use Rattle.td_relation.specs.Arch.{ArchWords}
use Rattle.td_indices.specs.declared.archive_fault.EntryFault.{EntryFault}
use Rattle.td_indices.specs.declared.archive_fault.EntryFault.TheVariants.{BadRelation, BadVersion}
use Rattle.td_indices.specs.declared.archive_fault.EntryFault.TheVariants.{Missing, NoMemory}
use Rattle.td_indices.specs.declared.archive_fault.IndexField.{IndexField}
use Rattle.td_indices.specs.declared.archive_fault.IndexField.TheVariants as index_field
use Rattle.td_indices.specs.declared.archive_fault.VersionField.{VersionField}
use Rattle.td_indices.specs.declared.archive_fault.VersionField.TheVariants.{Version, Source}
use Rattle.td_indices.specs.declared.archive_fault.RelationField.{RelationField}
use Rattle.td_indices.specs.Binaries.{BinaryPackage, bracketed, front_name, home_of, if_here}
use Rattle.td_indices.specs.Binaries.{local_at, named_front, origin_of, package_at, source_text}
use Rattle.td_indices.specs.Binaries.{source_version}
use Rattle.td_indices.specs.FaultLaws.{PackageFaultsComeInOrder, SourceFaultsComeInOrder}
use Rattle.td_indices.specs.Fields.{name_in, needed, value_of, version_in, version_or_bad}
use Rattle.td_indices.specs.Kept.{binary_at, with_relations}
use Rattle.td_indices.specs.Needed.{HasNeeded}
use Rattle.td_indices.specs.PackageStanzas.{IsPackage}
use Rattle.td_indices.specs.Sources.{KeptSource, SourcePackage, is_extra, kept_source_at, source_at}
use Rattle.td_indices.specs.Sources.{whole_source_at, with_build_relations}
use Rattle.td_indices.proofs.Needed.{needed_bad, needed_read, needed_then}
use Rattle.td_indices.proofs.PackageStanzas.{package_found, package_needs, version_found}
use Rattle.td_indices.proofs.SourceStanzas.{versioned}

-- ---- how late a fault comes

abbrev pub rank : EntryFault → ℕ
rank (Missing field) = 0
rank (BadVersion field) = 1
rank (BadRelation field) = 2
rank NoMemory = 3

abbrev pub FailsBy : {A : Type 0} → ℕ → Result A EntryFault → Type 0
FailsBy k (Ok x) = Unit {0}
FailsBy k (Err e) = rank e ≤ k

pub fails : {A : Type 0} (k : ℕ) (r : Result A EntryFault) (e : EntryFault) → FailsBy k r
    → r ≡ Err e
    → rank e ≤ k
fails {A} k r e low h = subst (λ (x : Result A EntryFault). FailsBy k x) h low

chain : {A B : Type 0} (k : ℕ) (r : Result A EntryFault) (f : A → Result B EntryFault)
    → FailsBy k r → ((x : A) → FailsBy k (f x)) → FailsBy k (on_ok r f)
chain k (Ok x) f low next = next x
chain k (Err e) f low next = low

later : {A : Type 0} (r : Result A EntryFault) → FailsBy 0 r → FailsBy 1 r
later (Ok x) low = tt
later (Err e) low = omega (arith, low)

-- a chain fails at its first step, or behind it
pub failing : {A B : Type 0} (r : Result A EntryFault) (f : A → Result B EntryFault)
    (e : EntryFault)
    → on_ok r f ≡ Err e → (r ≡ Err e) ⊎ ((x : A) × (r ≡ Ok x) × (f x ≡ Err e))
failing (Ok x) f e h = inr (x, refl, h)
failing {A} {B} (Err d) f e h =
    let same : d ≡ e = (let k : ◌≡◌ {A = Result B EntryFault} (Err d) (Err e) = h in cc) in
    inl (ap (λ (y : EntryFault). Err y) same)

name_low : (field : IndexField) (o : Option (List ℕ)) → FailsBy 0 (name_in field o)
name_low field None = omega arith
name_low field (Some text) = by (is_name text)
  where
    by : (b : Bool) → FailsBy {A = List ℕ} 0 (cond b (Ok text) (Err (Missing field)))
    by true = tt
    by false = omega arith

needed_low : (field : IndexField) (o : Option (List ℕ)) → FailsBy 0 (needed field o)
needed_low field None = omega arith
needed_low field (Some text) = tt

version_low : (field : VersionField) (text : List ℕ) → FailsBy 1 (version_in field text)
version_low field text = by (reading text)
  where
    by : (r : Result Parts VersionFault) → FailsBy 1 (version_or_bad field r)
    by (Ok parts) = tt
    by (Err fault) = omega arith

front_low : (o : Option (List ℕ)) (rest : List ℕ) → FailsBy 0 (named_front o rest)
front_low None rest = omega arith
front_low (Some name) rest = tt

source_low : (text : List ℕ) (o : Option (List ℕ × List ℕ)) → FailsBy 0 (source_text text o)
source_low text None = by (is_name text)
  where
    by : (b : Bool) → FailsBy {A = List ℕ × Option (List ℕ)} 0
        (cond b (Ok (text, None)) (Err (Missing index_field.Source)))
    by true = tt
    by false = omega arith
source_low text (Some p) = front_low (front_name p.0) p.1

pub origin_low : (name : List ℕ) (o : Option (List ℕ)) → FailsBy 0 (origin_of name o)
unfolding origin_of
origin_low name None = tt
origin_low name (Some text) = source_low text (cut 40 text)

bracket_low : (o : Option (List ℕ × List ℕ)) → FailsBy 1 (bracketed o)
bracket_low None = omega arith
bracket_low (Some p) = by (length p.1 == 0)
  where
    by : (b : Bool) → FailsBy 1 (cond b (version_in Source p.0) (Err (BadVersion Source)))
    by true = version_low Source p.0
    by false = omega arith

source_version_low : (own : Parts) (o : Option (List ℕ)) → FailsBy 1 (source_version own o)
unfolding source_version
source_version_low own None = tt
source_version_low own (Some rest) = bracket_low (cut 41 rest)

local_low : (fields : List Entry) (name version : List ℕ) (home : Option ℕ)
    → FailsBy 1 (local_at fields name version home)
unfolding local_at
local_low fields name version home =
    chain 1 (origin_of name (value_of fields (codes "Source"))) _
    (later _ (origin_low name (value_of fields (codes "Source")))) (λ origin.
    chain 1 (version_in Version version) _ (version_low Version version) (λ parts.
    chain 1 (source_version parts origin.1) _ (source_version_low parts origin.1)
    (λ source_parts. tt)))

here_low : (fields : List Entry) (name version : List ℕ) (o : Option (Option ℕ))
    → FailsBy 1 (if_here fields name version o)
here_low fields name version None = tt
here_low fields name version (Some home) =
    chain 1 (local_at fields name version home) _ (local_low fields name version home) (λ p. tt)

-- what is needed is read first
behind_low : {A : Type 0} (fields : List Entry)
    (next : List ℕ → List ℕ → List ℕ → Result A EntryFault)
    → ((name version arch : List ℕ) → FailsBy 1 (next name version arch))
    → FailsBy 1 (needed_then fields next)
behind_low fields next low =
    chain 1 (name_in index_field.Package (value_of fields (codes "Package"))) _
    (later _ (name_low index_field.Package (value_of fields (codes "Package")))) (λ name.
    chain 1 (needed index_field.Version (value_of fields (codes "Version"))) _
    (later _ (needed_low index_field.Version (value_of fields (codes "Version")))) (λ version.
    chain 1 (needed index_field.Architecture (value_of fields (codes "Architecture"))) _
    (later _ (needed_low index_field.Architecture (value_of fields (codes "Architecture"))))
    (λ arch. low name version arch)))

pub package_low : (table : List ArchWords) (fields : List Entry)
    → FailsBy 1 (package_at table fields)
unfolding package_at
package_low table fields =
    behind_low fields (λ name version arch. if_here fields name version (home_of table arch))
    (λ name version arch. here_low fields name version (home_of table arch))

pub head_low : (fields : List Entry) → FailsBy 1 (source_at fields)
unfolding source_at
head_low fields =
    behind_low fields versioned (λ name version arch.
    chain 1 (version_in Version version) _ (version_low Version version) (λ parts. tt))

pub too_late : {A : Type 0} (field : RelationField) (r : Result A EntryFault) → FailsBy 1 r
    → r ≡ Err (BadRelation field) → ⊥
too_late field r low h = let bad = fails 1 r (BadRelation field) low h in omega (arith, bad)

-- ---- packages

-- it has what it needs, and is here
abbrev NeededHere : List ArchWords → List Entry → Type 0
NeededHere table fields = (version arch : List ℕ) × (home : Option ℕ)
    × HasNeeded fields version arch × (home_of table arch ≡ Some home)

here_fails : (table : List ArchWords) (fields : List Entry) (name version arch : List ℕ)
    (o : Option (Option ℕ)) (field : VersionField) → home_of table arch ≡ o
    → HasNeeded fields version arch → if_here fields name version o ≡ Err (BadVersion field)
    → NeededHere table fields
here_fails table fields name version arch None field is has e = absurd cc
here_fails table fields name version arch (Some home) field is has e =
    (version, arch, home, has, is)

package_fails : (table : List ArchWords) (fields : List Entry) (field : VersionField)
    → package_at table fields ≡ Err (BadVersion field) → NeededHere table fields
unfolding package_at
package_fails table fields field e =
    let p = needed_bad fields
    (λ name version arch. if_here fields name version (home_of table arch)) field e in
    here_fails table fields p.has.name p.version p.arch (home_of table p.arch) field refl p.has
    p.behind

of_package : (table : List ArchWords) (fields : List Entry) (p : BinaryPackage)
    → IsPackage table fields p → NeededHere table fields
of_package table fields p h = (
  p.version,
  h.arch,
  p.home,
  package_needs table fields p h,
  h.here,
)

-- a package that is here failed behind its head
behind_head : (table : List ArchWords) (number : ℕ) (fields : List Entry)
    (o : Option BinaryPackage) (e : EntryFault) → package_at table fields ≡ Ok o
    → with_relations number fields o ≡ Err e → (p : BinaryPackage) × IsPackage table fields p
behind_head table number fields None e is h = absurd cc
behind_head table number fields (Some p) e is h = (p, package_found table fields p is)

pub package_faults : PackageFaultsComeInOrder
unfolding binary_at
package_faults table number fields = (
  λ field e. elim (failing (package_at table fields) _ (BadVersion field) e) [
    | inl head ↦ package_fails table fields field head
    | inr p ↦
        let q = behind_head table number fields p.0 (BadVersion field) p.1 p.2 in
        of_package table fields q.0 q.1
  ],
  λ field e. elim (failing (package_at table fields) _ (BadRelation field) e) [
    | inl head ↦ absurd (too_late field _ (package_low table fields) head)
    | inr p ↦ behind_head table number fields p.0 (BadRelation field) p.1 p.2
  ],
)

-- ---- sources

pub head_found : (fields : List Entry) (head : SourcePackage) → source_at fields ≡ Ok head
    → (version arch : List ℕ) × (parts : Parts) × HasNeeded fields version arch
    × IsVersion version parts
unfolding source_at
head_found fields head e =
    let p = needed_read fields versioned head e in
    let parts = on_ok_parts (version_in Version p.version) _ head p.behind in
    (p.version, p.arch, parts.0, p.has, version_found Version p.version parts.0 parts.1)

head_fails : (fields : List Entry) (field : VersionField)
    → source_at fields ≡ Err (BadVersion field)
    → (version arch : List ℕ) × HasNeeded fields version arch
unfolding source_at
head_fails fields field e =
    let p = needed_bad fields versioned field e in
    (p.version, p.arch, p.has)

ok_fails : (s : KeptSource) (e : EntryFault)
    → ◌≡◌ {A = Result (Option KeptSource) EntryFault} (Ok (Some s)) (Err e) → ⊥
ok_fails s e k = cc

-- what fails of a source that isn't extra: its head, or the relations of its build
whole_fails : (number : ℕ) (fields : List Entry) (e : EntryFault)
    → kept_source_at number fields ≡ Err e
    → (source_at fields ≡ Err e) ⊎ ((head : SourcePackage) × (source_at fields ≡ Ok head))
unfolding kept_source_at whole_source_at
whole_fails number fields e h = by (is_extra fields) h
  where
    by : (b : Bool)
        → cond b (Ok None) (on_ok (whole_source_at number fields) (λ s. Ok (Some s))) ≡ Err e
        → (source_at fields ≡ Err e) ⊎ ((head : SourcePackage) × (source_at fields ≡ Ok head))
    by true k = absurd cc
    by false k =
        elim (failing (whole_source_at number fields) (λ s. Ok (Some s)) e k) [
          | inl whole ↦
              elim (failing (source_at fields)
              (λ head. with_build_relations number fields head) e whole) [
                | inl head ↦ inl head
                | inr head ↦ inr (head.0, head.1)
              ]
          | inr s ↦ absurd (ok_fails s.0 e s.2)
        ]

pub source_faults : SourceFaultsComeInOrder
source_faults number fields = (
  λ field e. elim (whole_fails number fields (BadVersion field) e) [
    | inl head ↦ head_fails fields field head
    | inr head ↦ (let r = head_found fields head.0 head.1 in (r.0, r.1, r.3))
  ],
  λ field e. elim (whole_fails number fields (BadRelation field) e) [
    | inl head ↦ absurd (too_late field _ (head_low fields) head)
    | inr head ↦ head_found fields head.0 head.1
  ],
)
