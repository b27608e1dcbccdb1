-- Stanzas are kept as packages and as sources if and only if they are.
use Rattle.std.proofs.Common.{◌≡◌, ◌≢◌, ℕ, Bool, true, false, cond, List, Option, Some, None}
use Rattle.std.proofs.Common.{Result, Ok, refl, sym, ap, subst, ◌∙◌, inl, inr}
use Rattle.std.specs.Prelude.{codes}
use Rattle.std.specs.Str.{bytes_eq}
use Rattle.std.specs.Option.{option_map_or}
use Rattle.std.proofs.lemmas.Bool.{cases_Bool}
use Rattle.std.proofs.lemmas.Slice.Eq.{bytes_eq-Decides}
use Rattle.td_text.specs.Lines.{on_ok}
use Rattle.td_text.proofs.Chain.{ok_is, on_ok_parts, some_is}
use Rattle.td_stanza.specs.Field.{Entry}
use Rattle.td_relation.specs.Arch.{ArchWords}
use Rattle.td_indices.specs.declared.archive_fault.VersionField.TheVariants.{Version}
use Rattle.td_indices.specs.declared.archive_fault.RelationField.TheVariants.{Depends, PreDepends}
use Rattle.td_indices.specs.declared.archive_fault.RelationField.TheVariants.{BuildDepends}
use Rattle.td_indices.specs.declared.archive_fault.RelationField.TheVariants.{BuildDependsArch}
use Rattle.td_indices.specs.declared.archive_fault.EntryFault.{EntryFault}
use Rattle.td_indices.specs.Binaries.{BinaryPackage, package_at}
use Rattle.td_indices.specs.Fields.{relation_of, value_of, version_in}
use Rattle.td_indices.specs.Kept.{KeptBinary, binary_at, provides_at, with_relations}
use Rattle.td_indices.specs.PackageStanzas.{IsKeptPackage, KeptPackagesAreExact}
use Rattle.td_indices.specs.SourceStanzas.{IsKeptSource, KeptSourcesAreExact}
use Rattle.td_indices.specs.Sources.{KeptSource, SourcePackage, is_extra, kept_source_at, source_at}
use Rattle.td_indices.specs.Sources.{whole_source_at, with_build_relations}
use Rattle.td_indices.proofs.Needed.{needed_again, needed_read}
use Rattle.td_indices.proofs.PackageStanzas.{package_again}
use Rattle.td_indices.proofs.PackageStanzas.{package_found, version_again, version_found}

kept_some : {A : Type 0} (x y : A)
    → ◌≡◌ {A = Result (Option A) EntryFault} (Ok (Some x)) (Ok (Some y)) → x ≡ y
kept_some x y e = cc

-- ---- packages

pub binary_found : (table : List ArchWords) (number : ℕ) (fields : List Entry) (b : KeptBinary)
    → binary_at table number fields ≡ Ok (Some b) → IsKeptPackage table number fields b
unfolding binary_at provides_at
binary_found table number fields b e =
    let p = on_ok_parts (package_at table fields) _ (Some b) e in
    by p.0 p.1 p.2
  where
    by : (o : Option BinaryPackage) → package_at table fields ≡ Ok o
        → with_relations number fields o ≡ Ok (Some b) → IsKeptPackage table number fields b
    by None is k =
        absurd (let bad : ◌≡◌ {A = Result (Option KeptBinary) EntryFault} (Ok None) (Ok (Some b)) =
        k in cc)
    by (Some p) is k =
        let all = on_ok_parts (provides_at fields)
        (λ provides. Ok (Some (record { head = p; provides = provides; stanza = number })))
        (Some b) k in
        let depends = on_ok_parts (relation_of fields Depends) _ all.0 all.1 in
        let pre_depends = on_ok_parts (relation_of fields PreDepends) _ all.0 depends.2 in
        subst (IsKeptPackage table number fields)
        (kept_some (record { head = p; provides = all.0; stanza = number }) b all.2) (record {
          head = package_found table fields p is;
          depends = depends.0;
          pre_depends = pre_depends.0;
          has_depends = depends.1;
          has_pre_depends = pre_depends.1;
          has_provides = pre_depends.2;
          numbered = refl;
        })

binary_again : (table : List ArchWords) (number : ℕ) (fields : List Entry) (b : KeptBinary)
    → IsKeptPackage table number fields b → binary_at table number fields ≡ Ok (Some b)
unfolding binary_at provides_at
binary_again table number fields b h =
    let head = package_again table fields b.head h.head in
    let depends = h.has_depends in
    let pre_depends = h.has_pre_depends in
    let provides = h.has_provides in
    rw (head, depends, pre_depends, provides)
    (ap (λ (n : ℕ). Ok (Some (record { head = b.head; provides = b.provides; stanza = n })))
    (sym h.numbered))

pub kept_packages_are_exact : KeptPackagesAreExact
kept_packages_are_exact table number fields b =
    (binary_found table number fields b, binary_again table number fields b)

-- ---- sources

pub yes_found : (o : Option (List ℕ))
    → option_map_or (λ value. bytes_eq value (codes "yes")) o false ≡ false → o ≢ Some (codes "yes")
yes_found None h e = absurd (let bad : None ≡ Some (codes "yes") = e in cc)
yes_found (Some text) h e =
    absurd (let bad : false ≡ true =
    sym h ∙ (bytes_eq-Decides text (codes "yes")).1 (some_is text (codes "yes") e) in cc)

pub yes_again : (o : Option (List ℕ)) → o ≢ Some (codes "yes")
    → option_map_or (λ value. bytes_eq value (codes "yes")) o false ≡ false
yes_again None h = refl
yes_again (Some text) h =
    elim (cases_Bool (bytes_eq text (codes "yes"))) [
      | inl is ↦
          absurd (h (ap (λ (t : List ℕ). Some t) ((bytes_eq-Decides text (codes "yes")).0 is)))
      | inr other ↦ other
    ]

-- the version of a source, and the source
abbrev pub versioned : List ℕ → List ℕ → List ℕ → Result SourcePackage EntryFault
versioned name version archs =
    on_ok (version_in Version version) (λ parts.
    Ok (record { name = name; version = version; parts = parts; archs = archs }))

own_found : (number : ℕ) (fields : List Entry) (s : KeptSource) → is_extra fields ≡ false
    → whole_source_at number fields ≡ Ok s → IsKeptSource number fields s
unfolding whole_source_at source_at with_build_relations
own_found number fields s own e =
    let head = on_ok_parts (source_at fields) _ s e in
    let depends = on_ok_parts (relation_of fields BuildDepends) _ s head.2 in
    let arch_depends = on_ok_parts (relation_of fields BuildDependsArch) _ s depends.2 in
    let at = needed_read fields versioned head.0 head.1 in
    let parts = on_ok_parts (version_in Version at.version) _ head.0 at.behind in
    let made : SourcePackage =
    record { name = at.has.name; version = at.version; parts = parts.0; archs = at.arch } in
    let same : made ≡ head.0 = ok_is EntryFault made head.0 parts.2 in
    let kept : KeptSource = record { head = head.0; stanza = number } in
    subst (IsKeptSource number fields) (ok_is EntryFault kept s arch_depends.2)
    (subst (λ (h : SourcePackage).
    IsKeptSource number fields (record { head = h; stanza = number })) same (record {
      own = yes_found (value_of fields (codes "Extra-Source-Only")) own;
      name = at.has.named;
      legal = at.has.legal;
      version = at.has.versioned;
      readable = version_found Version at.version parts.0 parts.1;
      archs = at.has.there;
      depends = depends.0;
      arch_depends = arch_depends.0;
      has_depends = depends.1;
      has_arch_depends = arch_depends.1;
      numbered = refl;
    }))

pub source_found : (number : ℕ) (fields : List Entry) (s : KeptSource)
    → kept_source_at number fields ≡ Ok (Some s) → IsKeptSource number fields s
unfolding kept_source_at
source_found number fields s e = by (is_extra fields) refl e
  where
    by : (b : Bool) → is_extra fields ≡ b
        → cond b (Ok None) (on_ok (whole_source_at number fields) (λ t. Ok (Some t))) ≡ Ok (Some s)
        → IsKeptSource number fields s
    by true is k =
        absurd (let bad : ◌≡◌ {A = Result (Option KeptSource) EntryFault} (Ok None) (Ok (Some s)) =
        k in cc)
    by false is k =
        let whole = on_ok_parts (whole_source_at number fields) (λ t. Ok (Some t)) (Some s) k in
        own_found number fields s is
        (whole.1 ∙ ap (λ (t : KeptSource). Ok t) (kept_some whole.0 s whole.2))

head_again : (number : ℕ) (fields : List Entry) (s : KeptSource) → IsKeptSource number fields s
    → source_at fields ≡ Ok s.head
unfolding source_at
head_again number fields s h =
    let parts = version_again Version s.head.version s.head.parts h.readable in
    needed_again fields versioned s.head.version s.head.archs (record {
      name = s.head.name;
      named = h.name;
      legal = h.legal;
      versioned = h.version;
      there = h.archs;
    }) ∙ rw parts refl

source_again : (number : ℕ) (fields : List Entry) (s : KeptSource) → IsKeptSource number fields s
    → kept_source_at number fields ≡ Ok (Some s)
unfolding kept_source_at whole_source_at with_build_relations
source_again number fields s h =
    let own = yes_again (value_of fields (codes "Extra-Source-Only")) h.own in
    let head = head_again number fields s h in
    let depends = h.has_depends in
    let arch_depends = h.has_arch_depends in
    rw (own, head, depends, arch_depends)
    (ap (λ (n : ℕ). Ok (Some (record { head = s.head; stanza = n }))) (sym h.numbered))

pub kept_sources_are_exact : KeptSourcesAreExact
kept_sources_are_exact number fields s =
    (source_found number fields s, source_again number fields s)
