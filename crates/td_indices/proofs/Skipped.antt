-- Which stanzas are skipped: those of packages elsewhere, and of extra sources.
use Rattle.std.proofs.Common.{◌≡◌, ℕ, Bool, true, false, cond, List, Option, Some, None}
use Rattle.std.proofs.Common.{Result, Ok, refl, ap, ◌∙◌}
use Rattle.std.specs.Prelude.{codes}
use Rattle.std.specs.Str.{bytes_eq}
use Rattle.std.specs.Option.{option_map_or}
use Rattle.std.proofs.lemmas.Slice.Eq.{bytes_eq-Decides}
use Rattle.td_text.specs.Lines.{on_ok}
use Rattle.td_text.proofs.Chain.{on_ok_parts, some_is}
use Rattle.td_stanza.specs.Field.{Entry}
use Rattle.td_relation.specs.Arch.{ArchWords}
use Rattle.td_indices.specs.declared.archive_fault.EntryFault.{EntryFault}
use Rattle.td_indices.specs.Binaries.{BinaryPackage, home_of, if_here, local_at, package_at}
use Rattle.td_indices.specs.Fields.{value_of}
use Rattle.td_indices.specs.Kept.{binary_at, provides_at, with_relations}
use Rattle.td_indices.specs.PackageStanzas.{IsElsewhere, SkippedPackagesAreExact}
use Rattle.td_indices.specs.SourceStanzas.{SkippedSourcesAreExact}
use Rattle.td_indices.specs.Sources.{is_extra, kept_source_at, whole_source_at}
use Rattle.td_indices.proofs.Needed.{needed_again, needed_read}

some_not_none : {A : Type 0} (x : A)
    → ◌≡◌ {A = Result (Option A) EntryFault} (Ok (Some x)) (Ok None) → ⊥
some_not_none x e = cc

-- ---- packages

nowhere : (fields : List Entry) (name version : List ℕ) (o : Option (Option ℕ))
    → if_here fields name version o ≡ Ok None → o ≡ None
nowhere fields name version None e = refl
nowhere fields name version (Some home) e =
    let p = on_ok_parts (local_at fields name version home) (λ x. Ok (Some x)) None e in
    absurd (some_not_none p.0 p.2)

package_skipped : (table : List ArchWords) (fields : List Entry) → package_at table fields ≡ Ok None
    → IsElsewhere table fields
unfolding package_at
package_skipped table fields e =
    let p = needed_read fields
    (λ name version arch. if_here fields name version (home_of table arch)) None e in
    record {
      version = p.version;
      arch = p.arch;
      has = p.has;
      elsewhere = nowhere fields p.has.name p.version (home_of table p.arch) p.behind;
    }

binary_skipped : (table : List ArchWords) (number : ℕ) (fields : List Entry)
    → binary_at table number fields ≡ Ok None → IsElsewhere table fields
unfolding binary_at
binary_skipped table number fields e =
    let p = on_ok_parts (package_at table fields) _ None e in
    by p.0 p.1 p.2
  where
    by : (o : Option BinaryPackage) → package_at table fields ≡ Ok o
        → with_relations number fields o ≡ Ok None → IsElsewhere table fields
    by None is k = package_skipped table fields is
    by (Some p) is k =
        let all = on_ok_parts (provides_at fields)
        (λ provides. Ok (Some (record { head = p; provides = provides; stanza = number })))
        None k in
        absurd (some_not_none (record { head = p; provides = all.0; stanza = number }) all.2)

elsewhere_skipped : (table : List ArchWords) (number : ℕ) (fields : List Entry)
    → IsElsewhere table fields → binary_at table number fields ≡ Ok None
unfolding binary_at package_at
elsewhere_skipped table number fields h =
    ap (λ (o : Result (Option BinaryPackage) EntryFault). on_ok o (with_relations number fields))
    (needed_again fields (λ name version arch. if_here fields name version (home_of table arch))
    h.version h.arch h.has ∙ ap (if_here fields h.has.name h.version) h.elsewhere)

pub skipped_packages_are_exact : SkippedPackagesAreExact
skipped_packages_are_exact table number fields =
    (binary_skipped table number fields, elsewhere_skipped table number fields)

-- ---- sources

extra_found : (o : Option (List ℕ))
    → option_map_or (λ value. bytes_eq value (codes "yes")) o false ≡ true → o ≡ Some (codes "yes")
extra_found None e = absurd (let bad : false ≡ true = e in cc)
extra_found (Some text) e =
    ap (λ (t : List ℕ). Some t) ((bytes_eq-Decides text (codes "yes")).0 e)

extra_again : (o : Option (List ℕ)) → o ≡ Some (codes "yes")
    → option_map_or (λ value. bytes_eq value (codes "yes")) o false ≡ true
extra_again None e = absurd (let bad : None ≡ Some (codes "yes") = e in cc)
extra_again (Some text) e = (bytes_eq-Decides text (codes "yes")).1 (some_is text (codes "yes") e)

source_skipped : (number : ℕ) (fields : List Entry) → kept_source_at number fields ≡ Ok None
    → value_of fields (codes "Extra-Source-Only") ≡ Some (codes "yes")
unfolding kept_source_at
source_skipped number fields e = by (is_extra fields) refl e
  where
    by : (b : Bool) → is_extra fields ≡ b
        → cond b (Ok None) (on_ok (whole_source_at number fields) (λ s. Ok (Some s))) ≡ Ok None
        → value_of fields (codes "Extra-Source-Only") ≡ Some (codes "yes")
    by true is k = extra_found (value_of fields (codes "Extra-Source-Only")) is
    by false is k =
        let s = on_ok_parts (whole_source_at number fields) (λ s. Ok (Some s)) None k in
        absurd (some_not_none s.0 s.2)

extra_skipped : (number : ℕ) (fields : List Entry)
    → value_of fields (codes "Extra-Source-Only") ≡ Some (codes "yes")
    → kept_source_at number fields ≡ Ok None
unfolding kept_source_at
extra_skipped number fields h =
    let extra = extra_again (value_of fields (codes "Extra-Source-Only")) h in
    rw (extra) refl

pub skipped_sources_are_exact : SkippedSourcesAreExact
skipped_sources_are_exact number fields =
    (source_skipped number fields, extra_skipped number fields)
