-- A stanza is read as a binary package if and only if it is one.
use Rattle.std.proofs.Common.{◌≡◌, ◌⊎◌, ℕ, Bool, true, false, cond, eqb, ◌&&◌, List, [], ◌∷◌, ◌++◌}
use Rattle.std.proofs.Common.{length, Option, Some, None, Result, Ok, Err, refl, sym, ap, subst}
use Rattle.std.proofs.Common.{◌∙◌, inl, inr, append_assoc}
use Rattle.std.specs.Prelude.{codes}
use Rattle.std.specs.List.{list_all}
use Rattle.std.proofs.lemmas.Bool.{and_parts, and_from, eqb-true}
use Rattle.std.proofs.lemmas.List.{take-append-drop, nil_from_length}
use Rattle.td_text.specs.Cut.{Without, cut}
use Rattle.td_text.specs.Words.{is_name, is_name_byte}
use Rattle.td_text.proofs.Chain.{ok_is, on_ok_parts, when_some}
use Rattle.td_text.proofs.Cut.{Without-append, Without-from_test, cut-at, cut_found, cut_none}
use Rattle.td_text.proofs.Words.{Without-name}
use Rattle.td_stanza.specs.Field.{Entry}
use Rattle.td_version.specs.Grammar.{IsVersion}
use Rattle.td_version.specs.Reading.{reading}
use Rattle.td_version.specs.Version.{Parts}
use Rattle.td_version.specs.declared.version.VersionFault.{VersionFault}
use Rattle.td_version.proofs.Outcomes.{read_found, read_only}
use Rattle.td_relation.specs.Arch.{ArchWords}
use Rattle.td_text.specs.Runs.{is_space, run, behind, is_blank}
use Rattle.td_relation.specs.RelationGrammar.{is_version_byte}
use Rattle.td_text.proofs.Blanks.{Stops-back}
use Rattle.td_text.proofs.RunTexts.{behind_again, run_again}
use Rattle.td_relation.proofs.VersionBytes.{version_bytes}
use Rattle.td_relation.proofs.WordTexts.{name_no_space}
use Rattle.td_indices.specs.declared.archive_fault.EntryFault.{EntryFault}
use Rattle.td_indices.specs.declared.archive_fault.EntryFault.TheVariants.{Missing, BadVersion}
use Rattle.td_indices.specs.declared.archive_fault.IndexField.TheVariants as index_field
use Rattle.td_indices.specs.declared.archive_fault.VersionField.{VersionField}
use Rattle.td_indices.specs.declared.archive_fault.VersionField.TheVariants.{Version, Source}
use Rattle.td_indices.specs.Binaries.{BinaryPackage, bracketed, front_name, home_of, if_here}
use Rattle.td_indices.specs.Binaries.{local_at, named_front, origin_of, package_at, source_text}
use Rattle.td_indices.specs.Binaries.{source_version}
use Rattle.td_indices.specs.Fields.{value_of, version_in, version_or_bad}
use Rattle.td_indices.specs.Needed.{HasNeeded}
use Rattle.td_indices.specs.PackageStanzas.{HasSource, IsName, IsNameWithVersion, IsPackage}
use Rattle.td_indices.specs.PackageStanzas.{PackagesAreExact}
use Rattle.td_indices.proofs.Needed.{needed_again, needed_read}

-- ---- fields

pub version_read : (field : VersionField) (r : Result Parts VersionFault) (parts : Parts)
    → version_or_bad field r ≡ Ok parts → r ≡ Ok parts
version_read field (Ok p) parts e = ap (λ (x : Parts). Ok x) (ok_is EntryFault p parts e)
version_read field (Err f) parts e = absurd cc

pub version_found : (field : VersionField) (text : List ℕ) (parts : Parts)
    → version_in field text ≡ Ok parts → IsVersion text parts
version_found field text parts e =
    read_found text parts (version_read field (reading text) parts e)

pub version_again : (field : VersionField) (text : List ℕ) (parts : Parts) → IsVersion text parts
    → version_in field text ≡ Ok parts
version_again field text parts v = ap (version_or_bad field) (read_only text parts v)

-- ---- the name before a bracket

pub record IsFront (front name : List ℕ) : Type 0 where
  pub space : List ℕ
  pub joined : front ≡ name ++ space
  pub legal : is_name name ≡ true
  pub blank : is_blank space ≡ true

pub front_found : (front name : List ℕ) → front_name front ≡ Some name → IsFront front name
unfolding front_name
front_found front name e =
    let w = when_some _ (run is_name_byte front) name e in
    let p =
    and_parts (is_name (run is_name_byte front)) (is_blank (behind is_name_byte front)) w.0 in
    let made : IsFront front (run is_name_byte front) =
    record {
      space = behind is_name_byte front;
      joined = sym (take-append-drop _ front);
      legal = p.0;
      blank = p.1;
    } in
    subst (IsFront front) w.1 made

pub front_again : (name space : List ℕ) → is_name name ≡ true → is_blank space ≡ true
    → front_name (name ++ space) ≡ Some name
unfolding front_name
front_again name space legal blank =
    let bytes = (and_parts _ (list_all is_name_byte name) (and_parts _ _ legal).1).1 in
    let stops = Stops-back is_name_byte space name_no_space blank in
    ap (λ (n : List ℕ). cond (is_name n && is_blank (behind is_name_byte (name ++ space)))
    (Some n) None) (run_again is_name_byte name space bytes stops)
    ∙ ap (λ (t : List ℕ). cond (is_name name && is_blank t) (Some name) None)
    (behind_again is_name_byte name space bytes stops)
    ∙ ap (λ (b : Bool). cond b (Some name) None)
    (and_from (is_name name) (is_blank space) legal blank)

-- ---- the version in the brackets

pub record IsInside (rest : List ℕ) (parts : Parts) : Type 0 where
  pub version : List ℕ
  pub joined : rest ≡ version ++ 41 ∷ []
  pub readable : IsVersion version parts

inside_found : (rest : List ℕ) (parts : Parts) (o : Option (List ℕ × List ℕ)) → cut 41 rest ≡ o
    → bracketed o ≡ Ok parts → IsInside rest parts
inside_found rest parts None is e = absurd cc
inside_found rest parts (Some p) is e = by (eqb (length p.1) 0) refl e
  where
    by : (b : Bool) → eqb (length p.1) 0 ≡ b
        → cond b (version_in Source p.0) (Err (BadVersion Source)) ≡ Ok parts
        → IsInside rest parts
    by true ends k =
        let last : p.1 ≡ [] = nil_from_length p.1 (eqb-true (length p.1) 0 ends) in
        record {
          version = p.0;
          joined = (cut_found 41 rest p is).0 ∙ ap (λ (t : List ℕ). p.0 ++ 41 ∷ t) last;
          readable = version_found Source p.0 parts k;
        }
    by false more k = absurd cc

inside_again : (own : Parts) (version : List ℕ) (parts : Parts) → IsVersion version parts
    → source_version own (Some (version ++ 41 ∷ [])) ≡ Ok parts
unfolding source_version
inside_again own version parts v =
    ap bracketed (cut-at 41 version []
    (Without-from_test is_version_byte 41 version refl (version_bytes version parts v)))
    ∙ version_again Source version parts v

-- ---- the Source field

text_found : (own : Parts) (text : List ℕ) (o : Option (List ℕ × List ℕ))
    (q : List ℕ × Option (List ℕ)) (parts : Parts) → cut 40 text ≡ o → source_text text o ≡ Ok q
    → source_version own q.1 ≡ Ok parts
    → IsName text q.0 own parts ⊎ IsNameWithVersion text q.0 parts
unfolding source_version
text_found own text None q parts is e f = by (is_name text) refl e
  where
    by : (b : Bool) → is_name text ≡ b
        → cond b (Ok (text, None)) (Err (Missing index_field.Source)) ≡ Ok q
        → IsName text q.0 own parts ⊎ IsNameWithVersion text q.0 parts
    by true legal k =
        let same : (text, None) ≡ q = ok_is EntryFault (text, None) q k in
        subst (λ (r : List ℕ × Option (List ℕ)).
        source_version own r.1 ≡ Ok parts
        → IsName text r.0 own parts ⊎ IsNameWithVersion text r.0 parts) same
        (λ g. inl
        (record { spelled = refl; legal = legal; same = sym (ok_is EntryFault own parts g) })) f
    by false other k = absurd cc
text_found own text (Some p) q parts is e f = by (front_name p.0) refl e
  where
    by : (n : Option (List ℕ)) → front_name p.0 ≡ n → named_front n p.1 ≡ Ok q
        → IsName text q.0 own parts ⊎ IsNameWithVersion text q.0 parts
    by None none k = absurd cc
    by (Some name) named k =
        let front = front_found p.0 name named in
        let same : (name, Some p.1) ≡ q = ok_is EntryFault (name, Some p.1) q k in
        subst (λ (r : List ℕ × Option (List ℕ)).
        source_version own r.1 ≡ Ok parts
        → IsName text r.0 own parts ⊎ IsNameWithVersion text r.0 parts) same (λ g.
        let inside = inside_found p.1 parts (cut 41 p.1) refl g in
        inr (record {
          space = front.space;
          version = inside.version;
          spelled = (cut_found 40 text p is).0 ∙ ap (λ (t : List ℕ). p.0 ++ 40 ∷ t) inside.joined
              ∙ ap (λ (t : List ℕ). t ++ 40 ∷ (inside.version ++ 41 ∷ [])) front.joined
              ∙ append_assoc name front.space (40 ∷ (inside.version ++ 41 ∷ []));
          legal = front.legal;
          blank = front.blank;
          readable = inside.readable;
        })) f

source_found : (name : List ℕ) (own : Parts) (o : Option (List ℕ)) (q : List ℕ × Option (List ℕ))
    (parts : Parts) → origin_of name o ≡ Ok q → source_version own q.1 ≡ Ok parts
    → HasSource name own o q.0 parts
unfolding origin_of source_version
source_found name own None q parts e f =
    let same : (name, None) ≡ q = ok_is EntryFault (name, None) q e in
    subst (λ (r : List ℕ × Option (List ℕ)).
    source_version own r.1 ≡ Ok parts → HasSource name own None r.0 parts) same
    (λ g. (refl, sym (ok_is EntryFault own parts g))) f
source_found name own (Some text) q parts e f = text_found own text (cut 40 text) q parts refl e f

-- what the field says, one step behind the other
pub record IsRead (name : List ℕ) (own : Parts) (o : Option (List ℕ)) (source : List ℕ)
    (parts : Parts) : Type 0 where
  pub rest : Option (List ℕ)
  pub origin : origin_of name o ≡ Ok (source, rest)
  pub version : source_version own rest ≡ Ok parts

source_again : (name : List ℕ) (own : Parts) (o : Option (List ℕ)) (source : List ℕ) (parts : Parts)
    → HasSource name own o source parts → IsRead name own o source parts
unfolding origin_of source_version
source_again name own None source parts h =
    record {
      rest = None;
      origin = ap (λ (n : List ℕ). Ok (n, None)) (sym h.0);
      version = ap (λ (p : Parts). Ok p) (sym h.1);
    }
source_again name own (Some text) source parts (inl h) =
    let none : cut 40 source ≡ None = cut_none 40 source (Without-name 40 source refl h.legal) in
    let read : source_text source (cut 40 source) ≡ Ok (source, None) =
    ap (source_text source) none
    ∙ ap (λ (b : Bool). cond b (Ok (source, None)) (Err (Missing index_field.Source))) h.legal in
    record {
      rest = None;
      origin = ap (λ (t : List ℕ). source_text t (cut 40 t)) h.spelled ∙ read;
      version = ap (λ (p : Parts). Ok p) (sym h.same);
    }
source_again name own (Some text) source parts (inr h) =
    let inside = h.version ++ 41 ∷ [] in
    let front = source ++ h.space in
    let joined : text ≡ front ++ 40 ∷ inside =
    h.spelled ∙ sym (append_assoc source h.space (40 ∷ inside)) in
    let lacks : Without 40 front =
    Without-append 40 source h.space (Without-name 40 source refl h.legal)
    (Without-from_test is_space 40 h.space refl h.blank) in
    record {
      rest = Some inside;
      origin = ap (λ (t : List ℕ). source_text t (cut 40 t)) joined
          ∙ ap (source_text (front ++ 40 ∷ inside)) (cut-at 40 front inside lacks)
          ∙ ap (λ o. named_front o inside) (front_again source h.space h.legal h.blank);
      version = inside_again own h.version parts h.readable;
    }

-- ---- the stanza

kept_is : (p q : BinaryPackage)
    → ◌≡◌ {A = Result (Option BinaryPackage) EntryFault} (Ok (Some p)) (Ok (Some q)) → p ≡ q
kept_is p q e = cc

pub record IsHere (fields : List Entry) (name version : List ℕ) (o : Option (Option ℕ))
    (p : BinaryPackage) : Type 0 where
  pub home : Option ℕ
  pub is : o ≡ Some home
  pub read : local_at fields name version home ≡ Ok p

here_found : (fields : List Entry) (name version : List ℕ) (o : Option (Option ℕ))
    (p : BinaryPackage) → if_here fields name version o ≡ Ok (Some p)
    → IsHere fields name version o p
here_found fields name version None p e =
    absurd (let bad : ◌≡◌ {A = Result (Option BinaryPackage) EntryFault} (Ok None) (Ok (Some p)) =
    e in cc)
here_found fields name version (Some home) p e =
    let q = on_ok_parts (local_at fields name version home) (λ x. Ok (Some x)) (Some p) e in
    record {
      home = home;
      is = refl;
      read = q.1 ∙ ap (λ (x : BinaryPackage). Ok x) (kept_is q.0 p q.2);
    }

local_found : (table : List ArchWords) (fields : List Entry) (name version arch : List ℕ)
    (home : Option ℕ) (p : BinaryPackage)
    → value_of fields (codes "Package") ≡ Some name → is_name name ≡ true
    → value_of fields (codes "Version") ≡ Some version
    → value_of fields (codes "Architecture") ≡ Some arch → home_of table arch ≡ Some home
    → local_at fields name version home ≡ Ok p → IsPackage table fields p
unfolding local_at
local_found table fields name version arch home p has_name legal has_version has_arch here e =
    let origin = on_ok_parts (origin_of name (value_of fields (codes "Source"))) _ p e in
    let parts = on_ok_parts (version_in Version version) _ p origin.2 in
    let source_parts = on_ok_parts (source_version parts.0 origin.0.1) _ p parts.2 in
    subst (IsPackage table fields)
    (ok_is EntryFault (record {
      name = name;
      home = home;
      version = version;
      parts = parts.0;
      source = origin.0.0;
      source_parts = source_parts.0;
    }) p source_parts.2) (record {
      name = has_name;
      legal = legal;
      version = has_version;
      readable = version_found Version version parts.0 parts.1;
      arch = arch;
      there = has_arch;
      here = here;
      source = source_found name parts.0 (value_of fields (codes "Source")) origin.0 source_parts.0
          origin.1 source_parts.1;
    })

pub package_found : (table : List ArchWords) (fields : List Entry) (p : BinaryPackage)
    → package_at table fields ≡ Ok (Some p) → IsPackage table fields p
unfolding package_at
package_found table fields p e =
    let at = needed_read fields
    (λ name version arch. if_here fields name version (home_of table arch)) (Some p) e in
    let here = here_found fields at.has.name at.version (home_of table at.arch) p at.behind in
    local_found table fields at.has.name at.version at.arch here.home p at.has.named at.has.legal
    at.has.versioned at.has.there here.is here.read

local_again : (table : List ArchWords) (fields : List Entry) (p : BinaryPackage)
    → IsPackage table fields p → local_at fields p.name p.version p.home ≡ Ok p
unfolding local_at
local_again table fields p h =
    let source = source_again p.name p.parts (value_of fields (codes "Source")) p.source
    p.source_parts h.source in
    let origin = source.origin in
    let parts = version_again Version p.version p.parts h.readable in
    let source_parts = source.version in
    rw (origin, parts, source_parts) refl

abbrev pub package_needs : (table : List ArchWords) (fields : List Entry) (p : BinaryPackage)
    (h : IsPackage table fields p) → HasNeeded fields p.version h.arch
package_needs table fields p h = record {
  name = p.name;
  named = h.name;
  legal = h.legal;
  versioned = h.version;
  there = h.there;
}

pub package_again : (table : List ArchWords) (fields : List Entry) (p : BinaryPackage)
    → IsPackage table fields p → package_at table fields ≡ Ok (Some p)
unfolding package_at
package_again table fields p h =
    let here = h.here in
    let local = local_again table fields p h in
    needed_again fields (λ name version arch. if_here fields name version (home_of table arch))
    p.version h.arch (package_needs table fields p h) ∙ rw (here, local) refl

pub packages_are_exact : PackagesAreExact
packages_are_exact table fields p = (package_found table fields p, package_again table fields p)
