-- The fields that a stanza of either file needs are read first, whatever is read after them.
use Rattle.std.proofs.Common.{◌≡◌, ◌⊎◌, ℕ, Bool, true, false, cond, List, Option, Some, None}
use Rattle.std.proofs.Common.{Result, Ok, Err, refl, sym, ap, ◌∙◌, inl, inr}
use Rattle.std.specs.Prelude.{codes}
use Rattle.td_text.specs.Lines.{on_ok}
use Rattle.td_text.specs.Words.{is_name}
use Rattle.td_stanza.specs.Field.{Entry}
use Rattle.td_indices.specs.declared.archive_fault.VersionField.{VersionField}
use Rattle.td_indices.specs.declared.archive_fault.EntryFault.{EntryFault}
use Rattle.td_indices.specs.declared.archive_fault.EntryFault.TheVariants.{BadVersion, Missing}
use Rattle.td_indices.specs.declared.archive_fault.IndexField.{IndexField}
use Rattle.td_indices.specs.declared.archive_fault.IndexField.TheVariants.{Architecture, Package}
use Rattle.td_indices.specs.declared.archive_fault.IndexField.TheVariants.{Version}
use Rattle.td_indices.specs.Fields.{name_in, needed, value_of}
use Rattle.td_indices.specs.Needed.{HasNeeded}

-- the three fields, and what is read behind them
abbrev pub needed_then : {A : Type 0} → List Entry
    → (List ℕ → List ℕ → List ℕ → Result A EntryFault) → Result A EntryFault
needed_then fields next =
    on_ok (name_in Package (value_of fields (codes "Package"))) (λ name.
    on_ok (needed Version (value_of fields (codes "Version"))) (λ version.
    on_ok (needed Architecture (value_of fields (codes "Architecture"))) (λ arch.
    next name version arch)))

-- a stanza has what it needs, and this is read behind that
pub record HasThen {A : Type 0} (fields : List Entry)
    (next : List ℕ → List ℕ → List ℕ → Result A EntryFault) (r : Result A EntryFault) : Type 0 where
  pub version : List ℕ
  pub arch : List ℕ
  pub has : HasNeeded fields version arch
  pub behind : next has.name version arch ≡ r

module _ {A : Type 0} (fields : List Entry)
    (next : List ℕ → List ℕ → List ℕ → Result A EntryFault) (r : Result A EntryFault) where
  abbrev Outcome : Type 0
  Outcome = ((field : IndexField) × (r ≡ Err (Missing field))) ⊎ HasThen fields next r

  at_arch : (name version : List ℕ) → value_of fields (codes "Package") ≡ Some name
      → is_name name ≡ true → value_of fields (codes "Version") ≡ Some version
      → (o : Option (List ℕ)) → value_of fields (codes "Architecture") ≡ o
      → on_ok (needed Architecture o) (λ arch. next name version arch) ≡ r → Outcome
  at_arch name version named legal versioned None is e = inl (Architecture, sym e)
  at_arch name version named legal versioned (Some arch) is e = inr (record {
    version = version;
    arch = arch;
    has = record {
      name = name;
      named = named;
      legal = legal;
      versioned = versioned;
      there = is;
    };
    behind = e;
  })

  at_version : (name : List ℕ) → value_of fields (codes "Package") ≡ Some name
      → is_name name ≡ true
      → (o : Option (List ℕ)) → value_of fields (codes "Version") ≡ o
      → on_ok (needed Version o) (λ version.
      on_ok (needed Architecture (value_of fields (codes "Architecture"))) (λ arch.
      next name version arch)) ≡ r → Outcome
  at_version name named legal None is e = inl (Version, sym e)
  at_version name named legal (Some version) is e =
      at_arch name version named legal is (value_of fields (codes "Architecture")) refl e

  at_name : (o : Option (List ℕ)) → value_of fields (codes "Package") ≡ o
      → on_ok (name_in Package o) (λ name.
      on_ok (needed Version (value_of fields (codes "Version"))) (λ version.
      on_ok (needed Architecture (value_of fields (codes "Architecture"))) (λ arch.
      next name version arch))) ≡ r → Outcome
  at_name None is e = inl (Package, sym e)
  at_name (Some name) is e = by (is_name name) refl e
    where
      by : (b : Bool) → is_name name ≡ b
          → on_ok (cond b (Ok name) (Err (Missing Package))) (λ name.
          on_ok (needed Version (value_of fields (codes "Version"))) (λ version.
          on_ok (needed Architecture (value_of fields (codes "Architecture"))) (λ arch.
          next name version arch))) ≡ r → Outcome
      by true legal k = at_version name is legal (value_of fields (codes "Version")) refl k
      by false legal k = inl (Package, sym k)

  -- one of the fields is missing, or the stanza has what it needs
  outcome : needed_then fields next ≡ r → Outcome
  outcome e = at_name (value_of fields (codes "Package")) refl e

-- what isn't that one is missing is said of what is read behind them
late : {A : Type 0} (fields : List Entry) (next : List ℕ → List ℕ → List ℕ → Result A EntryFault)
    (r : Result A EntryFault) → ((field : IndexField) → r ≡ Err (Missing field) → ⊥)
    → needed_then fields next ≡ r → HasThen fields next r
late fields next r other e =
    elim (outcome fields next r e) [
      | inl early ↦ absurd (other early.0 early.1)
      | inr has ↦ has
    ]

pub needed_read : {A : Type 0} (fields : List Entry)
    (next : List ℕ → List ℕ → List ℕ → Result A EntryFault) (x : A)
    → needed_then fields next ≡ Ok x → HasThen fields next (Ok x)
needed_read fields next x e = late fields next (Ok x) (λ field bad. cc) e

pub needed_bad : {A : Type 0} (fields : List Entry)
    (next : List ℕ → List ℕ → List ℕ → Result A EntryFault) (field : VersionField)
    → needed_then fields next ≡ Err (BadVersion field)
    → HasThen fields next (Err (BadVersion field))
needed_bad fields next field e = late fields next (Err (BadVersion field)) (λ other bad. cc) e

-- ---- a stanza that has them is read on

name_again : (field : IndexField) (o : Option (List ℕ)) (name : List ℕ) → o ≡ Some name
    → is_name name ≡ true → name_in field o ≡ Ok name
name_again field o name e legal =
    ap (name_in field) e ∙ ap (λ (b : Bool). cond b (Ok name) (Err (Missing field))) legal

pub needed_again : {A : Type 0} (fields : List Entry)
    (next : List ℕ → List ℕ → List ℕ → Result A EntryFault) (version arch : List ℕ)
    (h : HasNeeded fields version arch) → needed_then fields next ≡ next h.name version arch
needed_again fields next version arch h =
    let name = name_again Package (value_of fields (codes "Package")) h.name h.named h.legal in
    let versioned : needed Version (value_of fields (codes "Version")) ≡ Ok version =
    ap (needed Version) h.versioned in
    let there : needed Architecture (value_of fields (codes "Architecture")) ≡ Ok arch =
    ap (needed Architecture) h.there in
    rw (name, versioned, there) refl
