-- A map of sources after one more: what is put among them.
use Rattle.std.proofs.Common.{◌≡◌, ℕ, Bool, true, false, List, Option, refl, sym}
use Rattle.std.specs.Borrow.{Bor}
use Rattle.std.specs.Map.{lookup}
use Rattle.std.specs.Str.{bytes_eq}
use Rattle.std.proofs.lemmas.Slice.Eq.{bytes_eq-Decides}
use Rattle.indexmap.specs.IndexMap.{insert_entry}
use Rattle.td_version.specs.Version.{parts_of}
use Rattle.td_indices.specs.declared.sourced.Sourced.{Sourced}
use Rattle.td_indices.specs.Kept.{put}
use Rattle.td_indices.specs.Sources.{same_source, lower_source, source_stays, source_of}
use Rattle.td_indices.specs.Sources.{sources_of}
use Rattle.td_indices.proofs.Putting.{map_enters, map_stays}

abbrev pub named : Bor (List ℕ) → Bor (List ℕ) → Bool
named a b = bytes_eq a.now b.now

-- a source under another slice of its name
same_named : (k q : Bor (List ℕ)) (v : Sourced) → named k q ≡ true
    → source_of (q, v) ≡ source_of (k, v)
same_named k q v h =
    let names : k.now ≡ q.now = (bytes_eq-Decides k.now q.now).0 h in
    λ i. record {
      head = record {
        name = sym names i;
        version = v.version.now;
        parts = parts_of v.parts;
        archs = v.archs.now;
      };
      stanza = v.stanza;
    }

-- whether an earlier source isn't lower than another
abbrev not_lower : Option Sourced → Sourced → Bool
not_lower earlier v = source_stays earlier (parts_of v.parts)

pub source_put_stays : (es : List (Bor (List ℕ) × Sourced)) (k : Bor (List ℕ)) (v : Sourced)
    → source_stays (lookup (named k) es) (parts_of v.parts) ≡ true
    → sources_of es ≡ put same_source lower_source (sources_of es) (source_of (k, v))
source_put_stays es k v h =
    map_stays source_of named same_source lower_source not_lower (λ k v e. refl) same_named
    (λ v. refl) (λ e k v. refl) es k v h

pub source_put_enters : (es : List (Bor (List ℕ) × Sourced)) (k : Bor (List ℕ)) (v : Sourced)
    → source_stays (lookup (named k) es) (parts_of v.parts) ≡ false
    → sources_of (insert_entry named es k v)
    ≡ put same_source lower_source (sources_of es) (source_of (k, v))
source_put_enters es k v h =
    map_enters source_of named same_source lower_source not_lower (λ k v e. refl) same_named
    (λ v. refl) (λ e k v. refl) es k v h
