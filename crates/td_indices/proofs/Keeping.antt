-- A map of packages after one more: what is put among them.
use Rattle.std.proofs.Common.{◌≡◌, ℕ, Bool, true, false, List, Option, Some, None, ap, refl, sym}
use Rattle.std.specs.Map.{lookup}
use Rattle.std.proofs.lemmas.Bool.{and_parts, eqb-true}
use Rattle.std.proofs.lemmas.Slice.Eq.{bytes_eq-Decides}
use Rattle.indexmap.specs.IndexMap.{insert_entry}
use Rattle.td_version.specs.Version.{parts_of}
use Rattle.td_indices.specs.declared.packaged.PackageKey.{PackageKey}
use Rattle.td_indices.specs.declared.packaged.Packaged.{Packaged}
use Rattle.td_indices.specs.PackageKeys.{same_key, same_home}
use Rattle.td_indices.specs.Kept.{same_package, lower_package, put, stays, binary_of}
use Rattle.td_indices.specs.Kept.{binaries_of}
use Rattle.td_indices.proofs.Putting.{map_enters, map_stays}

pub same_home-is : (a b : Option ℕ) → same_home a b ≡ true → a ≡ b
same_home-is None None h = refl
same_home-is None (Some j) h = absurd cc
same_home-is (Some i) None h = absurd cc
same_home-is (Some i) (Some j) h = ap Some (eqb-true i j h)

-- a package under another key that is the same
same_binary : (k q : PackageKey) (v : Packaged) → same_key k q ≡ true
    → binary_of (q, v) ≡ binary_of (k, v)
same_binary k q v h =
    let both = and_parts _ _ h in
    let names : k.name.now ≡ q.name.now = (bytes_eq-Decides k.name.now q.name.now).0 both.0 in
    let homes : k.arch ≡ q.arch = same_home-is k.arch q.arch both.1 in
    λ i. record {
      head = record {
        name = sym names i;
        home = sym homes i;
        version = v.version.now;
        parts = parts_of v.parts;
        source = v.source.now;
        source_parts = parts_of v.source_parts;
      };
      provides = (binary_of (k, v)).provides;
      stanza = v.stanza;
    }

-- whether an earlier package isn't lower than another
abbrev not_lower : Option Packaged → Packaged → Bool
not_lower earlier v = stays earlier (parts_of v.parts)

pub put_stays : (es : List (PackageKey × Packaged)) (k : PackageKey) (v : Packaged)
    → stays (lookup (same_key k) es) (parts_of v.parts) ≡ true
    → binaries_of es ≡ put same_package lower_package (binaries_of es) (binary_of (k, v))
put_stays es k v h =
    map_stays binary_of same_key same_package lower_package not_lower (λ k v e. refl) same_binary
    (λ v. refl) (λ e k v. refl) es k v h

pub put_enters : (es : List (PackageKey × Packaged)) (k : PackageKey) (v : Packaged)
    → stays (lookup (same_key k) es) (parts_of v.parts) ≡ false
    → binaries_of (insert_entry same_key es k v)
    ≡ put same_package lower_package (binaries_of es) (binary_of (k, v))
put_enters es k v h =
    map_enters binary_of same_key same_package lower_package not_lower (λ k v e. refl) same_binary
    (λ v. refl) (λ e k v. refl) es k v h
