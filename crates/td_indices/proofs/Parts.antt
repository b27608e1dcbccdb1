-- What parts of the stanzas of Packages come to, one part after the other.
use Rattle.std.proofs.Common.{◌≡◌, ℕ, List, [], ◌∷◌, ◌++◌, Some, Result, Ok}
use Rattle.std.proofs.Common.{arith, length, sym, ap, ◌∙◌, subst}
use Rattle.std.specs.Global.{Vec}
use Rattle.std.proofs.Common.{append-nil}
use Rattle.std.proofs.lemmas.List.{map-append, drop_all}
use Rattle.std.proofs.lemmas.List.Sums.{fold-append}
use Rattle.std.proofs.lemmas.List.Concat.{flat_map-append}
use Rattle.td_stanza.specs.Field.{Entry}
use Rattle.td_relation.specs.Arch.{ArchWords}
use Rattle.td_indices.specs.declared.archive_fault.ArchiveFault.{ArchiveFault}
use Rattle.td_indices.specs.declared.packaged.PackageKey.{PackageKey}
use Rattle.td_indices.specs.declared.packaged.Packaged.{Packaged}
use Rattle.td_indices.specs.Kept.{KeptBinary, binaries_of, binary_at, binary_of, lower_package, put}
use Rattle.td_indices.specs.Kept.{same_package}
use Rattle.td_indices.specs.Reading.{binary_step, over_stanzas}
use Rattle.td_indices.specs.inner.IndexReading.{IsOfStanza}
use Rattle.td_indices.specs.inner.Parts.{IsFaultFrom, StandFor, kept_from, packages_in, put_all}

-- packages, and others behind them
pub put_all-append : (seen : List KeptBinary) (xs ys zs : List (PackageKey × Packaged))
    → zs ≡ xs ++ ys
    → put_all seen (binaries_of zs) ≡ put_all (put_all seen (binaries_of xs)) (binaries_of ys)
put_all-append seen xs ys zs is =
    ap (λ (ps : List (PackageKey × Packaged)). put_all seen (binaries_of ps)) is
    ∙ ap (put_all seen) (map-append binary_of xs ys)
    ∙ fold-append (put same_package lower_package) seen (binaries_of xs) (binaries_of ys)

-- the packages of one list
pub packages_in_one : (parts : List (Vec (PackageKey × Packaged)))
    (packages : Vec (PackageKey × Packaged)) → parts ≡ packages ∷ []
    → packages_in parts ≡ packages.items
packages_in_one parts packages is = rw is (append-nil packages.items)

-- the packages of lists, and of others behind them
pub packages_in-append : (xs ys zs : List (Vec (PackageKey × Packaged))) → zs ≡ xs ++ ys
    → packages_in zs ≡ packages_in xs ++ packages_in ys
packages_in-append xs ys zs is = rw is (flat_map-append (λ v. v.items) xs ys)

module _ (table : List ArchWords) (stanzas : List (List Entry)) where
  -- a part by itself
  pub part_alone : (from to : ℕ) (parts : List (Vec (PackageKey × Packaged)))
      (packages : Vec (PackageKey × Packaged)) → parts ≡ packages ∷ []
      → StandFor table stanzas from to packages.items
      → StandFor table stanzas from to (packages_in parts)
  part_alone from to parts packages is stand =
      subst (StandFor table stanzas from to) (sym (packages_in_one parts packages is)) stand

  -- a part, and another behind it
  pub part_behind : (from middle to : ℕ) (xs ys zs : List (Vec (PackageKey × Packaged)))
      → zs ≡ xs ++ ys → StandFor table stanzas from middle (packages_in xs)
      → StandFor table stanzas middle to (packages_in ys)
      → StandFor table stanzas from to (packages_in zs)
  part_behind from middle to xs ys zs is front rest seen =
      front seen
      ∙ rest (put_all seen (binaries_of (packages_in xs)))
      ∙ ap (kept_from table stanzas to)
      (sym (put_all-append seen (packages_in xs) (packages_in ys) (packages_in zs)
      (packages_in-append xs ys zs is)))

  -- a part, and a fault behind it
  pub fault_behind : (from middle : ℕ) (packages : List (PackageKey × Packaged)) (e : ArchiveFault)
      → StandFor table stanzas from middle packages → IsFaultFrom table stanzas middle e
      → IsFaultFrom table stanzas from e
  fault_behind from middle packages e front fault seen =
      subst (λ (r : Result (List KeptBinary) ArchiveFault). IsOfStanza r e) (sym (front seen))
      (fault (put_all seen (binaries_of packages)))

  -- behind the last stanza nothing is left to read
  pub kept_from-end : (seen : List KeptBinary)
      → kept_from table stanzas (length stanzas) seen ≡ Ok seen
  unfolding over_stanzas
  kept_from-end seen =
      ap (λ (l : List (List Entry)).
      over_stanzas (binary_step table) (length stanzas) seen l)
      (drop_all (length stanzas) stanzas (omega arith))

-- a stanza that stands for a package
pub package_more : (table : List ArchWords) (number : ℕ) (fields : List Entry)
    (taken : PackageKey × Packaged) (old new : List (PackageKey × Packaged))
    → new ≡ old ++ taken ∷ []
    → binary_at table number fields ≡ Ok (Some (binary_of taken))
    → (seen : List KeptBinary)
    → binary_step table number (put_all seen (binaries_of old)) fields
    ≡ Ok (put_all seen (binaries_of new))
package_more table number fields taken old new is read seen =
    rw read (ap Ok (sym (put_all-append seen old (taken ∷ []) new is)))
