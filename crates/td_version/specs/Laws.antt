-- Laws of the order of versions, and of rebuilds in it. deb-version(7).
use Rattle.std.specs.Prelude.{◌≡◌, ◌≢◌, ℕ, ◌<◌, ◌≤◌, List}
use Rattle.std.specs.Ordering.{ordering_reverse}
use Rattle.std.specs.declared.cmp.Ordering.TheVariants.{Less, Equal, Greater}
use Rattle.td_text.specs.Limits.{max_rebuild}
use Rattle.td_version.specs.Version.{Parts}
use Rattle.td_version.specs.Order.{version_cmp}
use Rattle.td_version.specs.Grammar.{IsVersion}
use Rattle.td_version.specs.Rebuild.{rebuild_text}

-- A version is below another, or equal to it in order.
abbrev pub IsAtMost : Parts → Parts → Type 0
IsAtMost a b = version_cmp a b ≢ Greater

-- A version is equal in order to itself.
abbrev pub IsReflexive : Type 0
IsReflexive = (a : Parts) → version_cmp a a ≡ Equal

-- One of two versions is at most the other: asked the other way round, the answer turns round.
abbrev pub IsTotal : Type 0
IsTotal = (a b : Parts) → version_cmp b a ≡ ordering_reverse (version_cmp a b)

-- What is at most a version is at most each version that this is at most.
abbrev pub IsTransitive : Type 0
IsTransitive = (a b d : Parts) → IsAtMost a b → IsAtMost b d → IsAtMost a d

-- Two texts that differ stand for versions that are equal in order.
pub record SomeTextsAreEqualInOrder : Type 0 where
  pub one : List ℕ
  pub other : List ℕ
  pub differ : one ≢ other
  pub a : Parts
  pub b : Parts
  pub reads_one : IsVersion one a
  pub reads_other : IsVersion other b
  pub equal : version_cmp a b ≡ Equal

-- A rebuild of a version is a version.
abbrev pub RebuildsAreVersions : Type 0
RebuildsAreVersions =
    (base : List ℕ) (p : Parts) (n : ℕ) → IsVersion base p → n ≤ max_rebuild →
    (q : Parts) × IsVersion (rebuild_text base n) q

-- A rebuild is above its base, which is the rebuild with number 0, and above each rebuild of that
-- with a smaller number.
abbrev pub RebuildsRise : Type 0
RebuildsRise =
    (base : List ℕ) (m n : ℕ) → m < n → n ≤ max_rebuild →
    (low high : Parts) → IsVersion (rebuild_text base m) low
    → IsVersion (rebuild_text base n) high →
    version_cmp low high ≡ Less
