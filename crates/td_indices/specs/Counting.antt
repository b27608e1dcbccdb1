-- One of several stanzas of one key counts. This project's own.
use Rattle.std.specs.Prelude.{◌≡◌, ◌↔◌, ℕ, ◌+◌, Bool, true, false, List, [], ◌∷◌, ◌++◌, Option}
use Rattle.std.specs.Prelude.{Some, None, Result, Ok}
use Rattle.std.specs.List.{list_any, AllByRecursion}
use Rattle.std.specs.declared.cmp.Ordering.TheVariants.{Less}
use Rattle.td_stanza.specs.Field.{Entry}
use Rattle.td_version.specs.Order.{version_cmp}
use Rattle.td_relation.specs.Arch.{ArchWords}
use Rattle.td_indices.specs.declared.archive_fault.EntryFault.{EntryFault}
use Rattle.td_indices.specs.Kept.{KeptBinary, binary_at, same_package, lower_package}
use Rattle.td_indices.specs.Reading.{binaries_at, sources_at}
use Rattle.td_indices.specs.Sources.{KeptSource, kept_source_at, same_source, lower_source}

-- an item counts if each one of its key before it is lower, and it is lower than none of its key
-- after it: the greatest version, and the first of those that are equal in order
pub record Counts {A : Type 0} (same lower : A → A → Bool) (items : List A) (x : A) : Type 0 where
  pub before : List A
  pub after : List A
  pub parts : items ≡ before ++ x ∷ after
  pub earlier : AllByRecursion (λ y. same x y ≡ true → lower y x ≡ true) before
  pub later : AllByRecursion (λ y. same x y ≡ true → lower x y ≡ false) after

-- no two have one key
abbrev pub Apart : {A : Type 0} → (A → A → Bool) → List A → Type 0
Apart same [] = Unit {0}
Apart same (x ∷ xs) = AllByRecursion (λ y. same x y ≡ false) xs × Apart same xs

-- what is kept of items: those that count, one of each key
pub record AreKept {A : Type 0} (same lower : A → A → Bool) (items kept : List A) : Type 0 where
  pub counting : AllByRecursion (Counts same lower items) kept
  pub each : AllByRecursion (λ x. list_any (same x) kept ≡ true) items
  pub apart : Apart same kept

-- an item more, if there is one
abbrev pub consed : {A : Type 0} → Option A → List A → List A
consed None xs = xs
consed (Some x) xs = x ∷ xs

-- the items that the stanzas stand for, each by itself; the first has this number
abbrev pub AreItems : {A : Type 0} → (ℕ → List Entry → Result (Option A) EntryFault) → ℕ
    → List (List Entry) → List A → Type 0
AreItems at n [] items = items ≡ []
AreItems {A} at n (stanza ∷ stanzas) items =
    (o : Option A) × (rest : List A) × (at n stanza ≡ Ok o) × (items ≡ consed o rest)
    × AreItems at (n + 1) stanzas rest

-- the binary packages that stanzas of Packages keep are those that count
abbrev pub GreatestPackagesAreKept : Type 0
GreatestPackagesAreKept =
    (table : List ArchWords) (stanzas : List (List Entry)) (kept : List KeptBinary)
    → binaries_at table stanzas ≡ Ok kept →
    (items : List KeptBinary) × AreItems (binary_at table) 0 stanzas items
    × AreKept same_package lower_package items kept

-- the sources that stanzas of Sources keep are those that count
abbrev pub GreatestSourcesAreKept : Type 0
GreatestSourcesAreKept =
    (stanzas : List (List Entry)) (kept : List KeptSource) → sources_at stanzas ≡ Ok kept →
    (items : List KeptSource) × AreItems kept_source_at 0 stanzas items
    × AreKept same_source lower_source items kept

-- two packages have one key if and only if they have one name and are in one place
abbrev pub PackageKeysAreExact : Type 0
PackageKeysAreExact =
    (a b : KeptBinary)
    → (same_package a b ≡ true) ↔ ((a.head.name ≡ b.head.name) × (a.head.home ≡ b.head.home))

-- two sources have one key if and only if they have one name
abbrev pub SourceKeysAreExact : Type 0
SourceKeysAreExact = (a b : KeptSource) → (same_source a b ≡ true) ↔ (a.head.name ≡ b.head.name)

-- a package is lower than another if and only if its own version is less in order than the other's
abbrev pub LowerPackagesAreExact : Type 0
LowerPackagesAreExact =
    (a b : KeptBinary) → (lower_package a b ≡ true) ↔ (version_cmp a.head.parts b.head.parts ≡ Less)

-- a source is lower than another if and only if its version is less in order than the other's
abbrev pub LowerSourcesAreExact : Type 0
LowerSourcesAreExact =
    (a b : KeptSource) → (lower_source a b ≡ true) ↔ (version_cmp a.head.parts b.head.parts ≡ Less)
