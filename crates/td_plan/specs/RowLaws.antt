-- What the definitions of rows, numbers and reasons come to, in the words of the rules. This
-- project's own.
use Rattle.std.specs.Prelude.{◌≡◌, ◌⊎◌, ◌↔◌, ℕ, ◌<◌, ◌≤◌, Bool, IsTrue, true, false}
use Rattle.std.specs.Prelude.{None, Some}
use Rattle.std.specs.List.{Contains}
use Rattle.td_text.specs.Limits.{max_rebuild}
use Rattle.td_version.specs.Order.{same_version}
use Rattle.td_rows.specs.declared.row.Row.{Row}
use Rattle.td_rows.specs.declared.state.State.TheVariants.{Installed}
use Rattle.td_indices.specs.Kept.{KeptBinary}
use Rattle.td_indices.specs.Sources.{KeptSource}
use Rattle.td_indices.specs.Stanzas.{source_fields}
use Rattle.td_query.specs.declared.status.Status.TheVariants.{Bad, Partial}
use Rattle.td_query.specs.Statuses.{row_status}
use Rattle.td_query.specs.Truth.{truth}
use Rattle.td_plan.specs.Due.{is_due, is_pending, is_ready, number_of}
use Rattle.td_plan.specs.Numbers.{all_numbers, number_over, numbers_where}
use Rattle.td_plan.specs.Premises.{AreSound, Premises, is_bad, places, row_at}
use Rattle.td_plan.specs.Reasons.{Reason, all, is_left, number, old, reason_of, source, state}

-- ---- 1. due, or on its way

-- no row is due and on its way
abbrev pub DueRowsAreNotPending : Type 0
DueRowsAreNotPending = (p : Premises) (s : KeptSource) (place : ℕ)
    → is_due p s place ≡ true → is_pending p s place ≡ false

-- ---- 2. what is due

-- a package of the archive was built from the source
abbrev pub IsPackageOf : Premises → KeptSource → KeptBinary → Type 0
IsPackageOf p s b = Contains p.archive.binaries b × (s.head.name ≡ b.head.source)

-- the row of a source at a place is due: it is affected and bad, or partial; it is Installed; a
-- number is left; and some package of it on exactly that architecture, of the source's present
-- version, is bad
pub record IsDueRow (p : Premises) (s : KeptSource) (place : ℕ) : Type 0 where
  pub asks : (row_status p.archive p.tracker s place ≡ Some Bad)
      ⊎ (row_status p.archive p.tracker s place ≡ Some Partial)
  pub row : Row
  pub there : row_at p s place ≡ Some row
  pub installed : row.state ≡ Installed
  pub left : number_of p s ≤ max_rebuild
  pub of_one : KeptBinary
  pub of : IsPackageOf p s of_one
  pub home : of_one.head.home ≡ Some place
  pub present : same_version of_one.head.source_parts s.head.parts ≡ true
  pub bad : is_bad p of_one ≡ true

abbrev pub DueRowsAreExact : Type 0
DueRowsAreExact = (p : Premises) (s : KeptSource) (place : ℕ)
    → (is_due p s place ≡ true) ↔ IsDueRow p s place

-- ---- 3. numbers

-- a number serves: none of the source's numbers is above it, and those on the architectures that
-- are rebuilt, which a test says, are below it
pub record Serves (test : ℕ → Bool) (p : Premises) (s : KeptSource) (n : ℕ) : Type 0 where
  pub all : (m : ℕ) → Contains (all_numbers p s) m → m ≤ n
  pub rebuilt : (m : ℕ) → Contains (numbers_where test p s) m → m < n

-- the number of a source's due rows is the least that serves
abbrev pub NumbersAreLeast : Type 0
NumbersAreLeast = (test : ℕ → Bool) (p : Premises) (s : KeptSource)
    → Serves test p s (number_over test p s)
    × ((n : ℕ) → Serves test p s n → number_over test p s ≤ n)

-- a source has no number left only if a row of it is due except for the number
abbrev pub NumbersRunOutOverRows : Type 0
NumbersRunOutOverRows = (p : Premises) (s : KeptSource) → AreSound p
    → max_rebuild < number_of p s
    → (place : ℕ) × Contains (places p) place × IsTrue (is_ready p s place)

-- ---- 4. reasons

-- some package of the source that passes a test is bad
abbrev pub SomeBad : (KeptBinary → Type 0) → Premises → KeptSource → Type 0
SomeBad Test p s = (b : KeptBinary) × IsPackageOf p s b × Test b × (is_bad p b ≡ true)

-- the row of a source at a place is Installed
abbrev pub IsInstalledThere : Premises → KeptSource → ℕ → Type 0
IsInstalledThere p s place = (row : Row) × (row_at p s place ≡ Some row) × (row.state ≡ Installed)

-- the row of a source at a place could be rebuilt, if some package of it there were bad: the row is
-- Installed, and a number is left
abbrev pub CouldBeRebuilt : Premises → KeptSource → ℕ → Type 0
CouldBeRebuilt p s place = IsInstalledThere p s place × (number_of p s ≤ max_rebuild)

-- a package is of exactly the architecture at a place; it is there and of the source's present
-- version; it is there and of another version; it is of `all`
abbrev pub IsThere : ℕ → KeptBinary → Type 0
IsThere place b = b.head.home ≡ Some place

abbrev pub IsPresentThere : KeptSource → ℕ → KeptBinary → Type 0
IsPresentThere s place b = IsThere place b × (same_version b.head.source_parts s.head.parts ≡ true)

abbrev pub IsOldThere : KeptSource → ℕ → KeptBinary → Type 0
IsOldThere s place b = IsThere place b × (same_version b.head.source_parts s.head.parts ≡ false)

abbrev pub IsOfAll : KeptBinary → Type 0
IsOfAll b = b.head.home ≡ None

-- what a reason says of a row that is bad or partial, and isn't due
abbrev pub Explains : Premises → KeptSource → ℕ → Reason → Type 0
Explains p s place state = ¬ IsInstalledThere p s place
Explains p s place number = IsInstalledThere p s place × (max_rebuild < number_of p s)
Explains p s place old = CouldBeRebuilt p s place × SomeBad (IsOldThere s place) p s
    × ¬ SomeBad (IsPresentThere s place) p s
Explains p s place all = CouldBeRebuilt p s place × SomeBad IsOfAll p s
    × ¬ SomeBad (IsThere place) p s
Explains p s place source = CouldBeRebuilt p s place × ¬ SomeBad (IsThere place) p s
    × ¬ SomeBad IsOfAll p s
    × (truth p.tracker.patterns (source_fields p.archive s) p.tracker.bad ≡ true)

-- the reason of each row that is wanted and not due explains it
abbrev pub LeftRowsAreExplained : Type 0
LeftRowsAreExplained = (p : Premises) (s : KeptSource) (place : ℕ) → is_left p s place ≡ true
    → Explains p s place (reason_of p s place)
