-- A row is due if and only if the rule says so, and why others aren't.
use Rattle.std.proofs.Common.{◌≡◌, ◌⊎◌, ℕ, ◌&&◌, Bool, true, false}
use Rattle.std.proofs.Common.{Option, None, Some, refl, ap, ◌∙◌, inl}
use Rattle.std.proofs.Common.{inr}
use Rattle.std.specs.List.{list_any}
use Rattle.std.specs.Option.{option_map_or}
use Rattle.std.proofs.lemmas.Bool.{and_from, and_parts, false≢true}
use Rattle.std.proofs.lemmas.Bool.{le-leb, leb-true}
use Rattle.std.proofs.lemmas.Slice.Eq.{bytes_eq-Decides}
use Rattle.td_text.specs.Limits.{max_rebuild}
use Rattle.td_text.proofs.SameTexts.{same_text}
use Rattle.td_version.specs.Order.{same_version}
use Rattle.td_rows.specs.declared.row.Row.{Row}
use Rattle.td_rows.specs.declared.state.State.{State}
use Rattle.td_rows.specs.declared.state.State.TheVariants.{NeedsBuild, Building, Built, Uploaded}
use Rattle.td_rows.specs.declared.state.State.TheVariants.{Installed, DepWait, BdUninstallable}
use Rattle.td_rows.specs.declared.state.State.TheVariants.{BuildAttempted, Failed, NotForUs}
use Rattle.td_rows.specs.States.{is_installed}
use Rattle.td_indices.specs.Archive.{is_of}
use Rattle.td_indices.specs.Kept.{KeptBinary}
use Rattle.td_indices.specs.Opening.{is_current}
use Rattle.td_indices.specs.PackageKeys.{same_home}
use Rattle.td_indices.specs.Sources.{KeptSource}
use Rattle.td_indices.proofs.CountingLaws.{same_home-refl}
use Rattle.td_indices.proofs.Keeping.{same_home-is}
use Rattle.td_query.specs.declared.status.Status.{Status}
use Rattle.td_query.specs.declared.status.Status.TheVariants.{Bad, Good, Partial, Unknown}
use Rattle.td_query.specs.Statuses.{row_status}
use Rattle.td_plan.specs.Due.{asks_rebuild, has_number, is_due, is_present, is_ready, is_wanted}
use Rattle.td_plan.specs.Due.{number_of}
use Rattle.td_plan.specs.Premises.{Premises, has_row_that, is_bad, row_at}
use Rattle.td_plan.specs.RowLaws.{DueRowsAreExact, IsDueRow, IsInstalledThere, IsPackageOf}
use Rattle.td_plan.proofs.Existing.{any-some, some-any}

-- ---- 1. a status that asks

abbrev pub Asks : Option Status → Type 0
Asks o = (o ≡ Some Bad) ⊎ (o ≡ Some Partial)

pub asks-is : (o : Option Status) → asks_rebuild o ≡ true → Asks o
asks-is None h = absurd (false≢true h)
asks-is (Some Good) h = absurd (false≢true h)
asks-is (Some Bad) h = inl refl
asks-is (Some Partial) h = inr refl
asks-is (Some Unknown) h = absurd (false≢true h)

pub is-asks : (o : Option Status) → Asks o → asks_rebuild o ≡ true
is-asks o (inl is) = ap asks_rebuild is
is-asks o (inr is) = ap asks_rebuild is

-- ---- 2. a row that is Installed

state-installed : (state : State) → is_installed state ≡ true → state ≡ Installed
state-installed NeedsBuild h = absurd (false≢true h)
state-installed (Building b) h = absurd (false≢true h)
state-installed Built h = absurd (false≢true h)
state-installed Uploaded h = absurd (false≢true h)
state-installed Installed h = refl
state-installed DepWait h = absurd (false≢true h)
state-installed BdUninstallable h = absurd (false≢true h)
state-installed BuildAttempted h = absurd (false≢true h)
state-installed Failed h = absurd (false≢true h)
state-installed NotForUs h = absurd (false≢true h)

-- a row is there, and Installed
abbrev InstalledRow : Option Row → Type 0
InstalledRow o = (row : Row) × (o ≡ Some row) × (row.state ≡ Installed)

row-installed : (o : Option Row) → option_map_or (λ r. is_installed r.state) o false ≡ true
    → InstalledRow o
row-installed None h = absurd (false≢true h)
row-installed (Some row) h = (row, refl, state-installed row.state h)

installed-row : (o : Option Row) → InstalledRow o
    → option_map_or (λ r. is_installed r.state) o false ≡ true
installed-row o (row, is, state) =
    ap (λ (x : Option Row). option_map_or (λ r. is_installed r.state) x false) is
    ∙ ap is_installed state

pub installed-there : (p : Premises) (s : KeptSource) (place : ℕ)
    → has_row_that (λ r. is_installed r.state) p s place ≡ true → IsInstalledThere p s place
installed-there p s place h = row-installed (row_at p s place) h

pub there-installed : (p : Premises) (s : KeptSource) (place : ℕ)
    → IsInstalledThere p s place → has_row_that (λ r. is_installed r.state) p s place ≡ true
there-installed p s place h = installed-row (row_at p s place) h

-- ---- 3. a package that is bad

-- some package that passes two tests
pub bad-some : (p : Premises) (s : KeptSource) (test : KeptBinary → Bool)
    → list_any (λ b. is_of s.head.name b && (test b && is_bad p b)) p.archive.binaries ≡ true
    → (b : KeptBinary) × IsPackageOf p s b × (test b ≡ true) × (is_bad p b ≡ true)
bad-some p s test h =
    let found =
    any-some (λ b. is_of s.head.name b && (test b && is_bad p b)) p.archive.binaries h in
    let b = found.0 in
    let parts = and_parts (is_of s.head.name b) (test b && is_bad p b) found.2 in
    let both = and_parts (test b) (is_bad p b) parts.1 in
    (b, (found.1, same_text s.head.name b.head.source parts.0), both.0, both.1)

pub some-bad : (p : Premises) (s : KeptSource) (test : KeptBinary → Bool) (b : KeptBinary)
    → IsPackageOf p s b → test b ≡ true → is_bad p b ≡ true
    → list_any (λ b. is_of s.head.name b && (test b && is_bad p b)) p.archive.binaries ≡ true
some-bad p s test b of is bad =
    some-any (λ b. is_of s.head.name b && (test b && is_bad p b)) p.archive.binaries b of.0
    (and_from (is_of s.head.name b) (test b && is_bad p b)
    ((bytes_eq-Decides s.head.name b.head.source).1 of.1)
    (and_from (test b) (is_bad p b) is bad))

-- ---- 4. a row that is due

module _ (p : Premises) (s : KeptSource) (place : ℕ) where
  abbrev is_it : KeptBinary → Bool
  is_it b = is_present s place b && is_bad p b

  due-row : is_due p s place ≡ true → IsDueRow p s place
  due-row due =
      let ready = and_parts (has_number p s) (is_ready p s place) due in
      let wanted = and_parts (is_wanted p s place) _ ready.1 in
      let rest = and_parts (has_row_that (λ r. is_installed r.state) p s place)
      (list_any is_it p.archive.binaries) wanted.1 in
      let row = installed-there p s place rest.0 in
      let found = any-some is_it p.archive.binaries rest.1 in
      let b = found.0 in
      let both = and_parts (is_present s place b) (is_bad p b) found.2 in
      let present = and_parts (is_of s.head.name b) (is_current s.head.parts place b) both.0 in
      let current = and_parts (same_home b.head.home (Some place))
      (same_version b.head.source_parts s.head.parts) present.1 in
      record {
        asks = asks-is (row_status p.archive p.tracker s place) wanted.0;
        row = row.0;
        there = row.1;
        installed = row.2;
        left = leb-true (number_of p s) max_rebuild ready.0;
        of_one = b;
        of = (found.1, same_text s.head.name b.head.source present.0);
        home = same_home-is b.head.home (Some place) current.0;
        present = current.1;
        bad = both.1;
      }

  row-due : IsDueRow p s place → is_due p s place ≡ true
  row-due d =
      let b = d.of_one in
      let home : same_home b.head.home (Some place) ≡ true =
      ap (λ (h : Option ℕ). same_home h (Some place)) d.home ∙ same_home-refl (Some place) in
      let present : is_present s place b ≡ true =
      and_from (is_of s.head.name b) (is_current s.head.parts place b)
      ((bytes_eq-Decides s.head.name b.head.source).1 d.of.1)
      (and_from (same_home b.head.home (Some place))
      (same_version b.head.source_parts s.head.parts) home d.present) in
      let some : list_any is_it p.archive.binaries ≡ true =
      some-any is_it p.archive.binaries b d.of.0
      (and_from (is_present s place b) (is_bad p b) present d.bad) in
      and_from (has_number p s) (is_ready p s place)
      (le-leb (number_of p s) max_rebuild d.left)
      (and_from (is_wanted p s place) _
      (is-asks (row_status p.archive p.tracker s place) d.asks)
      (and_from (has_row_that (λ r. is_installed r.state) p s place)
      (list_any is_it p.archive.binaries)
      (there-installed p s place (d.row, d.there, d.installed)) some))

pub due_rows_are_exact : DueRowsAreExact
due_rows_are_exact p s place = (due-row p s place, row-due p s place)
