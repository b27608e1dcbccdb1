-- Over an archive that was read, the relation of a row's waits is read again, and a row is freed
-- once all that it waits for has arrived.
use Rattle.std.proofs.Common.{ℕ, List, []}
use Rattle.std.specs.List.{AllByRecursion}
use Rattle.td_indices.specs.declared.archive_fault.IndexFile.TheVariants.{Packages, Sources}
use Rattle.td_indices.specs.Archive.{Contents, IsArchive}
use Rattle.td_indices.specs.Kept.{binary_at, lower_package, same_package}
use Rattle.td_indices.specs.Sources.{kept_source_at, lower_source, same_source}
use Rattle.td_indices.proofs.LegalNames.{all_over}
use Rattle.td_indices.proofs.SourceStanzas.{binary_found, source_found}
use Rattle.td_plan.specs.Plan.{is_beside}
use Rattle.td_plan.specs.WaitLaws.{ReadRowsAreReleased, WaitsAreReadAgain}
use Rattle.td_plan.specs.Waits.{waits_of}
use Rattle.td_plan.proofs.Freed.{rows_are_released}
use Rattle.td_plan.proofs.PlanWaits.{IsPackage, IsSourceVersion, waits_can}
use Rattle.td_plan.proofs.SaidRelations.{relations_are_read}

-- ---- 1. what an archive that was read has

module _ (a : Contents) (package_lines source_lines : List (List ℕ))
    (read : IsArchive a.table package_lines source_lines a) where
  kept-packages : AllByRecursion IsPackage a.binaries
  kept-packages = all_over same_package lower_package (binary_at a.table) Packages IsPackage
      (λ n fields b is. (let head = (binary_found a.table n fields b is).head in
      record { name = head.legal; version = head.readable })) 0 [] a.packages a.binaries tt
      read.binaries

  kept-sources : AllByRecursion IsSourceVersion a.sources
  kept-sources = all_over same_source lower_source kept_source_at Sources IsSourceVersion
      (λ n fields s is. (source_found n fields s is).readable) 0 [] a.source_stanzas a.sources tt
      read.sources

-- ---- 2. the laws

pub waits_are_read_again : WaitsAreReadAgain
waits_are_read_again p x s place packages sources planned read some =
    let beside = is_beside x s in
    (relations_are_read (waits_of beside p s place) some
    (waits_can p planned.sound (kept-packages p.archive packages sources read)
    (kept-sources p.archive packages sources read) beside s place)).0

pub read_rows_are_released : ReadRowsAreReleased
read_rows_are_released p x s place v packages sources planned read some stock has =
    rows_are_released p x s place v planned stock has
    (waits_are_read_again p x s place packages sources planned read some)
