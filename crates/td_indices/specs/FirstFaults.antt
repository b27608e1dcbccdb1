-- Which stanza a refusal names: the first that can't be kept. This project's own.
use Rattle.std.specs.Prelude.{◌≡◌, ℕ, List, ◌∷◌, ◌++◌, Option, Result, Err, length}
use Rattle.td_stanza.specs.Field.{Entry}
use Rattle.td_relation.specs.Arch.{ArchWords}
use Rattle.td_indices.specs.declared.archive_fault.ArchiveFault.{ArchiveFault}
use Rattle.td_indices.specs.declared.archive_fault.EntryFault.{EntryFault}
use Rattle.td_indices.specs.declared.archive_fault.IndexFile.{IndexFile}
use Rattle.td_indices.specs.declared.archive_fault.IndexFile.TheVariants.{Packages, Sources}
use Rattle.td_indices.specs.Counting.{AreItems}
use Rattle.td_indices.specs.Kept.{binary_at}
use Rattle.td_indices.specs.Reading.{at_stanza, binaries_at, sources_at}
use Rattle.td_indices.specs.Sources.{kept_source_at}

-- each stanza before it stands for an item or for none; it stands for neither, and the fault is its
-- own, with its number
pub record IsFirstFaulty {A : Type 0} (at : ℕ → List Entry → Result (Option A) EntryFault)
    (file : IndexFile) (stanzas : List (List Entry)) (fault : ArchiveFault) : Type 0 where
  pub before : List (List Entry)
  pub stanza : List Entry
  pub after : List (List Entry)
  pub parts : stanzas ≡ before ++ stanza ∷ after
  pub items : List A
  pub fine : AreItems at 0 before items
  pub own : EntryFault
  pub faulty : at (length before) stanza ≡ Err own
  pub named : fault ≡ at_stanza file (length before) own

-- the fault of stanzas of Packages is that of the first that can't be kept
abbrev pub FirstFaultyPackageIsNamed : Type 0
FirstFaultyPackageIsNamed =
    (table : List ArchWords) (stanzas : List (List Entry)) (fault : ArchiveFault)
    → binaries_at table stanzas ≡ Err fault → IsFirstFaulty (binary_at table) Packages stanzas fault

-- the fault of stanzas of Sources is that of the first that can't be kept
abbrev pub FirstFaultySourceIsNamed : Type 0
FirstFaultySourceIsNamed =
    (stanzas : List (List Entry)) (fault : ArchiveFault) → sources_at stanzas ≡ Err fault
    → IsFirstFaulty kept_source_at Sources stanzas fault
