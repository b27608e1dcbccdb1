-- What each of the two texts is read as by itself, before the other is looked at. This project's
-- own.
use Rattle.std.specs.Prelude.{◌≡◌, ℕ, true, List, Result, Ok, MatchResult}
use Rattle.td_stanza.specs.Field.{Entry}
use Rattle.td_stanza.specs.StanzaGrammar.{AreStanzas}
use Rattle.td_relation.specs.Arch.{ArchWords}
use Rattle.td_indices.specs.declared.archive_fault.ArchiveFault.{ArchiveFault}
use Rattle.td_indices.specs.declared.archive_fault.IndexFile.{IndexFile}
use Rattle.td_indices.specs.declared.archive_fault.IndexFile.TheVariants.{Packages, Sources}
use Rattle.td_indices.specs.declared.index_reading.PackagesIndex.{PackagesIndex}
use Rattle.td_indices.specs.declared.index_reading.SourcesIndex.{SourcesIndex}
use Rattle.td_indices.specs.Archive.{StanzaFaultOf}
use Rattle.td_indices.specs.Kept.{binaries_of}
use Rattle.td_indices.specs.Reading.{IsFaultOf, binaries_at, is_entry, sources_at}
use Rattle.td_indices.specs.Sources.{sources_of}

-- the stanzas of a text's lines were found, or it has this fault as a control file
abbrev pub AreStanzasRead : IndexFile → List (List ℕ) → Result (List (List Entry)) ArchiveFault
    → Type 0
AreStanzasRead file lines read =
    MatchResult read (λ list. AreStanzas list lines) (StanzaFaultOf file lines)

-- the fault is that of the first stanza that can't be kept, or that memory ran out
abbrev pub IsOfStanza : {A : Type 0} → Result A ArchiveFault → ArchiveFault → Type 0
IsOfStanza read fault = IsFaultOf read fault × (is_entry fault ≡ true)

-- the lines of Packages are these stanzas, and what is kept of them, or the fault, is that of the
-- stanzas
pub record ArePackages (table : List ArchWords) (lines : List (List ℕ))
    (index : PackagesIndex) : Type 0 where
  pub stanzas : AreStanzas index.stanzas lines
  pub kept : MatchResult index.kept
      (λ kept. binaries_at table index.stanzas ≡ Ok (binaries_of kept))
      (IsOfStanza (binaries_at table index.stanzas))

-- the lines of Sources are these stanzas, and what is kept of them, or the fault, is that of the
-- stanzas
pub record AreSources (lines : List (List ℕ)) (index : SourcesIndex) : Type 0 where
  pub stanzas : AreStanzas index.stanzas lines
  pub kept : MatchResult index.kept
      (λ kept. sources_at index.stanzas ≡ Ok (sources_of kept.entries))
      (IsOfStanza (sources_at index.stanzas))

-- Packages was read by itself: as such an index, or it has this fault as a control file
abbrev pub ArePackagesRead : List ArchWords → List (List ℕ) → Result PackagesIndex ArchiveFault
    → Type 0
ArePackagesRead table lines read =
    MatchResult read (ArePackages table lines) (StanzaFaultOf Packages lines)

-- Sources was read by itself: as such an index, or it has this fault as a control file
abbrev pub AreSourcesRead : List (List ℕ) → Result SourcesIndex ArchiveFault → Type 0
AreSourcesRead lines read = MatchResult read (AreSources lines) (StanzaFaultOf Sources lines)
