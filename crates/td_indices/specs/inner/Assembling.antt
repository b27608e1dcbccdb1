-- What the two texts keep, before their rows are counted. This project's own.
use Rattle.std.specs.Prelude.{◌≡◌, ◌⊎◌, ℕ, List, Result, Ok, Err}
use Rattle.td_stanza.specs.StanzaGrammar.{AreStanzas}
use Rattle.td_relation.specs.Arch.{ArchWords}
use Rattle.td_indices.specs.declared.archive_fault.ArchiveFault.{ArchiveFault}
use Rattle.td_indices.specs.declared.assembling.KeptIndices.{KeptIndices}
use Rattle.td_indices.specs.declared.index_reading.PackagesIndex.{PackagesIndex}
use Rattle.td_indices.specs.declared.index_reading.SourcesIndex.{SourcesIndex}
use Rattle.td_indices.specs.Kept.{binaries_of}
use Rattle.td_indices.specs.Reading.{binaries_at, sources_at}
use Rattle.td_indices.specs.Sources.{sources_of}

-- what the stanzas of both keep, and of which lines they are
pub record AreKept (table : List ArchWords) (package_lines source_lines : List (List ℕ))
    (kept : KeptIndices) : Type 0 where
  pub package_stanzas : AreStanzas kept.packages package_lines
  pub source_stanzas : AreStanzas kept.source_stanzas source_lines
  pub binaries : binaries_at table kept.packages ≡ Ok (binaries_of kept.binaries)
  pub sources : sources_at kept.source_stanzas ≡ Ok (sources_of kept.sources.entries)

-- the fault is the first one's, or the second one's where the first has none
abbrev pub IsFirstOf : {A B : Type 0} → Result A ArchiveFault → Result B ArchiveFault
    → ArchiveFault → Type 0
IsFirstOf {A} first second fault = (first ≡ Err fault)
    ⊎ ((a : A) × (first ≡ Ok a) × (second ≡ Err fault))

-- the fault is that of one of the two files, or else, both being control files, that of the stanzas
-- of one of them
abbrev pub IsOfOne : Result PackagesIndex ArchiveFault → Result SourcesIndex ArchiveFault
    → ArchiveFault → Type 0
IsOfOne packages sources fault = IsFirstOf packages sources fault
    ⊎ ((p : PackagesIndex) × (s : SourcesIndex) × (packages ≡ Ok p) × (sources ≡ Ok s)
    × IsFirstOf p.kept s.kept fault)
