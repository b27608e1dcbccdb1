-- What an archive holds, of which texts it is read, and why texts are refused. This project's own.
use Rattle.std.specs.Prelude.{◌≡◌, ◌≢◌, ◌⊎◌, ℕ, ◌<◌, ◌≤◌, ◌&&◌, Bool, false, List, Option}
use Rattle.std.specs.Prelude.{Result, Ok, Err, IfOk, IfErr, MatchResult, position, slice_get}
use Rattle.std.specs.List.{find}
use Rattle.std.specs.Option.{option_map_or}
use Rattle.std.specs.Str.{bytes_eq}
use Rattle.td_rows.specs.Limits.{max_rows}
use Rattle.td_stanza.specs.Field.{Entry}
use Rattle.td_stanza.specs.StanzaGrammar.{AreStanzas}
use Rattle.td_stanza.specs.StanzaFaults.{HasFault}
use Rattle.td_stanza.specs.declared.fault.StanzaFault.{StanzaFault}
use Rattle.td_stanza.specs.declared.fault.StanzaFault.TheVariants.{BadName, NoColon}
use Rattle.td_stanza.specs.declared.fault.StanzaFault.TheVariants.{ContinuationFirst, Duplicate}
use Rattle.td_stanza.specs.declared.fault.StanzaFault.TheVariants as stanza
use Rattle.td_relation.specs.Arch.{ArchWords}
use Rattle.td_relation.specs.Meeting.{is_on}
pub use Rattle.td_supply.specs.Places.{places_from}
use Rattle.td_indices.specs.declared.archive_fault.IndexFile.{IndexFile}
use Rattle.td_indices.specs.declared.archive_fault.IndexFile.TheVariants.{Packages, Sources}
use Rattle.td_indices.specs.declared.archive_fault.ArchiveFault.{ArchiveFault}
use Rattle.td_indices.specs.declared.archive_fault.ArchiveFault.TheVariants.{Stanza, MissingField}
use Rattle.td_indices.specs.declared.archive_fault.ArchiveFault.TheVariants.{BadVersion}
use Rattle.td_indices.specs.declared.archive_fault.ArchiveFault.TheVariants.{BadRelation}
use Rattle.td_indices.specs.declared.archive_fault.ArchiveFault.TheVariants.{TooManyRows, NoMemory}
use Rattle.td_indices.specs.Kept.{KeptBinary}
use Rattle.td_indices.specs.Sources.{KeptSource}
use Rattle.td_indices.specs.Reading.{binaries_at, sources_at}
use Rattle.td_indices.specs.Rows.{has_row, row_count}

-- the table of architectures, the stanzas of the two texts, and what is kept of them
pub record Contents : Type 0 where
  pub table : List ArchWords
  pub packages : List (List Entry)
  pub source_stanzas : List (List Entry)
  pub binaries : List KeptBinary
  pub sources : List KeptSource

-- ---- 1. what is found in it

-- the source of a name
abbrev pub source_named : Contents → List ℕ → Option KeptSource
source_named a name = find (λ s. bytes_eq name s.head.name) a.sources

-- the number of the source of a name, from 0
abbrev pub number_named : Contents → List ℕ → Option ℕ
number_named a name = position (λ s. bytes_eq name s.head.name) a.sources

-- whether the source with a number has a row on the architecture at a place
abbrev pub has_row_at : Contents → ℕ → ℕ → Bool
has_row_at a number place =
    option_map_or (λ s. has_row a.table s.head.archs place) (slice_get a.sources number) false

-- a binary package is its source's where it names it
abbrev pub is_of : List ℕ → KeptBinary → Bool
is_of source b = bytes_eq source b.head.source

-- the numbers of the source's binary packages, wherever they are
abbrev pub numbers_of : Contents → List ℕ → List ℕ
numbers_of a source = places_from (is_of source) 0 a.binaries

-- the source's binary packages on an architecture: those there, and those of `all`
abbrev pub is_of_on : List ℕ → ℕ → KeptBinary → Bool
is_of_on source arch b = is_of source b && is_on arch b.head.home

-- the numbers of the source's binary packages on an architecture
abbrev pub binaries_on : Contents → List ℕ → ℕ → List ℕ
binaries_on a source arch = places_from (is_of_on source arch) 0 a.binaries

-- ---- 2. which texts are an archive

-- these lines are those of the archive, with the table of architectures
pub record IsArchive (table : List ArchWords) (package_lines source_lines : List (List ℕ))
    (a : Contents) : Type 0 where
  pub same_table : a.table ≡ table
  pub package_stanzas : AreStanzas a.packages package_lines
  pub source_stanzas : AreStanzas a.source_stanzas source_lines
  pub binaries : binaries_at table a.packages ≡ Ok a.binaries
  pub sources : sources_at a.source_stanzas ≡ Ok a.sources
  pub limited : row_count table a.sources ≤ max_rows

-- ---- 3. what is wrong with others

-- the stanzas of both texts have no fault as such; the first that can't be kept has this one, all
-- of Packages before those of Sources
pub record IsStanzaFault (table : List ArchWords) (package_lines source_lines : List (List ℕ))
    (fault : ArchiveFault) : Type 0 where
  pub package_list : List (List Entry)
  pub source_list : List (List Entry)
  pub package_stanzas : AreStanzas package_list package_lines
  pub source_stanzas : AreStanzas source_list source_lines
  pub faulty : (binaries_at table package_list ≡ Err fault)
      ⊎ ((binaries : List KeptBinary) × (binaries_at table package_list ≡ Ok binaries)
      × (sources_at source_list ≡ Err fault))

-- all stanzas can be kept, and the sources have too many rows
pub record HasTooManyRows (table : List ArchWords)
    (package_lines source_lines : List (List ℕ)) : Type 0 where
  pub contents : Contents
  pub package_stanzas : AreStanzas contents.packages package_lines
  pub source_stanzas : AreStanzas contents.source_stanzas source_lines
  pub binaries : binaries_at table contents.packages ≡ Ok contents.binaries
  pub sources : sources_at contents.source_stanzas ≡ Ok contents.sources
  pub beyond : max_rows < row_count table contents.sources

-- what a fault says of two texts; `NoMemory` may be the answer for any texts
abbrev pub FaultOf : List ArchWords → List (List ℕ) → List (List ℕ) → ArchiveFault → Type 0
FaultOf table packages sources (Stanza Packages fault) = HasFault fault packages
FaultOf table packages sources (Stanza Sources fault) =
    (stanzas : List (List Entry)) × AreStanzas stanzas packages × HasFault fault sources
FaultOf table packages sources (MissingField file number field) =
    IsStanzaFault table packages sources (MissingField file number field)
FaultOf table packages sources (BadVersion file number field) =
    IsStanzaFault table packages sources (BadVersion file number field)
FaultOf table packages sources (BadRelation file number field) =
    IsStanzaFault table packages sources (BadRelation file number field)
FaultOf table packages sources TooManyRows = HasTooManyRows table packages sources
FaultOf table packages sources NoMemory = Unit {0}

-- what was returned, unless memory ran out: this fault
abbrev pub IsRefusedFor : {A : Type 0} → ArchiveFault → Result A ArchiveFault → Type 0
IsRefusedFor fault (Ok archive) = ⊥
IsRefusedFor fault (Err e) = (e ≡ NoMemory) ⊎ (e ≡ fault)

-- ---- 4. what the reading of two texts comes to

-- the answer of the reading of these lines, with the table of architectures: what is read is an
-- archive; an archive is read, unless memory runs out; a refusal names a fault; and a fault is
-- refused, unless memory runs out
pub record IsRead (table : List ArchWords) (package_lines source_lines : List (List ℕ))
    (read : Result Contents ArchiveFault) : Type 0 where
  pub found : IfOk read (IsArchive table package_lines source_lines)
  pub only : (a : Contents) → IsArchive table package_lines source_lines a
      → MatchResult read (λ archive. archive ≡ a) (λ e. e ≡ NoMemory)
  pub fault : IfErr read (FaultOf table package_lines source_lines)
  pub refused : (fault : ArchiveFault) → fault ≢ NoMemory
      → FaultOf table package_lines source_lines fault → IsRefusedFor fault read

-- ---- 5. the parts of the reading

-- a fault of one of the files as a control file
abbrev pub in_file : IndexFile → StanzaFault → ArchiveFault
in_file file (BadName n) = Stanza file (BadName n)
in_file file (NoColon n) = Stanza file (NoColon n)
in_file file (ContinuationFirst n) = Stanza file (ContinuationFirst n)
in_file file (Duplicate n) = Stanza file (Duplicate n)
in_file file stanza.NoMemory = NoMemory

-- the first fault of one text as a control file
abbrev pub StanzaFaultOf : IndexFile → List (List ℕ) → ArchiveFault → Type 0
StanzaFaultOf file lines (Stanza of_file fault) = (of_file ≡ file) × HasFault fault lines
StanzaFaultOf file lines NoMemory = Unit {0}
StanzaFaultOf file lines (MissingField of_file number field) = ⊥
StanzaFaultOf file lines (BadVersion of_file number field) = ⊥
StanzaFaultOf file lines (BadRelation of_file number field) = ⊥
StanzaFaultOf file lines TooManyRows = ⊥
