-- The two indices read stanza by stanza; the first fault decides.
-- That order of faults is this project's own.
use Rattle.std.specs.Prelude.{◌≡◌, ℕ, ◌+◌, Bool, true, false, List, [], ◌∷◌, Option, Some, None}
use Rattle.std.specs.Prelude.{Result, Ok, Err}
use Rattle.td_text.specs.Lines.{on_ok}
use Rattle.td_stanza.specs.Field.{Entry}
use Rattle.td_relation.specs.Arch.{ArchWords}
use Rattle.td_indices.specs.declared.archive_fault.IndexFile.{IndexFile}
use Rattle.td_indices.specs.declared.archive_fault.IndexFile.TheVariants.{Packages, Sources}
use Rattle.td_indices.specs.declared.archive_fault.EntryFault.{EntryFault}
use Rattle.td_indices.specs.declared.archive_fault.EntryFault.TheVariants as entry
use Rattle.td_indices.specs.declared.archive_fault.ArchiveFault.{ArchiveFault}
use Rattle.td_indices.specs.declared.archive_fault.ArchiveFault.TheVariants as archive
use Rattle.td_indices.specs.Kept.{KeptBinary, binary_at, same_package, lower_package, put}
use Rattle.td_indices.specs.Sources.{KeptSource, kept_source_at, same_source, lower_source}

-- the fault of the stanza with this number, from 0; it is named by its number from 1
abbrev pub at_stanza : IndexFile → ℕ → EntryFault → ArchiveFault
at_stanza file number (entry.Missing field) = archive.MissingField file (number + 1) field
at_stanza file number (entry.BadVersion field) = archive.BadVersion file (number + 1) field
at_stanza file number (entry.BadRelation field) = archive.BadRelation file (number + 1) field
at_stanza file number entry.NoMemory = archive.NoMemory

-- what is read of the stanza with this number in a file, or the stanza's fault
abbrev pub in_stanza : {A : Type 0} → IndexFile → ℕ → Result A EntryFault → Result A ArchiveFault
in_stanza file number (Ok x) = Ok x
in_stanza file number (Err fault) = Err (at_stanza file number fault)

-- a step takes the number of a stanza, what was kept before it, and the stanza; over stanzas, the
-- first fault decides
unfoldable pub over_stanzas : {S F : Type 0} → (ℕ → S → List Entry → Result S F) → ℕ → S
    → List (List Entry) → Result S F
over_stanzas step number seen [] = Ok seen
over_stanzas step number seen (stanza ∷ stanzas) =
    on_ok (step number seen stanza) (λ more. over_stanzas step (number + 1) more stanzas)

-- what is kept with a stanza's item, if there is one
abbrev pub put_some : {A : Type 0} → (A → A → Bool) → (A → A → Bool) → List A → Option A → List A
put_some same lower seen None = seen
put_some same lower seen (Some x) = put same lower seen x

-- the binary packages so far with a stanza
abbrev pub binary_step : List ArchWords → ℕ → List KeptBinary → List Entry
    → Result (List KeptBinary) ArchiveFault
binary_step table number seen fields =
    on_ok (in_stanza Packages number (binary_at table number fields))
    (λ b. Ok (put_some same_package lower_package seen b))

-- the binary packages that stanzas of Packages keep
abbrev pub binaries_at : List ArchWords → List (List Entry) → Result (List KeptBinary) ArchiveFault
binaries_at table stanzas = over_stanzas (binary_step table) 0 [] stanzas

-- the sources so far with a stanza
abbrev pub source_step : ℕ → List KeptSource → List Entry → Result (List KeptSource) ArchiveFault
source_step number seen fields =
    on_ok (in_stanza Sources number (kept_source_at number fields))
    (λ s. Ok (put_some same_source lower_source seen s))

-- the sources that stanzas of Sources keep
abbrev pub sources_at : List (List Entry) → Result (List KeptSource) ArchiveFault
sources_at stanzas = over_stanzas source_step 0 [] stanzas

-- whether a fault is that memory ran out
abbrev pub is_want : ArchiveFault → Bool
is_want archive.NoMemory = true
is_want fault = false

-- a fault is the reading's, unless it is that memory ran out
abbrev pub IsFaultOf : {A : Type 0} → Result A ArchiveFault → ArchiveFault → Type 0
IsFaultOf read fault = is_want fault ≡ false → read ≡ Err fault

-- whether a fault is one of what a stanza says, or that memory ran out
abbrev pub is_entry : ArchiveFault → Bool
is_entry (archive.Stanza file fault) = false
is_entry (archive.MissingField file number field) = true
is_entry (archive.BadVersion file number field) = true
is_entry (archive.BadRelation file number field) = true
is_entry archive.TooManyRows = false
is_entry archive.NoMemory = true
