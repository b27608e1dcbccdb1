-- What a check leaves on standard output, as it ends. This project's own.
use Rattle.std.specs.Prelude.{◌≡◌, ◌⊎◌, ℕ, ◌≤◌, ◌<◌, Bool, true, false, List, length, Option, Some}
use Rattle.std.specs.Prelude.{None, IfSome, IsUtf8, string_bytes}
use Rattle.std.specs.Io.KnownBytes.{Appends, Keeps}
use Rattle.td_bytes.specs.Pieces.{AppendsPrefix}
use Rattle.td_bytes.specs.declared.text.TextFault.{TextFault}
use Rattle.td_bytes.specs.declared.text.TextFault.TheVariants as text_fault
use Rattle.td_text.specs.Lines.{lines_of}
use Rattle.td_relation.specs.Arch.{ArchWords}
use Rattle.td_relation.specs.TableFile.{IsTable}
use Rattle.td_relation.specs.TableFile as table_file
use Rattle.td_relation.specs.declared.archs.ArchsFault.{ArchsFault}
use Rattle.td_relation.specs.declared.archs.ArchsFault.TheVariants as table
use Rattle.td_indices.specs.Archive.{Contents}
use Rattle.td_indices.specs.Archive as archive_file
use Rattle.td_indices.specs.declared.archive_fault.ArchiveFault.{ArchiveFault}
use Rattle.td_indices.specs.declared.archive_fault.ArchiveFault.TheVariants as archive
use Rattle.td_words.specs.declared.request.ArchivePaths.{ArchivePaths}
use Rattle.td_tool.specs.Limits.{file_limit}
use Rattle.td_inputs.specs.declared.role.Role.{Role}
use Rattle.td_inputs.specs.declared.role.Role.TheVariants.{Input, Archs, Packages, Sources, State}
use Rattle.td_inputs.specs.declared.role.Role.TheVariants.{Tracker, Outcomes, Journal}
use Rattle.td_inputs.specs.Faults.{role_of_archive}
use Rattle.td_tool.specs.declared.input_fault.InputFault.{InputFault}
use Rattle.td_tool.specs.declared.input_fault.InputFault.TheVariants.{TooLong, NotText, Simulation}
use Rattle.td_tool.specs.declared.input_fault.InputFault.TheVariants.{BadOutcome, DeskFile, Form}
use Rattle.td_inputs.specs.declared.form_fault.FormFault.TheVariants as form
use Rattle.td_tool.specs.declared.ending.Ending.{Ending}
use Rattle.td_tool.specs.declared.ending.Ending.TheVariants.{Done, Refused, BadInput, NoMemory}
use Rattle.td_tool.specs.declared.ending.Ending.TheVariants.{CannotRead, CannotWrite}
use Rattle.td_tool.specs.declared.ending.Ending.TheVariants.{Locked, CannotKeep}
use Rattle.td_tool.specs.Counted.{IsArchiveOf, check_text, cut_in}

-- ---- 1. what is read

-- the bytes of the three files, if they are known, and for which faults a read of each may fail
pub record Files : Type 0 where
  pub in_archs : Option (List ℕ)
  pub in_packages : Option (List ℕ)
  pub in_sources : Option (List ℕ)
  pub can_fail : Role → TextFault → Bool

-- for which faults a read of the file of a role may fail; no other is read
abbrev pub failing : (List ℕ → TextFault → Bool) → List ℕ → List ℕ → List ℕ → Role → TextFault
    → Bool
failing can_fail archs packages sources Input fault = false
failing can_fail archs packages sources Archs fault = can_fail archs fault
failing can_fail archs packages sources Packages fault = can_fail packages fault
failing can_fail archs packages sources Sources fault = can_fail sources fault
failing can_fail archs packages sources State fault = false
failing can_fail archs packages sources Tracker fault = false
failing can_fail archs packages sources Outcomes fault = false
failing can_fail archs packages sources Journal fault = false

-- the files of three paths
abbrev pub files_of : (List ℕ → Option (List ℕ)) → (List ℕ → TextFault → Bool) → List ℕ → List ℕ
    → List ℕ → Files
files_of bytes can_fail archs packages sources =
    record {
      in_archs = bytes archs;
      in_packages = bytes packages;
      in_sources = bytes sources;
      can_fail = failing can_fail archs packages sources;
    }

-- the files that the words name
abbrev pub archive_files_at : (List ℕ → Option (List ℕ)) → (List ℕ → TextFault → Bool)
    → ArchivePaths → Files
archive_files_at bytes can_fail p =
    files_of bytes can_fail (string_bytes p.archs) (string_bytes p.packages)
    (string_bytes p.sources)

-- the bytes of the file of a role, if they are known
abbrev pub known_of : Files → Role → Option (List ℕ)
known_of files Input = None
known_of files Archs = files.in_archs
known_of files Packages = files.in_packages
known_of files Sources = files.in_sources
known_of files State = None
known_of files Tracker = None
known_of files Outcomes = None
known_of files Journal = None

-- a text that is read from a file: within the limit, and UTF-8
abbrev pub IsFileText : List ℕ → Type 0
IsFileText text = (length text ≤ file_limit) × IsUtf8 text

-- a file with these bytes, if they are known, has this text
pub record IsTextOf (known : Option (List ℕ)) (text : List ℕ) : Type 0 where
  pub whole : IfSome known (λ all. all ≡ text)
  pub read : IsFileText text

-- the texts of the three files
pub record AreTexts (files : Files) (archs packages sources : List ℕ) : Type 0 where
  pub archs_text : IsTextOf files.in_archs archs
  pub packages_text : IsTextOf files.in_packages packages
  pub sources_text : IsTextOf files.in_sources sources

-- the archive that the three files are
pub record IsArchiveIn (files : Files) (c : Contents) : Type 0 where
  pub archs : List ℕ
  pub packages : List ℕ
  pub sources : List ℕ
  pub texts : AreTexts files archs packages sources
  pub archive : IsArchiveOf archs packages sources c

-- ---- 2. what is wrong

-- the files that are read before the one of a role are texts; a check reads nothing else
abbrev pub AreTextsBefore : Files → Role → Type 0
AreTextsBefore files Input = ⊥
AreTextsBefore files Archs = Unit {0}
AreTextsBefore files Packages = (archs : List ℕ) × IsTextOf files.in_archs archs
AreTextsBefore files State = ⊥
AreTextsBefore files Tracker = ⊥
AreTextsBefore files Outcomes = ⊥
AreTextsBefore files Journal = ⊥
AreTextsBefore files Sources =
    (archs : List ℕ) × (packages : List ℕ) × IsTextOf files.in_archs archs
    × IsTextOf files.in_packages packages

-- bytes within the limit that are no text
abbrev pub IsNoText : Option (List ℕ) → Type 0
IsNoText known = IfSome known (λ all. (length all ≤ file_limit) × ¬ IsUtf8 all)

-- more bytes than the limit
abbrev pub IsTooLong : Option (List ℕ) → Type 0
IsTooLong known = IfSome known (λ all. file_limit < length all)

-- what a fault of reading says of the bytes
abbrev pub FaultFits : Option (List ℕ) → TextFault → Type 0
FaultFits known text_fault.CannotRead = Unit {0}
FaultFits known text_fault.TooLong = IsTooLong known
FaultFits known text_fault.NotText = IsNoText known
FaultFits known text_fault.NoMemory = Unit {0}

-- a read of the file of a role fails so: it may, and those that are read before it are texts
pub record HasFailed (files : Files) (role : Role) (fault : TextFault) : Type 0 where
  pub before : AreTextsBefore files role
  pub may : files.can_fail role fault ≡ true
  pub fits : FaultFits (known_of files role) fault

-- the file of a role can't be read, or is too long to be
abbrev pub IsUnreadable : Files → Role → Type 0
IsUnreadable files role =
    HasFailed files role text_fault.CannotRead ⊎ HasFailed files role text_fault.TooLong

-- all three files are texts, and the first is no table, for this
pub record HasTableFault (files : Files) (e : ArchsFault) : Type 0 where
  pub archs : List ℕ
  pub packages : List ℕ
  pub sources : List ℕ
  pub texts : AreTexts files archs packages sources
  pub fault : table_file.FaultOf (lines_of archs) e

-- all three files are texts, the first is a table, and with it the others are no archive, for this
pub record HasArchiveFault (files : Files) (e : ArchiveFault) : Type 0 where
  pub archs : List ℕ
  pub packages : List ℕ
  pub sources : List ℕ
  pub texts : AreTexts files archs packages sources
  pub archs_table : List ArchWords
  pub is_table : IsTable (lines_of archs) archs_table
  pub fault : archive_file.FaultOf archs_table (lines_of packages) (lines_of sources) e

-- the file of this role is refused for this
abbrev pub HasFileFault : Files → Role → InputFault → Type 0
HasFileFault files role TooLong = ⊥
HasFileFault files role NotText = HasFailed files role text_fault.NotText
HasFileFault files role (Simulation e) = ⊥
HasFileFault files role (BadOutcome n) = ⊥
HasFileFault files role (DeskFile e) = ⊥
HasFileFault files role (Form (form.Table table.NoMemory)) = ⊥
HasFileFault files role (Form (form.Table e)) = (role ≡ Archs) × HasTableFault files e
HasFileFault files role (Form (form.Archive archive.NoMemory)) = ⊥
HasFileFault files role (Form (form.State e)) = ⊥
HasFileFault files role (Form (form.NoSuchRow n)) = ⊥
HasFileFault files role (Form (form.Tracker e)) = ⊥
HasFileFault files role (Form (form.Journal e)) = ⊥
HasFileFault files role (Form (form.Archive e)) =
    (role ≡ role_of_archive e) × HasArchiveFault files e

-- ---- 3. how it ends

-- what is said of the archive that the files are, with details or without
abbrev pub text_in : (details : Bool) (files : Files) (c : Contents) → IsArchiveIn files c → List ℕ
text_in details files c is = check_text details (cut_in is.packages is.sources) c

-- what an ending says of the files and of what is written, with details or without: what is said
-- of the archive, or a front of it if the writer failed, or nothing if a file, a read or memory did
abbrev pub CheckSays : Bool → Files → Option (List ℕ) → Option (List ℕ) → Ending → Type 0
CheckSays details files old new Done =
    (c : Contents) × (is : IsArchiveIn files c) × Appends old new (text_in details files c is)
CheckSays details files old new Refused = ⊥
CheckSays details files old new (BadInput role e) = HasFileFault files role e × Keeps old new
CheckSays details files old new NoMemory = Keeps old new
CheckSays details files old new (CannotRead role) = IsUnreadable files role × Keeps old new
CheckSays details files old new CannotWrite =
    (c : Contents) × (is : IsArchiveIn files c)
    × AppendsPrefix old new (text_in details files c is)
CheckSays details files old new Locked = ⊥
CheckSays details files old new CannotKeep = ⊥

-- all three files are known, and are this archive
pub record IsKnownArchive (files : Files) (c : Contents) : Type 0 where
  pub archs : List ℕ
  pub packages : List ℕ
  pub sources : List ℕ
  pub known_archs : files.in_archs ≡ Some archs
  pub known_packages : files.in_packages ≡ Some packages
  pub known_sources : files.in_sources ≡ Some sources
  pub archs_text : IsFileText archs
  pub packages_text : IsFileText packages
  pub sources_text : IsFileText sources
  pub archive : IsArchiveOf archs packages sources c

-- what is said of it, with details or without
abbrev pub known_text : (details : Bool) (files : Files) (c : Contents) → IsKnownArchive files c
    → List ℕ
known_text details files c known =
    check_text details (cut_in known.packages known.sources) c

-- how a check of an archive, of which this text is said, may end
abbrev pub EndsCounted : List ℕ → Option (List ℕ) → Option (List ℕ) → Ending → Type 0
EndsCounted text old new Done = Appends old new text
EndsCounted text old new Refused = ⊥
EndsCounted text old new (BadInput role e) = ⊥
EndsCounted text old new NoMemory = Keeps old new
EndsCounted text old new (CannotRead role) = Keeps old new
EndsCounted text old new CannotWrite = AppendsPrefix old new text
EndsCounted text old new Locked = ⊥
EndsCounted text old new CannotKeep = ⊥

-- a check of these files ends so, with details or without: the ending is as it says, and an archive
-- is counted unless a write, memory or a read of a file fails
pub record Checks (details : Bool) (files : Files) (old new : Option (List ℕ))
    (ending : Ending) : Type 0 where
  pub says : CheckSays details files old new ending
  pub only : (c : Contents) (known : IsKnownArchive files c)
      → EndsCounted (known_text details files c known) old new ending
