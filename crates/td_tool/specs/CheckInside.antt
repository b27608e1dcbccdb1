-- What the inner functions of a check answer. This project's own.
use Rattle.std.specs.Prelude.{◌≡◌, ℕ, ◌≤◌, List, [], length, Option, None, Result, IfOk, IfErr}
use Rattle.std.specs.Prelude.{Bool, MatchResult, String, string_bytes}
use Rattle.std.specs.declared.alloc.Global.{Global}
use Rattle.std.specs.Io.KnownBytes.{Appends, Keeps}
use Rattle.td_bytes.specs.Pieces.{AppendsPrefix}
use Rattle.td_text.specs.Lines.{lines_of}
use Rattle.td_relation.specs.Arch.{ArchWords}
use Rattle.td_relation.specs.TableFile.{IsTable}
use Rattle.td_relation.specs.TableFile as table_file
use Rattle.td_relation.specs.declared.archs.ArchsFault.TheVariants as table
use Rattle.td_indices.specs.Archive.{Contents}
use Rattle.td_indices.specs.Archive as archive_file
use Rattle.td_indices.specs.declared.archive_fault.ArchiveFault.TheVariants as archive
use Rattle.td_tool.specs.declared.early_texts.EarlyTexts.{EarlyTexts}
use Rattle.td_tool.specs.declared.file_texts.FileTexts.{FileTexts}
use Rattle.td_tool.specs.declared.file_texts.FileFault.{FileFault}
use Rattle.td_inputs.specs.declared.role.Role.TheVariants.{Archs}
use Rattle.td_inputs.specs.Faults.{role_of_archive}
use Rattle.td_inputs.specs.Inputs.{Texts}
use Rattle.td_tool.specs.declared.input_fault.InputFault.TheVariants.{TooLong, NotText, Simulation}
use Rattle.td_tool.specs.declared.input_fault.InputFault.TheVariants.{BadOutcome, DeskFile, Form}
use Rattle.td_inputs.specs.declared.form_fault.FormFault.TheVariants as form
use Rattle.td_tool.specs.declared.ending.Ending.{Ending}
use Rattle.td_tool.specs.declared.ending.Ending.TheVariants.{Done, Refused, BadInput, NoMemory}
use Rattle.td_tool.specs.declared.ending.Ending.TheVariants.{CannotRead, CannotWrite}
use Rattle.td_tool.specs.declared.ending.Ending.TheVariants.{Locked, CannotKeep}
use Rattle.td_tool.specs.Ending.{ending_of_file}
use Rattle.td_tool.specs.Counted.{IsArchiveOf, check_text, cut_in}
use Rattle.td_tool.specs.Limits.{file_limit}
use Rattle.td_tool.specs.Checks.{Files, AreTexts, EndsCounted, HasFailed}

-- ---- 1. the files

-- the texts that were read of the files
abbrev pub AreTextsIn : Files → FileTexts → Type 0
AreTextsIn files t =
    AreTexts files (string_bytes t.archs) (string_bytes t.packages) (string_bytes t.sources)

-- a file that wasn't read, for this
abbrev pub HasFailedIn : Files → FileFault → Type 0
HasFailedIn files f = HasFailed files f.role f.fault

-- the table's text is within the limit
abbrev pub IsWithin : EarlyTexts → Type 0
IsWithin t = length (string_bytes t.archs) ≤ file_limit

-- the texts that a check opens: an archive's, with nothing over it
abbrev pub texts_checked : List ℕ → List ℕ → List ℕ → Texts
texts_checked a p s = record {
  archs = a;
  packages = p;
  sources = s;
  state = None;
  tracker = None;
  journal = None;
  suite = [];
}

-- ---- 2. what is said

-- which of the indices may be cut off is what their texts say
abbrev pub AreFlags : EarlyTexts → Type 0
AreFlags t = t.cut ≡ cut_in t.packages t.sources

-- what is to be said of an archive
abbrev pub ArchiveText : Type 0
ArchiveText = Contents → List ℕ

-- that is said of the archive
abbrev pub Tells : ArchiveText → Contents → String Global → Type 0
Tells said c text = string_bytes text ≡ said c

-- the ending if three texts are no archive, or memory runs out
abbrev pub IsNoArchive : List ℕ → List ℕ → List ℕ → Ending → Type 0
IsNoArchive a p s Done = ⊥
IsNoArchive a p s Refused = ⊥
IsNoArchive a p s (BadInput role TooLong) = ⊥
IsNoArchive a p s (BadInput role NotText) = ⊥
IsNoArchive a p s (BadInput role (Simulation e)) = ⊥
IsNoArchive a p s (BadInput role (BadOutcome n)) = ⊥
IsNoArchive a p s (BadInput role (DeskFile e)) = ⊥
IsNoArchive a p s (BadInput role (Form (form.Table table.NoMemory))) = ⊥
IsNoArchive a p s (BadInput role (Form (form.Table e))) =
    (role ≡ Archs) × table_file.FaultOf (lines_of a) e
IsNoArchive a p s (BadInput role (Form (form.Archive archive.NoMemory))) = ⊥
IsNoArchive a p s (BadInput role (Form (form.Archive e))) =
    (role ≡ role_of_archive e)
    × ((t : List ArchWords) × IsTable (lines_of a) t
    × archive_file.FaultOf t (lines_of p) (lines_of s) e)
IsNoArchive a p s (BadInput role (Form (form.State e))) = ⊥
IsNoArchive a p s (BadInput role (Form (form.NoSuchRow n))) = ⊥
IsNoArchive a p s (BadInput role (Form (form.Tracker e))) = ⊥
IsNoArchive a p s (BadInput role (Form (form.Journal e))) = ⊥
IsNoArchive a p s NoMemory = Unit {0}
IsNoArchive a p s (CannotRead role) = ⊥
IsNoArchive a p s CannotWrite = ⊥
IsNoArchive a p s Locked = ⊥
IsNoArchive a p s CannotKeep = ⊥

-- what is said of three texts: an archive is counted, unless memory runs out
pub record IsCounted (said : ArchiveText) (a p s : List ℕ)
    (counted : Result (String Global) Ending) : Type 0 where
  pub found : IfOk counted (λ text. (c : Contents) × IsArchiveOf a p s c × Tells said c text)
  pub only : (c : Contents) → IsArchiveOf a p s c
      → MatchResult counted (Tells said c) (λ e. e ≡ NoMemory)
  pub refused : IfErr counted (IsNoArchive a p s)

-- ---- 3. what is written

-- this line is written so: whole, or a front of it if the writer failed
abbrev pub WritesSo : List ℕ → Option (List ℕ) → Option (List ℕ) → Ending → Type 0
WritesSo line old new Done = Appends old new line
WritesSo line old new Refused = ⊥
WritesSo line old new (BadInput role e) = ⊥
WritesSo line old new NoMemory = ⊥
WritesSo line old new (CannotRead role) = ⊥
WritesSo line old new CannotWrite = AppendsPrefix old new line
WritesSo line old new Locked = ⊥
WritesSo line old new CannotKeep = ⊥

-- a run ends so, and nothing is written
pub record EndsUnwritten (expected : Ending) (old new : Option (List ℕ))
    (ending : Ending) : Type 0 where
  pub ends : ending ≡ expected
  pub kept : Keeps old new

-- what an ending says of three texts: they were read, so no read has failed
abbrev pub TextsSay : ArchiveText → List ℕ → List ℕ → List ℕ → Option (List ℕ) → Option (List ℕ)
    → Ending → Type 0
TextsSay said a p s old new Done =
    (c : Contents) × IsArchiveOf a p s c × Appends old new (said c)
TextsSay said a p s old new Refused = ⊥
TextsSay said a p s old new (BadInput role e) =
    IsNoArchive a p s (BadInput role e) × Keeps old new
TextsSay said a p s old new NoMemory = Keeps old new
TextsSay said a p s old new (CannotRead role) = ⊥
TextsSay said a p s old new CannotWrite =
    (c : Contents) × IsArchiveOf a p s c × AppendsPrefix old new (said c)
TextsSay said a p s old new Locked = ⊥
TextsSay said a p s old new CannotKeep = ⊥

-- three texts end the check so: the ending is as it says, and an archive is counted unless a write
-- or memory fails
pub record TextsEnd (said : ArchiveText) (a p s : List ℕ) (old new : Option (List ℕ))
    (ending : Ending) : Type 0 where
  pub says : TextsSay said a p s old new ending
  pub only : (c : Contents) → IsArchiveOf a p s c → EndsCounted (said c) old new ending

-- the texts that were read from the three files end the check so
abbrev pub FileTextsEnd : Bool → EarlyTexts → Option (List ℕ) → Option (List ℕ) → Ending → Type 0
FileTextsEnd details t old new ending =
    TextsEnd (check_text details t.cut) (string_bytes t.archs) t.packages t.sources old new ending

-- a file wasn't read, for this
abbrev pub FileUnread : FileFault → Option (List ℕ) → Option (List ℕ) → Ending → Type 0
FileUnread f old new ending = EndsUnwritten (ending_of_file f.role f.fault) old new ending
