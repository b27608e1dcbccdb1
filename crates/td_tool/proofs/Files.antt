-- Checks end as they say by what was read of the files.
use Rattle.std.proofs.Common.{◌≡◌, ℕ, Bool, List, Option, Some, IfSome, Result, Ok, Err, IfOk}
use Rattle.std.proofs.Common.{IfErr, string_bytes, ap, inl, inr, sym, subst, ◌∙◌}
use Rattle.std.specs.Io.KnownBytes.{Keeps}
use Rattle.td_bytes.specs.declared.text.TextFault.{TextFault}
use Rattle.td_bytes.specs.declared.text.TextFault.TheVariants as text
use Rattle.td_text.specs.Lines.{lines_of}
use Rattle.td_relation.specs.Arch.{ArchWords}
use Rattle.td_relation.specs.TableFile.{IsTable}
use Rattle.td_relation.specs.TableFile as table_file
use Rattle.td_relation.specs.declared.archs.ArchsFault.{ArchsFault}
use Rattle.td_relation.specs.declared.archs.ArchsFault.TheVariants as table
use Rattle.td_indices.specs.Archive.{Contents}
use Rattle.td_indices.specs.Archive as archive_file
use Rattle.td_indices.specs.declared.archive_fault.ArchiveFault.{ArchiveFault}
use Rattle.td_indices.specs.declared.archive_fault.ArchiveFault.TheVariants as archive
use Rattle.td_tool.specs.declared.early_texts.EarlyTexts.{EarlyTexts}
use Rattle.td_tool.specs.declared.file_texts.FileFault.{FileFault}
use Rattle.td_inputs.specs.declared.role.Role.{Role}
use Rattle.td_inputs.specs.declared.role.Role.TheVariants.{Input, Archs, Packages, Sources, State}
use Rattle.td_inputs.specs.declared.role.Role.TheVariants.{Tracker, Outcomes, Journal}
use Rattle.td_tool.specs.declared.input_fault.InputFault.{InputFault}
use Rattle.td_tool.specs.declared.input_fault.InputFault.TheVariants.{TooLong, NotText, Simulation}
use Rattle.td_tool.specs.declared.input_fault.InputFault.TheVariants.{BadOutcome, DeskFile, Form}
use Rattle.td_inputs.specs.declared.form_fault.FormFault.TheVariants as form
use Rattle.td_tool.specs.declared.ending.Ending.{Ending}
use Rattle.td_tool.specs.declared.ending.Ending.TheVariants.{Done, Refused, BadInput, NoMemory}
use Rattle.td_tool.specs.declared.ending.Ending.TheVariants.{CannotRead, CannotWrite}
use Rattle.td_tool.specs.declared.ending.Ending.TheVariants.{Locked, CannotKeep}
use Rattle.td_tool.specs.Ending.{ending_of_file}
use Rattle.td_tool.specs.Counted.{IsArchiveOf, check_text, cut_in}
use Rattle.td_tool.specs.Checks.{Files, IsTextOf, IsArchiveIn, IsKnownArchive, IsNoText, HasFailed}
use Rattle.td_tool.specs.Checks.{HasFileFault, CheckSays, Checks, HasArchiveFault, HasTableFault}
use Rattle.td_tool.specs.Checks.{EndsCounted, known_text}
use Rattle.td_tool.specs.CheckInside.{AreFlags, HasFailedIn, IsNoArchive, TextsEnd, TextsSay}
use Rattle.td_tool.specs.TrackInside.{AreEarlyTextsIn}
use Rattle.td_tool.specs.CheckInside.{FileTextsEnd, FileUnread}

-- ---- one file

-- a known text is the one that was read
same_text : (known : Option (List ℕ)) (all text : List ℕ) → known ≡ Some all → IsTextOf known text
    → all ≡ text
same_text known all text is of = subst (λ o. IfSome o (λ x. x ≡ text)) is of.whole

-- ---- a file that wasn't read

-- a file of an archive is a text
no_such_text : (files : Files) (role : Role) (c : Contents) → HasFailed files role text.NotText
    → IsKnownArchive files c → ⊥
no_such_text files Input c failed known = failed.before
no_such_text files Archs c failed known =
    (subst IsNoText known.known_archs failed.fits).1 known.archs_text.1
no_such_text files Packages c failed known =
    (subst IsNoText known.known_packages failed.fits).1 known.packages_text.1
no_such_text files State c failed known = failed.before
no_such_text files Tracker c failed known = failed.before
no_such_text files Outcomes c failed known = failed.before
no_such_text files Journal c failed known = failed.before
no_such_text files Sources c failed known =
    (subst IsNoText known.known_sources failed.fits).1 known.sources_text.1

unread : (details : Bool) (files : Files) (old new : Option (List ℕ)) (role : Role) (e : TextFault)
    → HasFailed files role e → Keeps old new
    → Checks details files old new (ending_of_file role e)
unread details files old new role text.CannotRead failed kept =
    record { says = (inl failed, kept); only = λ c known. kept }
unread details files old new role text.TooLong failed kept =
    record { says = (inr failed, kept); only = λ c known. kept }
unread details files old new role text.NotText failed kept =
    record { says = (failed, kept); only = λ c known. no_such_text files role c failed known }
unread details files old new role text.NoMemory failed kept =
    record { says = kept; only = λ c known. kept }

-- ---- three texts

table_fault : (files : Files) (t : EarlyTexts) (e : ArchsFault) → AreEarlyTextsIn files t
    → table_file.FaultOf (lines_of (string_bytes t.archs)) e → HasTableFault files e
table_fault files t e texts is = record {
  archs = string_bytes t.archs;
  packages = t.packages;
  sources = t.sources;
  texts = texts;
  fault = is;
}

archive_fault : (files : Files) (t : EarlyTexts) (e : ArchiveFault) → AreEarlyTextsIn files t
    → (ws : List ArchWords) × IsTable (lines_of (string_bytes t.archs)) ws
    × archive_file.FaultOf ws (lines_of t.packages)
    (lines_of t.sources) e → HasArchiveFault files e
archive_fault files t e texts is = record {
  archs = string_bytes t.archs;
  packages = t.packages;
  sources = t.sources;
  texts = texts;
  archs_table = is.0;
  is_table = is.1;
  fault = is.2;
}

has_fault : (files : Files) (t : EarlyTexts) (role : Role) (e : InputFault)
    → AreEarlyTextsIn files t
    → IsNoArchive (string_bytes t.archs) t.packages t.sources (BadInput role e)
    → HasFileFault files role e
has_fault files t role TooLong texts is = absurd is
has_fault files t role NotText texts is = absurd is
has_fault files t role (Simulation e) texts is = absurd is
has_fault files t role (Form (form.Table (table.BadLine n))) texts is =
    (is.0, table_fault files t (table.BadLine n) texts is.1)
has_fault files t role (Form (form.Table (table.Twice n))) texts is =
    (is.0, table_fault files t (table.Twice n) texts is.1)
has_fault files t role (Form (form.Table table.TooMany)) texts is =
    (is.0, table_fault files t table.TooMany texts is.1)
has_fault files t role (Form (form.Table table.NoMemory)) texts is = absurd is
has_fault files t role (Form (form.Archive (archive.Stanza f e))) texts is =
    (is.0, archive_fault files t (archive.Stanza f e) texts is.1)
has_fault files t role (Form (form.Archive (archive.MissingField f n field))) texts is =
    (is.0, archive_fault files t (archive.MissingField f n field) texts is.1)
has_fault files t role (Form (form.Archive (archive.BadVersion f n field))) texts is =
    (is.0, archive_fault files t (archive.BadVersion f n field) texts is.1)
has_fault files t role (Form (form.Archive (archive.BadRelation f n field))) texts is =
    (is.0, archive_fault files t (archive.BadRelation f n field) texts is.1)
has_fault files t role (Form (form.Archive archive.TooManyRows)) texts is =
    (is.0, archive_fault files t archive.TooManyRows texts is.1)
has_fault files t role (Form (form.Archive archive.NoMemory)) texts is = absurd is
has_fault files t role (Form (form.State e)) texts is = absurd is
has_fault files t role (Form (form.NoSuchRow n)) texts is = absurd is
has_fault files t role (Form (form.Tracker e)) texts is = absurd is
has_fault files t role (BadOutcome n) texts is = absurd is
has_fault files t role (DeskFile e) texts is = absurd is
has_fault files t role (Form (form.Journal e)) texts is = absurd is

abbrev archive_in : (files : Files) (t : EarlyTexts) (c : Contents) → AreEarlyTextsIn files t
    → IsArchiveOf (string_bytes t.archs) t.packages t.sources c
    → IsArchiveIn files c
archive_in files t c texts is =
    record {
      archs = string_bytes t.archs;
      packages = t.packages;
      sources = t.sources;
      texts = texts;
      archive = is;
    }

check_says : (details : Bool) (files : Files) (t : EarlyTexts) (old new : Option (List ℕ))
    (ending : Ending) → AreEarlyTextsIn files t
    → TextsSay (check_text details (cut_in t.packages t.sources)) (string_bytes t.archs) t.packages
    t.sources old new ending → CheckSays details files old new ending
check_says details files t old new Done texts says =
    (says.0, archive_in files t says.0 texts says.1, says.2)
check_says details files t old new Refused texts says = says
check_says details files t old new (BadInput role e) texts says =
    (has_fault files t role e texts says.0, says.1)
check_says details files t old new NoMemory texts says = says
check_says details files t old new (CannotRead role) texts says = absurd says
check_says details files t old new CannotWrite texts says =
    (says.0, archive_in files t says.0 texts says.1, says.2)
check_says details files t old new Locked texts says = says
check_says details files t old new CannotKeep texts says = says

-- the archive that is known is the one that was read
archive_read : (files : Files) (t : EarlyTexts) (c : Contents) → AreEarlyTextsIn files t
    → IsKnownArchive files c
    → IsArchiveOf (string_bytes t.archs) t.packages t.sources c
archive_read files t c texts known =
    let of_archs = subst (λ a. IsArchiveOf a known.packages known.sources c)
    (same_text files.in_archs known.archs (string_bytes t.archs) known.known_archs texts.archs_text)
    known.archive in
    let of_packages = subst (λ p. IsArchiveOf (string_bytes t.archs) p known.sources c)
    (same_text files.in_packages known.packages t.packages known.known_packages
    texts.packages_text) of_archs in
    subst (λ s. IsArchiveOf (string_bytes t.archs) t.packages s c)
    (same_text files.in_sources known.sources t.sources known.known_sources
    texts.sources_text) of_packages

-- what is said of the archive that is known is what was said of the one that was read
text_read : (details : Bool) (files : Files) (t : EarlyTexts) (c : Contents)
    → AreEarlyTextsIn files t → (known : IsKnownArchive files c)
    → check_text details (cut_in t.packages t.sources) c ≡ known_text details files c known
text_read details files t c texts known =
    sym (ap (λ p. check_text details (cut_in p known.sources) c)
    (same_text files.in_packages known.packages t.packages known.known_packages
    texts.packages_text)
    ∙ ap (λ s. check_text details (cut_in t.packages s) c)
    (same_text files.in_sources known.sources t.sources known.known_sources texts.sources_text))

-- ---- the whole

pub checks : (details : Bool) (files : Files) (old new : Option (List ℕ))
    (r : Result EarlyTexts FileFault) (ending : Ending) → IfOk r (AreEarlyTextsIn files)
    → IfOk r AreFlags
    → IfErr r (HasFailedIn files) → IfOk r (λ t. FileTextsEnd details t old new ending)
    → IfErr r (λ f. FileUnread f old new ending)
    → Checks details files old new ending
checks details files old new (Ok t) ending texts flags failed ends none =
    let told = subst (λ cut. TextsEnd (check_text details cut) (string_bytes t.archs) t.packages
    t.sources old new ending) flags ends in
    record {
      says = check_says details files t old new ending texts told.says;
      only = λ c known.
          subst (λ text. EndsCounted text old new ending)
          (text_read details files t c texts known)
          (told.only c (archive_read files t c texts known));
    }
checks details files old new (Err f) ending texts flags failed ends none =
    subst (Checks details files old new) (sym none.ends)
    (unread details files old new f.role f.fault failed none.kept)
