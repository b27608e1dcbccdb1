-- What is wanted in the place of what is refused: a sentence for each fault, for people. This
-- project's own; want of memory is told otherwise.
use Rattle.std.specs.Prelude.{ℕ, List, [], codes}
use Rattle.td_stanza.specs.declared.fault.StanzaFault.{StanzaFault}
use Rattle.td_stanza.specs.declared.fault.StanzaFault.TheVariants as stanza
use Rattle.td_relation.specs.declared.archs.ArchsFault.{ArchsFault}
use Rattle.td_relation.specs.declared.archs.ArchsFault.TheVariants as table
use Rattle.td_indices.specs.declared.archive_fault.ArchiveFault.{ArchiveFault}
use Rattle.td_indices.specs.declared.archive_fault.ArchiveFault.TheVariants as archive
use Rattle.td_indices.specs.declared.archive_fault.IndexField.{IndexField}
use Rattle.td_indices.specs.declared.archive_fault.IndexField.TheVariants as field
use Rattle.td_indices.specs.declared.archive_fault.VersionField.{VersionField}
use Rattle.td_indices.specs.declared.archive_fault.VersionField.TheVariants as version
use Rattle.td_indices.specs.declared.archive_fault.RelationField.{RelationField}
use Rattle.td_indices.specs.declared.archive_fault.RelationField.TheVariants as relation
use Rattle.td_rows.specs.declared.state_file.StateFault.{StateFault}
use Rattle.td_rows.specs.declared.state_file.StateFault.TheVariants as state
use Rattle.td_query.specs.declared.tracker_fault.TrackerFault.{TrackerFault}
use Rattle.td_query.specs.declared.tracker_fault.TrackerFault.TheVariants as tracker
use Rattle.td_query.specs.declared.tracker_fault.TrackerKey.{TrackerKey}
use Rattle.td_query.specs.declared.tracker_fault.TrackerKey.TheVariants as key
use Rattle.td_journal.specs.declared.journal_fault.ReadError.{ReadError}
use Rattle.td_journal.specs.declared.journal_fault.ReadError.TheVariants as journal
use Rattle.td_simulate.specs.declared.fault.SimulationFault.{SimulationFault}
use Rattle.td_simulate.specs.declared.fault.SimulationFault.TheVariants as simulation
use Rattle.td_inputs.specs.declared.form_fault.FormFault.{FormFault}
use Rattle.td_inputs.specs.declared.form_fault.FormFault.TheVariants as form
use Rattle.td_explain.specs.declared.flaw.ArchFlaw.{ArchFlaw}
use Rattle.td_explain.specs.declared.flaw.ArchFlaw.TheVariants as flaw
use Rattle.td_explain.specs.declared.stray.Stray.{Stray}
use Rattle.td_explain.specs.declared.stray.Stray.TheVariants as stray
use Rattle.td_explain.specs.ArchFlaw.{flaw_at}
use Rattle.td_explain.specs.Stray.{stray_at}
use Rattle.td_tool.specs.declared.cause.Cause.{Cause}
use Rattle.td_tool.specs.declared.cause.Cause.TheVariants as cause
use Rattle.td_tool.specs.DeskFaults.{wanted_desk_file}
use Rattle.td_tool.specs.declared.input_fault.InputFault.{InputFault}
use Rattle.td_tool.specs.declared.input_fault.InputFault.TheVariants.{TooLong, NotText, Simulation}
use Rattle.td_tool.specs.declared.input_fault.InputFault.TheVariants.{BadOutcome, DeskFile, Form}

-- what is wanted of the rows of a state file, or of the opening rows
abbrev pub wanted_state : StateFault → List ℕ
wanted_state (state.BadLine n) = codes "a row, as KEY STATE PRIORITY NUMBER"
wanted_state (state.Twice n) = codes "a key that no line above has"
wanted_state (state.NotOpening n) = codes "a state other than Building"
wanted_state state.TooManyRows = codes "at most 1048576 rows"
wanted_state state.NoMemory = []

-- what is wanted of a simulation
abbrev pub wanted_simulation : SimulationFault → List ℕ
wanted_simulation (simulation.Opening e) = wanted_state e
wanted_simulation (simulation.BadStep n) = codes "a step, as docs/FORMATS.md lists them"
wanted_simulation simulation.NoMemory = []

-- what is wanted of a line of a table of architectures, by what is wrong with it
abbrev pub wanted_arch : ArchFlaw → List ℕ
wanted_arch flaw.Words = codes "an architecture, as NAME OS CPU"
wanted_arch flaw.Reserved = codes "a name other than all, any and source"
wanted_arch flaw.Name =
    codes "a name of small letters, digits and hyphens: no hyphen first, no any at either end"
wanted_arch flaw.Os =
    codes "an operating system of small letters and digits after one space, and not any"
wanted_arch flaw.Cpu = codes "a processor of small letters and digits after one space, and not any"
wanted_arch flaw.Nothing = codes "an architecture, as NAME OS CPU"

-- what is wanted of a table of architectures, which is this text
abbrev pub wanted_table : ArchsFault → List ℕ → List ℕ
wanted_table (table.BadLine n) text = wanted_arch (flaw_at n text)
wanted_table (table.Twice n) text = codes "a name that no line above has"
wanted_table table.TooMany text = codes "at most 32 architectures"
wanted_table table.NoMemory text = []

-- what is wanted of the lines of a control file
abbrev pub wanted_stanza : StanzaFault → List ℕ
wanted_stanza (stanza.BadName n) = codes "a field, as NAME: VALUE"
wanted_stanza (stanza.NoColon n) = codes "a colon behind the name of the field"
wanted_stanza (stanza.ContinuationFirst n) =
    codes "a field, since none is above that could go on here"
wanted_stanza (stanza.Duplicate n) = codes "a field that the stanza has not yet"
wanted_stanza stanza.NoMemory = []

-- what is wanted of a stanza that lacks a field, or has one that names nothing
abbrev pub wanted_field : IndexField → List ℕ
wanted_field field.Package = codes "a field Package that names a package"
wanted_field field.Version = codes "a field Version"
wanted_field field.Architecture = codes "a field Architecture"
wanted_field field.Source = codes "a field Source that names a package"

-- what is wanted of a stanza with a version that can't be read
abbrev pub wanted_version : VersionField → List ℕ
wanted_version version.Version = codes "a version in Version as deb-version(7) has it"
wanted_version version.Source =
    codes "a version in the brackets of Source as deb-version(7) has it"

-- what is wanted of a stanza with a relation that can't be read
abbrev pub wanted_relation : RelationField → List ℕ
wanted_relation relation.Depends = codes "a relation in Depends as Debian Policy 7.1 has it"
wanted_relation relation.PreDepends = codes "a relation in Pre-Depends as Debian Policy 7.1 has it"
wanted_relation relation.Provides = codes "a relation in Provides as Debian Policy 7.1 has it"
wanted_relation relation.BuildDepends =
    codes "a relation in Build-Depends as Debian Policy 7.1 has it"
wanted_relation relation.BuildDependsArch =
    codes "a relation in Build-Depends-Arch as Debian Policy 7.1 has it"

-- what is wanted of an index
abbrev pub wanted_archive : ArchiveFault → List ℕ
wanted_archive (archive.Stanza f e) = wanted_stanza e
wanted_archive (archive.MissingField f n field) = wanted_field field
wanted_archive (archive.BadVersion f n field) = wanted_version field
wanted_archive (archive.BadRelation f n field) = wanted_relation field
wanted_archive archive.TooManyRows = codes "at most 1048576 rows"
wanted_archive archive.NoMemory = []

-- what is wanted of a tracker that lacks a key
abbrev pub wanted_key : TrackerKey → List ℕ
wanted_key key.IsAffected = codes "a key is_affected"
wanted_key key.IsGood = codes "a key is_good"
wanted_key key.IsBad = codes "a key is_bad"

-- what is wanted at the first byte that nothing can take, by what comes there: docs/GUIDE.md has
-- the forms of ben's trackers that aren't read here
abbrev pub wanted_syntax : Stray → List ℕ
wanted_syntax stray.End =
    codes "a ; after each value, also the last, and an end of each text, pattern and bracket"
wanted_syntax stray.AfterSlash =
    codes "nothing right after a pattern: its flag is (?i) at its front, a slash within it \\/"
wanted_syntax stray.AfterQuote =
    codes "other quotes within a text: the first \" ends it, also after a backslash"
wanted_syntax stray.List =
    codes "no list: a test for each name, with | between, or no key architectures"
wanted_syntax stray.Apostrophe = codes "a text in \""
wanted_syntax stray.Comparison =
    codes "no comparison: a pattern on .version, or .depends ~ /liba1 \\(>= 3\\./"
wanted_syntax stray.Joint = codes "one & or | between two queries"
wanted_syntax stray.Source = codes ".directory ~ /./, a field that only Sources stanzas have"
wanted_syntax stray.Word = codes "& for and, | for or, ! for not"
wanted_syntax stray.Other =
    codes "a key and its query, as docs/FORMATS.md has trackers; at most 100 ( and ! are open"

-- what is wanted of a tracker, which is this text
abbrev pub wanted_tracker : TrackerFault → List ℕ → List ℕ
wanted_tracker (tracker.Syntax at) text = wanted_syntax (stray_at at text)
wanted_tracker (tracker.MissingKey k) text = wanted_key k
wanted_tracker (tracker.BadPattern at) text =
    codes "a pattern that regex takes: no look-around, back reference or open bracket"
wanted_tracker tracker.NoMemory text = []

-- what is wanted of a journal
abbrev pub wanted_journal : ReadError → List ℕ
wanted_journal journal.BadHeader =
    codes "a journal's header line with its newline, as transdesk journal 2"
wanted_journal (journal.BadLine n) = codes "the next entry, as docs/FORMATS.md has journals"
wanted_journal (journal.Unlawful n) =
    codes "an entry that applies on the rows, or an undone command"
wanted_journal journal.NoMemory = []

-- what is wanted of a text that isn't of its form
abbrev pub wanted_form : FormFault → List ℕ → List ℕ
wanted_form (form.Table e) text = wanted_table e text
wanted_form (form.Archive e) text = wanted_archive e
wanted_form (form.State e) text = wanted_state e
wanted_form (form.NoSuchRow n) text = codes "a row that the indices give"
wanted_form (form.Tracker e) text = wanted_tracker e text
wanted_form (form.Journal e) text = wanted_journal e

-- what is wanted of any text
abbrev pub wanted_input : InputFault → List ℕ → List ℕ
wanted_input TooLong text = codes "standard input of at most 1048576 bytes"
wanted_input NotText text = codes "a text in UTF-8"
wanted_input (Simulation e) text = wanted_simulation e
wanted_input (BadOutcome n) text = codes "how a build ends, as KEY OUTCOME"
wanted_input (Form e) text = wanted_form e text
wanted_input (DeskFile e) text = wanted_desk_file e

-- what is wanted of a file that is packed
abbrev pub unpacked : List ℕ
unpacked = codes "a text in UTF-8; unpack it first"

-- what is said of a file that can't be read
abbrev pub file_said : Cause → List ℕ
file_said cause.NoSuchFile = codes "isn't there"
file_said cause.NotPermitted = codes "may not be read"
file_said cause.IsFolder = codes "is a folder"
file_said cause.TooLong = codes "is too long"

-- what is wanted of a file that can't be read
abbrev pub wanted_file : Cause → List ℕ
wanted_file cause.NoSuchFile = codes "the path of a file that is there"
wanted_file cause.NotPermitted = codes "a file that may be read"
wanted_file cause.IsFolder = codes "a file, and no folder"
wanted_file cause.TooLong = codes "a file of at most 1073741824 bytes"
