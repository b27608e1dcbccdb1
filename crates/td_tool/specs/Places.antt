-- Where in its text a refusal is, by its own fields. This project's own.
use Rattle.std.specs.Prelude.{ℕ, ◌+◌, nat_lt, Option, Some, None, if◌then◌else◌}
use Rattle.td_explain.specs.declared.spot.Place.{Place}
use Rattle.td_explain.specs.declared.spot.Place.TheVariants.{Whole, Line, Stanza, Byte}
use Rattle.td_stanza.specs.declared.fault.StanzaFault.{StanzaFault}
use Rattle.td_stanza.specs.declared.fault.StanzaFault.TheVariants as stanza
use Rattle.td_relation.specs.declared.archs.ArchsFault.{ArchsFault}
use Rattle.td_relation.specs.declared.archs.ArchsFault.TheVariants as table
use Rattle.td_indices.specs.declared.archive_fault.ArchiveFault.{ArchiveFault}
use Rattle.td_indices.specs.declared.archive_fault.ArchiveFault.TheVariants as archive
use Rattle.td_indices.specs.declared.archive_fault.RelationField.{RelationField}
use Rattle.td_rows.specs.declared.state_file.StateFault.{StateFault}
use Rattle.td_rows.specs.declared.state_file.StateFault.TheVariants as state
use Rattle.td_query.specs.declared.tracker_fault.TrackerFault.{TrackerFault}
use Rattle.td_query.specs.declared.tracker_fault.TrackerFault.TheVariants as tracker
use Rattle.td_journal.specs.declared.journal_fault.ReadError.{ReadError}
use Rattle.td_journal.specs.declared.journal_fault.ReadError.TheVariants as journal
use Rattle.td_simulate.specs.declared.fault.SimulationFault.{SimulationFault}
use Rattle.td_simulate.specs.declared.fault.SimulationFault.TheVariants as simulation
use Rattle.td_inputs.specs.declared.form_fault.FormFault.{FormFault}
use Rattle.td_inputs.specs.declared.form_fault.FormFault.TheVariants as form
use Rattle.td_tool.specs.DeskFaults.{place_in_desk_file}
use Rattle.td_tool.specs.declared.input_fault.InputFault.{InputFault}
use Rattle.td_tool.specs.declared.input_fault.InputFault.TheVariants as refused

-- the line of a state file, or of the opening rows
abbrev pub place_in_state : StateFault → Place
place_in_state (state.BadLine n) = Line n
place_in_state (state.Twice n) = Line n
place_in_state (state.NotOpening n) = Line n
place_in_state state.TooManyRows = Whole
place_in_state state.NoMemory = Whole

-- the line of a simulation
abbrev pub place_in_simulation : SimulationFault → Place
place_in_simulation (simulation.Opening e) = place_in_state e
place_in_simulation (simulation.BadStep n) = Line n
place_in_simulation simulation.NoMemory = Whole

-- the line of a table of architectures
abbrev pub place_in_table : ArchsFault → Place
place_in_table (table.BadLine n) = Line n
place_in_table (table.Twice n) = Line n
place_in_table table.TooMany = Whole
place_in_table table.NoMemory = Whole

-- the line of a control file
abbrev pub place_in_stanzas : StanzaFault → Place
place_in_stanzas (stanza.BadName n) = Line n
place_in_stanzas (stanza.NoColon n) = Line n
place_in_stanzas (stanza.ContinuationFirst n) = Line n
place_in_stanzas (stanza.Duplicate n) = Line n
place_in_stanzas stanza.NoMemory = Whole

-- the line or the stanza of an index
abbrev pub place_in_index : ArchiveFault → Place
place_in_index (archive.Stanza f e) = place_in_stanzas e
place_in_index (archive.MissingField f n field) = Stanza n
place_in_index (archive.BadVersion f n field) = Stanza n
place_in_index (archive.BadRelation f n field) = Stanza n
place_in_index archive.TooManyRows = Whole
place_in_index archive.NoMemory = Whole

-- the byte of a tracker
abbrev pub place_in_tracker : TrackerFault → Place
place_in_tracker (tracker.Syntax at) = Byte at
place_in_tracker (tracker.MissingKey k) = Whole
place_in_tracker (tracker.BadPattern at) = Byte at
place_in_tracker tracker.NoMemory = Whole

-- the line of a journal's entry: entry n is on line n + 1, if that is a number of 64 bits
abbrev pub place_of_entry : ℕ → Place
place_of_entry n = if nat_lt n 18446744073709551615 then Line (n + 1) else Whole

-- the line of a journal
abbrev pub place_in_journal : ReadError → Place
place_in_journal journal.BadHeader = Line 1
place_in_journal (journal.BadLine n) = Line n
place_in_journal (journal.Unlawful n) = place_of_entry n
place_in_journal journal.NoMemory = Whole

-- the place in a text that isn't of its form
abbrev pub place_in_form : FormFault → Place
place_in_form (form.Table e) = place_in_table e
place_in_form (form.Archive e) = place_in_index e
place_in_form (form.State e) = place_in_state e
place_in_form (form.NoSuchRow n) = Line n
place_in_form (form.Tracker e) = place_in_tracker e
place_in_form (form.Journal e) = place_in_journal e

-- the place in any text
abbrev pub place_of : InputFault → Place
place_of refused.TooLong = Whole
place_of refused.NotText = Whole
place_of (refused.Simulation e) = place_in_simulation e
place_of (refused.BadOutcome n) = Line n
place_of (refused.Form e) = place_in_form e
place_of (refused.DeskFile e) = place_in_desk_file e

-- the stanza and the field with a relation that can't be read, if that is wrong with an index
abbrev pub relation_in_index : ArchiveFault → Option (ℕ × RelationField)
relation_in_index (archive.Stanza f e) = None
relation_in_index (archive.MissingField f n field) = None
relation_in_index (archive.BadVersion f n field) = None
relation_in_index (archive.BadRelation f n field) = Some (n, field)
relation_in_index archive.TooManyRows = None
relation_in_index archive.NoMemory = None

-- the stanza and the field, if that is what is wrong with a text that isn't of its form
abbrev pub relation_in_form : FormFault → Option (ℕ × RelationField)
relation_in_form (form.Table e) = None
relation_in_form (form.Archive e) = relation_in_index e
relation_in_form (form.State e) = None
relation_in_form (form.NoSuchRow n) = None
relation_in_form (form.Tracker e) = None
relation_in_form (form.Journal e) = None

-- the stanza and the field, if that is the fault
abbrev pub relation_of : InputFault → Option (ℕ × RelationField)
relation_of refused.TooLong = None
relation_of refused.NotText = None
relation_of (refused.Simulation e) = None
relation_of (refused.BadOutcome n) = None
relation_of (refused.Form e) = relation_in_form e
relation_of (refused.DeskFile e) = None
