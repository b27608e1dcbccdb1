-- A text that isn't of its form is bad input, or memory runs out.
use Rattle.td_relation.specs.declared.archs.ArchsFault.TheVariants as table
use Rattle.td_indices.specs.declared.archive_fault.ArchiveFault.TheVariants as archive
use Rattle.td_rows.specs.declared.state_file.StateFault.TheVariants as state
use Rattle.td_query.specs.declared.tracker_fault.TrackerFault.TheVariants as tracker
use Rattle.td_journal.specs.declared.journal_fault.ReadError.TheVariants as journal
use Rattle.td_inputs.specs.declared.form_fault.FormFault.{FormFault}
use Rattle.td_inputs.specs.declared.form_fault.FormFault.TheVariants as form
use Rattle.td_inputs.specs.declared.role.Role.{Role}
use Rattle.td_tool.specs.declared.ending.Ending.{Ending}
use Rattle.td_tool.specs.declared.ending.Ending.TheVariants.{BadInput, NoMemory}
use Rattle.td_tool.specs.declared.input_fault.InputFault.TheVariants.{Form}
use Rattle.td_tool.specs.Ending.{ending_of_form}

-- what holds for missing memory and for each bad input holds of the ending of a form's fault
pub form_ends : (Holds : Ending → Type 0) → Holds NoMemory
    → ((role : Role) (e : FormFault) → Holds (BadInput role (Form e))) → (e : FormFault)
    → Holds (ending_of_form e)
form_ends Holds none bad (form.Table (table.BadLine n)) = bad _ _
form_ends Holds none bad (form.Table (table.Twice n)) = bad _ _
form_ends Holds none bad (form.Table table.TooMany) = bad _ _
form_ends Holds none bad (form.Table table.NoMemory) = none
form_ends Holds none bad (form.Archive (archive.Stanza f e)) = bad _ _
form_ends Holds none bad (form.Archive (archive.MissingField f n k)) = bad _ _
form_ends Holds none bad (form.Archive (archive.BadVersion f n k)) = bad _ _
form_ends Holds none bad (form.Archive (archive.BadRelation f n k)) = bad _ _
form_ends Holds none bad (form.Archive archive.TooManyRows) = bad _ _
form_ends Holds none bad (form.Archive archive.NoMemory) = none
form_ends Holds none bad (form.State (state.BadLine n)) = bad _ _
form_ends Holds none bad (form.State (state.Twice n)) = bad _ _
form_ends Holds none bad (form.State (state.NotOpening n)) = bad _ _
form_ends Holds none bad (form.State state.TooManyRows) = bad _ _
form_ends Holds none bad (form.State state.NoMemory) = none
form_ends Holds none bad (form.NoSuchRow n) = bad _ _
form_ends Holds none bad (form.Tracker (tracker.Syntax p)) = bad _ _
form_ends Holds none bad (form.Tracker (tracker.MissingKey k)) = bad _ _
form_ends Holds none bad (form.Tracker (tracker.BadPattern p)) = bad _ _
form_ends Holds none bad (form.Tracker tracker.NoMemory) = none
form_ends Holds none bad (form.Journal journal.BadHeader) = bad _ _
form_ends Holds none bad (form.Journal (journal.BadLine n)) = bad _ _
form_ends Holds none bad (form.Journal (journal.Unlawful n)) = bad _ _
form_ends Holds none bad (form.Journal journal.NoMemory) = none
