-- The names of what may be wrong with the texts of a run. This project's own.
use Rattle.std.specs.Prelude.{ℕ, List, codes}
use Rattle.td_relation.specs.FaultNames as archs_fault
use Rattle.td_indices.specs.declared.archive_fault.IndexFile.{IndexFile}
use Rattle.td_indices.specs.declared.archive_fault.IndexFile.TheVariants as file
use Rattle.td_indices.specs.declared.archive_fault.ArchiveFault.{ArchiveFault}
use Rattle.td_indices.specs.declared.archive_fault.ArchiveFault.TheVariants as archive
use Rattle.td_indices.specs.FaultNames as archive_fault
use Rattle.td_rows.specs.FaultNames as state_fault
use Rattle.td_query.specs.TrackerFaults as tracker_fault
use Rattle.td_journal.specs.FaultNames as journal_fault
use Rattle.td_inputs.specs.declared.role.Role.{Role}
use Rattle.td_inputs.specs.declared.role.Role.TheVariants as role
use Rattle.td_inputs.specs.declared.form_fault.FormFault.{FormFault}
use Rattle.td_inputs.specs.declared.form_fault.FormFault.TheVariants.{Table, Archive, State}
use Rattle.td_inputs.specs.declared.form_fault.FormFault.TheVariants.{NoSuchRow, Tracker, Journal}

-- the words before a text's fault
abbrev pub label_of : Role → List ℕ
label_of role.Input = codes "input: "
label_of role.Archs = codes "archs: "
label_of role.Packages = codes "packages: "
label_of role.Sources = codes "sources: "
label_of role.State = codes "state: "
label_of role.Tracker = codes "tracker: "
label_of role.Outcomes = codes "outcomes: "
label_of role.Journal = codes "journal: "

-- one of the two indices
abbrev pub role_of_index : IndexFile → Role
role_of_index file.Packages = role.Packages
role_of_index file.Sources = role.Sources

-- the index that has the fault; what is no single file's counts as that of Sources
abbrev pub role_of_archive : ArchiveFault → Role
role_of_archive (archive.Stanza f e) = role_of_index f
role_of_archive (archive.MissingField f number field) = role_of_index f
role_of_archive (archive.BadVersion f number field) = role_of_index f
role_of_archive (archive.BadRelation f number field) = role_of_index f
role_of_archive archive.TooManyRows = role.Sources
role_of_archive archive.NoMemory = role.Sources

-- the text that is refused
abbrev pub role_of : FormFault → Role
role_of (Table e) = role.Archs
role_of (Archive e) = role_of_archive e
role_of (State e) = role.State
role_of (NoSuchRow number) = role.State
role_of (Tracker e) = role.Tracker
role_of (Journal e) = role.Journal

-- the name of what is wrong with a text
abbrev pub fault_name : FormFault → List ℕ
fault_name (Table e) = archs_fault.name_of e
fault_name (Archive e) = archive_fault.name_of e
fault_name (State e) = state_fault.name_of e
fault_name (NoSuchRow number) = codes "NoSuchRow"
fault_name (Tracker e) = tracker_fault.fault_name e
fault_name (Journal e) = journal_fault.name_of e
