-- What `desk` leaves on standard output, as it ends. This project's own.
use Rattle.std.specs.Prelude.{◌≡◌, ◌⊎◌, ℕ, ◌==◌, Bool, true, List, Option, None, Result, Ok, Err}
use Rattle.std.specs.Prelude.{option_map, if◌then◌else◌}
use Rattle.std.specs.Io.KnownBytes.{Keeps}
use Rattle.td_bytes.specs.declared.text.TextFault.{TextFault}
use Rattle.td_ledger.specs.Calls.{Known}
use Rattle.td_inputs.specs.Inputs as script
use Rattle.td_inputs.specs.declared.role.Role.TheVariants.{Input, Journal}
use Rattle.td_lasting.specs.declared.file_fault.FileFault.{FileFault}
use Rattle.td_lasting.specs.declared.file_fault.FileFault.TheVariants as file
use Rattle.td_lasting.specs.declared.serving.ServeEnd.{ServeEnd}
use Rattle.td_lasting.specs.declared.serving.ServeFault.{ServeFault}
use Rattle.td_lasting.specs.declared.serving.ServeFault.TheVariants as serve
use Rattle.td_session.specs.declared.desk_file.OpenRefusal.{OpenRefusal}
use Rattle.td_session.specs.declared.desk_file.OpenRefusal.TheVariants as refusal
use Rattle.td_session.specs.declared.fault.SessionFault.{SessionFault}
use Rattle.td_session.specs.declared.fault.SessionFault.TheVariants as session
use Rattle.td_session.specs.Sessions as sessions
use Rattle.td_words.specs.DeskWords.{DeskWords}
use Rattle.td_tool.specs.declared.input_fault.InputFault.TheVariants.{NotText, DeskFile}
use Rattle.td_tool.specs.declared.ending.Ending.{Ending}
use Rattle.td_tool.specs.declared.ending.Ending.TheVariants.{Done, Refused, BadInput, NoMemory}
use Rattle.td_tool.specs.declared.ending.Ending.TheVariants.{CannotRead, CannotWrite, Locked}
use Rattle.td_tool.specs.declared.ending.Ending.TheVariants.{CannotKeep}
use Rattle.td_tool.specs.Checks.{files_of}
use Rattle.td_tool.specs.Ending.{ending_of_form}
use Rattle.td_tool.specs.Runs.{AreKnownTexts, AreTextsOf, IsUnread, MayEnd, RunFiles, Texts}
use Rattle.td_tool.specs.Runs.{script_texts}
use Rattle.td_tool.specs.Tracks.{file_at}
use Rattle.td_tool.specs.UnreadFiles.{tells_of_unread_file}

-- ---- 1. the files

-- the files that desks are kept in, by their paths: what is known of each as it is found, and for
-- what it may be refused, if another desk's end is waited for or isn't
pub record DeskFiles : Type 0 where
  pub found : List ℕ → Known
  pub can_refuse : List ℕ → Bool → OpenRefusal → Bool

-- the files that are read before a desk's own: those of a run with no outcomes and no journal
abbrev pub desk_files_asked : (List ℕ → Option (List ℕ)) → (List ℕ → TextFault → Bool) → DeskWords
    → RunFiles
desk_files_asked bytes can_fail w = record {
  indices = files_of bytes can_fail w.archs w.packages w.sources;
  state = option_map (file_at bytes can_fail) w.state;
  tracker = option_map (file_at bytes can_fail) w.tracker;
  outcomes = None;
  journal = None;
  builders = 0;
}

-- ---- 2. how it ends

-- how a desk ends whose file isn't opened
abbrev pub ending_of_refusal : OpenRefusal → Ending
ending_of_refusal refusal.Locked = Locked
ending_of_refusal refusal.CannotRead = CannotRead Journal
ending_of_refusal refusal.NoMemory = NoMemory

-- how a desk ends whose file is refused
abbrev pub ending_of_desk_file : FileFault → Ending
ending_of_desk_file file.NotText = BadInput Journal NotText
ending_of_desk_file file.CannotRead = CannotRead Journal
ending_of_desk_file file.CannotWrite = CannotKeep
ending_of_desk_file file.NoMemory = NoMemory
ending_of_desk_file e = BadInput Journal (DeskFile e)

-- how a desk ends whose lines aren't all answered
abbrev pub ending_of_serving : ServeFault → Ending
ending_of_serving serve.CannotRead = CannotRead Input
ending_of_serving serve.CannotKeep = CannotKeep
ending_of_serving serve.CannotTell = CannotWrite
ending_of_serving serve.NoMemory = NoMemory

-- how a desk ends by how its session did: with the status of a refusal if a line was refused
abbrev pub ending_of_session : Result ServeEnd SessionFault → Ending
ending_of_session (Ok end) = if end.refusals == 0 then Done else Refused
ending_of_session (Err (session.Input e)) = ending_of_form e
ending_of_session (Err session.NoMemory) = NoMemory
ending_of_session (Err (session.Unopened e)) = ending_of_refusal e
ending_of_session (Err (session.File e)) = ending_of_desk_file e
ending_of_session (Err (session.Serve e)) = ending_of_serving e

-- over these texts a session ends so, which says what is written and what is left of the file, and
-- so does the desk
abbrev pub SessionEnds : Texts → List ℕ → Known → Option (List ℕ) → Option (List ℕ)
    → Option (List ℕ) → Option (List ℕ) → Ending → Type 0
SessionEnds x suite found known left old new ending =
    (last : Option Known) × (r : Result ServeEnd SessionFault)
    × sessions.Ends (script_texts x suite) found last known left old new r
    × (ending ≡ ending_of_session r)

-- memory runs out, or a file isn't read, and nothing is written; or a session ends it
abbrev pub DeskSays : RunFiles → List ℕ → Known → Option (List ℕ) → Option (List ℕ)
    → Option (List ℕ) → Option (List ℕ) → Ending → Type 0
DeskSays files suite found known left old new ending =
    ((ending ≡ NoMemory) × Keeps old new)
    ⊎ ((IsUnread files ending × Keeps old new)
    ⊎ ((x : Texts) × AreTextsOf files x × SessionEnds x suite found known left old new ending))

-- how a desk over readable texts may end: only its own file is refused, or a tracker for a pattern
-- that `regex` refuses
abbrev pub MayEndDesk : Option (List ℕ) → Ending → Type 0
MayEndDesk tracker (BadInput role e) = (role ≡ Journal) ⊎ MayEnd tracker (BadInput role e)
MayEndDesk tracker ending = Unit {0}

-- a desk that is asked for by these words, over these files, ends so: the ending is as it says;
-- readable texts aren't refused; if a file isn't read, standard input is left as it was; and only a
-- file that may be locked is told to be
pub record EndsDesk (files : RunFiles) (desks : DeskFiles) (w : DeskWords)
    (known left old new : Option (List ℕ)) (ending : Ending) : Type 0 where
  pub says : DeskSays files w.suite (desks.found w.journal) known left old new ending
  pub only : (x : Texts) → AreKnownTexts files x → script.AreReadable (script_texts x w.suite)
      → MayEndDesk x.tracker ending
  pub untouched : tells_of_unread_file ending ≡ true → Keeps known left
  pub locked : ending ≡ Locked → desks.can_refuse w.journal w.waits refusal.Locked ≡ true
