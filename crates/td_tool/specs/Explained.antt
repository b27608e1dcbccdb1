-- What is said of an ending where an explanation is asked for. This project's own.
use Rattle.std.specs.Prelude.{◌≡◌, ◌⊎◌, ℕ, Bool, true, false, List, [], ◌++◌, Option, Some, None}
use Rattle.std.specs.Prelude.{IfSome, IsSome, IsSomeAnd, String, option_and_then, option_map}
use Rattle.std.specs.Prelude.{string_bytes}
use Rattle.std.specs.declared.alloc.Global.{Global}
use Rattle.std.specs.Io.KnownBytes.{Appends}
use Rattle.td_bytes.specs.Pieces.{AppendsPrefix}
use Rattle.td_explain.specs.declared.spot.Place.{Place}
use Rattle.td_explain.specs.declared.spot.Place.TheVariants.{Whole, Line, Stanza, Byte}
use Rattle.td_explain.specs.Explanation.{ExplainsRelation, explanation, path_explanation}
use Rattle.td_explain.specs.Packing.{packing_name, packing_of}
use Rattle.td_explain.specs.declared.packing.Packing.{Packing}
use Rattle.td_indices.specs.Fields.{relation_field_name}
use Rattle.td_indices.specs.declared.archive_fault.RelationField.{RelationField}
use Rattle.td_report.specs.Report.{all_shown}
use Rattle.td_words.specs.Asked.{check_words, desk_words, plan_words, run_words, track_words}
use Rattle.td_words.specs.Asked.{waves_words}
use Rattle.td_words.specs.CheckWords.{CheckWords}
use Rattle.td_words.specs.CommandLine.{RunWords, TrackWords, WavesWords}
use Rattle.td_words.specs.DeskWords.{DeskWords}
use Rattle.td_words.specs.PlanWords.{PlanWords}
use Rattle.td_words.specs.declared.request.Request.{Request}
use Rattle.td_words.specs.declared.request.Request.TheVariants as asked
use Rattle.td_tool.specs.Ending.{line_of}
use Rattle.td_tool.specs.Limits.{file_limit}
use Rattle.td_tool.specs.Places.{place_of, relation_of}
use Rattle.td_tool.specs.Tracks.{MayFail, OneFile}
use Rattle.td_inputs.specs.Faults.{label_of}
use Rattle.td_tool.specs.Wanted.{file_said, unpacked, wanted_file, wanted_input}
use Rattle.td_inputs.specs.declared.role.Role.{Role}
use Rattle.td_inputs.specs.declared.role.Role.TheVariants.{Input, Archs, Packages, Sources, State}
use Rattle.td_inputs.specs.declared.role.Role.TheVariants.{Tracker, Outcomes, Journal}
use Rattle.td_tool.specs.declared.cause.Cause.{Cause}
use Rattle.td_tool.specs.declared.input_fault.InputFault.{InputFault}
use Rattle.td_tool.specs.declared.input_fault.InputFault.TheVariants.{TooLong, NotText, Simulation}
use Rattle.td_tool.specs.declared.input_fault.InputFault.TheVariants.{BadOutcome, DeskFile, Form}
use Rattle.td_tool.specs.declared.ending.Ended.{Ended}
use Rattle.td_tool.specs.declared.ending.Ending.{Ending}
use Rattle.td_tool.specs.declared.ending.Ending.TheVariants.{Done, Refused, BadInput, NoMemory}
use Rattle.td_tool.specs.declared.ending.Ending.TheVariants.{CannotRead, CannotWrite}
use Rattle.td_tool.specs.declared.ending.Ending.TheVariants.{Locked, CannotKeep}
use Rattle.td_tool.specs.declared.explaining.Unexplained.{Unexplained}
use Rattle.td_tool.specs.declared.explaining.Unexplained.TheVariants as unexplained

-- ---- 1. the texts that may be refused

-- the paths of an archive's files, by role
abbrev pub archive_paths : List ℕ → List ℕ → List ℕ → Role → Option (List ℕ)
archive_paths archs packages sources Input = None
archive_paths archs packages sources Archs = Some archs
archive_paths archs packages sources Packages = Some packages
archive_paths archs packages sources Sources = Some sources
archive_paths archs packages sources State = None
archive_paths archs packages sources Tracker = None
archive_paths archs packages sources Outcomes = None
archive_paths archs packages sources Journal = None

-- the paths of the files of a check, by role
abbrev pub check_paths : CheckWords → Role → Option (List ℕ)
check_paths w Input = None
check_paths w Archs = Some w.archs
check_paths w Packages = Some w.packages
check_paths w Sources = Some w.sources
check_paths w State = None
check_paths w Tracker = w.tracker
check_paths w Outcomes = None
check_paths w Journal = None

-- the paths of a report's files, by role
abbrev pub track_paths : TrackWords → Role → Option (List ℕ)
track_paths w Input = None
track_paths w Archs = Some w.archs
track_paths w Packages = Some w.packages
track_paths w Sources = Some w.sources
track_paths w State = w.state
track_paths w Tracker = Some w.tracker
track_paths w Outcomes = None
track_paths w Journal = None

-- the paths of the files of waves: those of a report over the archive's own rows
abbrev pub waves_paths : WavesWords → Role → Option (List ℕ)
waves_paths w =
    track_paths (record {
      archs = w.archs;
      packages = w.packages;
      sources = w.sources;
      tracker = w.tracker;
      state = None;
      shown = all_shown;
      chunk = None;
    })

-- the paths of a plan's files, by role: as of a report over the same files
abbrev pub plan_paths : PlanWords → Role → Option (List ℕ)
plan_paths w =
    track_paths (record {
      archs = w.archs;
      packages = w.packages;
      sources = w.sources;
      tracker = w.tracker;
      state = w.state;
      shown = all_shown;
      chunk = None;
    })

-- the paths of a run's files, by role
abbrev pub run_paths : RunWords → Role → Option (List ℕ)
run_paths w Input = None
run_paths w Archs = Some w.archs
run_paths w Packages = Some w.packages
run_paths w Sources = Some w.sources
run_paths w State = w.state
run_paths w Tracker = w.tracker
run_paths w Outcomes = w.outcomes
run_paths w Journal = w.journal

-- the paths of a desk's files, by role: the journal is the desk's own file
abbrev pub desk_paths : DeskWords → Role → Option (List ℕ)
desk_paths w Input = None
desk_paths w Archs = Some w.archs
desk_paths w Packages = Some w.packages
desk_paths w Sources = Some w.sources
desk_paths w State = w.state
desk_paths w Tracker = w.tracker
desk_paths w Outcomes = None
desk_paths w Journal = Some w.journal

-- what is known of the text of a role: the path of its file, if it has one, and its bytes, if they
-- are known
pub record Given : Type 0 where
  pub path : Option (List ℕ)
  pub text : Option (List ℕ)

-- the files of these paths, and their bytes
abbrev pub known_at : (List ℕ → Option (List ℕ)) → (Role → Option (List ℕ)) → Role → Given
known_at bytes paths role = record {
  path = paths role;
  text = option_and_then bytes (paths role);
}

-- the bytes of standard input, which alone is read
abbrev pub input_of : Option (List ℕ) → Role → Option (List ℕ)
input_of known Input = known
input_of known Archs = None
input_of known Packages = None
input_of known Sources = None
input_of known State = None
input_of known Tracker = None
input_of known Outcomes = None
input_of known Journal = None

-- standard input, and no file
abbrev pub known_input : Option (List ℕ) → Role → Given
known_input known role = record { path = None; text = input_of known role }

-- the paths that a request has
abbrev pub paths_of : Request → Role → Option (List ℕ)
paths_of asked.Simulate role = None
paths_of (asked.Check r) role = check_paths (check_words r) role
paths_of (asked.Track r) role = track_paths (track_words r) role
paths_of (asked.Waves r) role = waves_paths (waves_words r) role
paths_of (asked.Plan r) role = plan_paths (plan_words r) role
paths_of (asked.Run r) role = run_paths (run_words r) role
paths_of (asked.Desk r) role = desk_paths (desk_words r) role

-- the texts of a request, by role, if they are known: a simulation has only standard input, and no
-- place of a script is explained
abbrev pub known_of_request : Request → Option (List ℕ) → (List ℕ → Option (List ℕ)) → Role
    → Given
known_of_request asked.Simulate known bytes = known_input known
known_of_request (asked.Check r) known bytes = known_at bytes (check_paths (check_words r))
known_of_request (asked.Track r) known bytes = known_at bytes (track_paths (track_words r))
known_of_request (asked.Waves r) known bytes = known_at bytes (waves_paths (waves_words r))
known_of_request (asked.Plan r) known bytes = known_at bytes (plan_paths (plan_words r))
known_of_request (asked.Run r) known bytes = known_at bytes (run_paths (run_words r))
known_of_request (asked.Desk r) known bytes = known_at bytes (desk_paths (desk_words r))

-- ---- 2. the explanation

-- if there is no place, no text is looked at; else the text is the known one
abbrev pub IsLookedAt : Place → Option (List ℕ) → List ℕ → Type 0
IsLookedAt Whole known text = Unit {0}
IsLookedAt (Line n) known text = IfSome known (λ all. all ≡ text)
IsLookedAt (Stanza n) known text = IfSome known (λ all. all ≡ text)
IsLookedAt (Byte at) known text = IfSome known (λ all. all ≡ text)

-- the line of a fault in the text of a role
abbrev pub fault_line : Role → InputFault → List ℕ → List ℕ
fault_line role fault text =
    explanation (label_of role) (place_of fault) (wanted_input fault text) text

-- a line is that of a fault in the text of a role; if a relation can't be read, it has that too
abbrev pub IsLineWith : Option (ℕ × RelationField) → Role → InputFault → List ℕ → List ℕ → Type 0
IsLineWith None role fault text line = line ≡ fault_line role fault text
IsLineWith (Some p) role fault text line =
    ExplainsRelation (label_of role) p.0 (relation_field_name p.1) (wanted_input fault text) text
    line

abbrev pub IsFaultLine : Role → InputFault → List ℕ → List ℕ → Type 0
IsFaultLine role fault text line = IsLineWith (relation_of fault) role fault text line

-- the line of the file of a path that is no text: it is packed, or else what is wanted is a text
abbrev pub no_text_line : Role → Option (List ℕ) → Option Packing → List ℕ
no_text_line role None packing = fault_line role NotText []
no_text_line role (Some path) None = fault_line role NotText []
no_text_line role (Some path) (Some packing) =
    path_explanation (label_of role) path (packing_name packing) unpacked

-- the line of the file of a path that isn't read: none if there is no path, as of standard input,
-- or if it isn't known why
abbrev pub unread_line : Role → Option (List ℕ) → Option Cause → List ℕ
unread_line role None cause = []
unread_line role (Some path) None = []
unread_line role (Some path) (Some cause) =
    path_explanation (label_of role) path (file_said cause) (wanted_file cause)

-- known bytes are those of a file that is packed so
abbrev pub ArePacked : Option (List ℕ) → Option Packing → Type 0
ArePacked known None = Unit {0}
ArePacked known (Some packing) = IfSome known (λ all. packing_of all ≡ Some packing)

-- a line explains that a text isn't UTF-8, by how its file is packed, if it is
abbrev pub ExplainsNoText : Given → Role → List ℕ → Type 0
ExplainsNoText given role line =
    (packing : Option Packing) × ArePacked given.text packing
    × (line ≡ no_text_line role given.path packing)

-- a line explains a fault by its place in the known text
abbrev pub ExplainsPlace : Given → Role → InputFault → List ℕ → Type 0
ExplainsPlace given role fault line =
    (text : List ℕ) × IsLookedAt (place_of fault) given.text text
    × IsFaultLine role fault text line

-- a line explains the fault of a text
abbrev pub ExplainsFault : Given → Role → InputFault → List ℕ → Type 0
ExplainsFault given role TooLong line = ExplainsPlace given role TooLong line
ExplainsFault given role NotText line = ExplainsNoText given role line
ExplainsFault given role (Simulation e) line = ExplainsPlace given role (Simulation e) line
ExplainsFault given role (BadOutcome n) line = ExplainsPlace given role (BadOutcome n) line
ExplainsFault given role (Form e) line = ExplainsPlace given role (Form e) line
ExplainsFault given role (DeskFile e) line = ExplainsPlace given role (DeskFile e) line

-- a line explains the ending: that of a refused text by its fault; that of a file that isn't read
-- by its path and some cause, since no clause knows the disk; that of lines that were answered is
-- what is noted of them; that of any other is empty
abbrev pub Explains : (Role → Given) → Option (List ℕ) → Ending → List ℕ → Type 0
Explains known notes Done line = notes ≡ Some line
Explains known notes Refused line = notes ≡ Some line
Explains known notes (BadInput role fault) line = ExplainsFault (known role) role fault line
Explains known notes NoMemory line = line ≡ []
Explains known notes (CannotRead role) line =
    (cause : Option Cause) × (line ≡ unread_line role (known role).path cause)
Explains known notes CannotWrite line = line ≡ []
Explains known notes Locked line = line ≡ []
Explains known notes CannotKeep line = line ≡ []

-- a line explains a fault in one text, which is the known one
abbrev pub ExplainsFile : Option (List ℕ) → Role → InputFault → List ℕ → Type 0
ExplainsFile known role fault line =
    (text : List ℕ) × IfSome known (λ all. all ≡ text) × IsFaultLine role fault text line

-- the text that was kept of standard input is the known one
abbrev pub IsKept : (Role → Given) → Option (String Global) → Type 0
IsKept known input =
    IfSome input (λ kept. IfSome (known Input).text (λ all. all ≡ string_bytes kept))

-- the text of a simulation is kept if it is refused as one
abbrev pub IsTextKept : Ending → Option (String Global) → Type 0
IsTextKept (BadInput role (Simulation e)) input = IsSome input
IsTextKept ending input = Unit {0}

-- what is written of an ending: its line, and after it the explanation if that is asked for; only a
-- front of both, or of the line, if standard error, memory or another read fails
abbrev pub SaysOf : Bool → (Role → Given) → Option (List ℕ) → Ending → Option (List ℕ)
    → Option (List ℕ) → Type 0
SaysOf false known notes ending said_before said = AppendsPrefix said_before said (line_of ending)
SaysOf true known notes ending said_before said =
    AppendsPrefix said_before said (line_of ending)
    ⊎ ((line : List ℕ) × Explains known notes ending line
    × AppendsPrefix said_before said (line_of ending ++ line))

-- ---- 3. whether all of it is written

-- no text of this role is at hand: of standard input none was kept, of a file there is no path
abbrev pub HasNoText : Role → Option (String Global) → Request → Type 0
HasNoText Input input request = input ≡ None
HasNoText role input request = paths_of request role ≡ None

-- the place is one in a text, and that isn't at hand
abbrev pub IsUnseen : Place → Role → Option (String Global) → Request → Type 0
IsUnseen Whole role input request = ⊥
IsUnseen place role input request = HasNoText role input request

-- what may be known of why the file of a path can't be read, as a text of at most this many bytes
abbrev pub Causes : Type 0
Causes = List ℕ → ℕ → Option Cause → Bool

-- there is no explanation to write: the refused text isn't at hand, nothing more may be known of
-- the
-- unread one, or nothing is noted of lines that were answered
abbrev pub HasNoneOf : Causes → Ending → Ended → Request → Type 0
HasNoneOf can_be Done ended request = ended.notes ≡ None
HasNoneOf can_be Refused ended request = ended.notes ≡ None
HasNoneOf can_be (BadInput role fault) ended request =
    IsUnseen (place_of fault) role ended.input request
HasNoneOf can_be (CannotRead role) ended request =
    IfSome (paths_of request role) (λ path. can_be path file_limit None ≡ true)
HasNoneOf can_be NoMemory ended request = Unit {0}
HasNoneOf can_be CannotWrite ended request = Unit {0}
HasNoneOf can_be Locked ended request = Unit {0}
HasNoneOf can_be CannotKeep ended request = Unit {0}

abbrev pub HasNone : Causes → Ended → Request → Type 0
HasNone can_be ended request = HasNoneOf can_be ended.ending ended request

-- a line tells a cause for which the file of this path may be unreadable
abbrev pub TellsCause : Causes → List ℕ → Role → List ℕ → Type 0
TellsCause can_be path role line =
    (cause : Cause) × (can_be path file_limit (Some cause) ≡ true)
    × (line ≡ unread_line role (Some path) (Some cause))

-- what may be known of how the file of a path is packed
abbrev pub Packings : Type 0
Packings = List ℕ → Option Packing → Bool

-- a line tells how the file of a path, if there is one, may be packed
abbrev pub TellsPacking : Packings → Option (List ℕ) → Role → List ℕ → Type 0
TellsPacking can_pack path role line =
    IfSome path (λ p. (packing : Option Packing) × (can_pack p packing ≡ true)
    × (line ≡ no_text_line role (Some p) packing))

-- the line of a file that isn't read tells a cause that this file may have, and that of one that
-- is no text how this file may be packed
abbrev pub TellsOwn : Causes → Packings → Request → Ending → List ℕ → Type 0
TellsOwn can_be can_pack request (CannotRead role) line =
    IsSomeAnd (paths_of request role) (λ path. TellsCause can_be path role line)
TellsOwn can_be can_pack request (BadInput role NotText) line =
    TellsPacking can_pack (paths_of request role) role line
TellsOwn can_be can_pack request ending line = Unit {0}

-- all is written: the line of the ending, and after it, if that is asked for, the explanation, or
-- nothing if there is none
abbrev pub SaysAll : Bool → (Role → Given) → Causes → Packings → Ended → Request
    → Option (List ℕ) → Option (List ℕ) → Type 0
SaysAll false known can_be can_pack ended request said_before said =
    Appends said_before said (line_of ended.ending)
SaysAll true known can_be can_pack ended request said_before said =
    ((line : List ℕ) × Explains known (option_map string_bytes ended.notes) ended.ending line
    × TellsOwn can_be can_pack request ended.ending line
    × Appends said_before said (line_of ended.ending ++ line))
    ⊎ (HasNone can_be ended request
    × Appends said_before said (line_of ended.ending))

-- why a line isn't made from a file: memory runs out, or a read of it may fail so
abbrev pub FailsAgain : OneFile → Unexplained → Type 0
FailsAgain file (unexplained.Unread why) = MayFail file why
FailsAgain file unexplained.NoMemory = Unit {0}
FailsAgain file unexplained.CannotWrite = ⊥

-- why a line isn't made from the file of a path, if there is one: memory, or a read that fails so
abbrev pub FailsFor : (List ℕ → OneFile) → Option (List ℕ) → Unexplained → Type 0
FailsFor files path (unexplained.Unread why) = IsSomeAnd path (λ p. MayFail (files p) why)
FailsFor files path unexplained.NoMemory = Unit {0}
FailsFor files path unexplained.CannotWrite = ⊥

-- why a line isn't made of a fault at a place: as from its file, or only memory if that is `Whole`
abbrev pub FailsThere : (List ℕ → OneFile) → Place → Option (List ℕ) → Unexplained → Type 0
FailsThere files Whole path e = e ≡ unexplained.NoMemory
FailsThere files place path e = FailsFor files path e

-- why a line isn't made of an ending: as of a refused text's fault, or only memory for a file that
-- isn't read and for lines that were answered; nothing for any other ending
abbrev pub FailsOf : (List ℕ → OneFile) → Request → Ending → Unexplained → Type 0
FailsOf files request (BadInput role fault) e =
    FailsThere files (place_of fault) (paths_of request role) e
FailsOf files request (CannotRead role) e = e ≡ unexplained.NoMemory
FailsOf files request Done e = e ≡ unexplained.NoMemory
FailsOf files request Refused e = e ≡ unexplained.NoMemory
FailsOf files request ending e = ⊥

-- the bytes of a line, if there is one
abbrev pub line_if : Option (String Global) → List ℕ
line_if None = []
line_if (Some line) = string_bytes line
