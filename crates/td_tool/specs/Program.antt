-- What the program does for words: a subcommand that they ask for, or a text that says what is
-- wrong. This project's own.
use Rattle.std.specs.Prelude.{◌≡◌, ◌≢◌, ◌⊎◌, ℕ, List, Option, None, Bool, true, false}
use Rattle.std.specs.Prelude.{Result, Ok, Err, String, Vec, map, codes, string_bytes}
use Rattle.std.specs.declared.alloc.Global.{Global}
use Rattle.std.specs.declared.io.ErrorKind.{ErrorKind}
use Rattle.std.specs.declared.io.ErrorKind.TheVariants.{OutOfMemory}
use Rattle.std.specs.Io.KnownBytes.{Keeps}
use Rattle.td_bytes.specs.Pieces.{AppendsPrefix}
use Rattle.td_bytes.specs.declared.text.TextFault.{TextFault}
use Rattle.td_words.specs.declared.request.Request.{Request}
use Rattle.td_words.specs.declared.request.Request.TheVariants.{Simulate, Check, Track, Waves}
use Rattle.td_words.specs.declared.request.Request.TheVariants.{Plan, Run, Desk}
use Rattle.td_words.specs.declared.request.WordsFault.{WordsFault}
use Rattle.td_words.specs.declared.request.WordsFault.TheVariants as words_fault
use Rattle.td_plan.specs.Lines.{Words}
use Rattle.td_report.specs.Transition.{IsReportOf}
use Rattle.td_words.specs.Asked.{check_words, desk_words, plan_words, request_words, run_words}
use Rattle.td_words.specs.Asked.{track_words, waves_words}
use Rattle.td_words.specs.CommandLine.{TrackWords, WavesWords, is_explained, options_of}
use Rattle.td_words.specs.PlanWords.{PlanWords}
use Rattle.td_tool.specs.FolderFiles.{AskFound, Causes, SaysWhich}
use Rattle.td_tool.specs.declared.ending.Ending.{Ending}
use Rattle.td_tool.specs.declared.ending.Ending.TheVariants.{NoMemory}
use Rattle.td_tool.specs.Ending.{line_of}
use Rattle.td_tool.specs.Ends.{Ends}
use Rattle.td_tool.specs.CheckEnds.{CheckEnds}
use Rattle.td_tool.specs.Desks.{DeskFiles, EndsDesk, desk_files_asked}
use Rattle.td_tool.specs.Tracks.{EndsSo, IsPlanWith, TrackFiles, track_files, waves_says}
use Rattle.td_tool.specs.Runs.{AreNotes, EndsRun, run_files_asked}
use Rattle.td_tool.specs.Explained.{known_of_request}
use Rattle.td_tool.specs.Ran.{NoNotes, Ran}
use Rattle.td_tool.specs.Streams.{DueTo}

-- ---- 1. words that ask for nothing

-- the status is that of a bad command line, and a front of this text is written
pub record IsBadWords (text : List ℕ) (said_before said : Option (List ℕ))
    (status : ℕ) : Type 0 where
  pub answered : status ≡ 3
  pub line : AppendsPrefix said_before said text

-- the status is that of `want of memory`, and a front of that line is written
pub record LacksMemory (said_before said : Option (List ℕ)) (status : ℕ) : Type 0 where
  pub answered : status ≡ 4
  pub line : AppendsPrefix said_before said (line_of NoMemory)

-- what is written of words in which a fault was found: its own text
abbrev pub TellsFault : WordsFault → Option (List ℕ) → Option (List ℕ) → ℕ → Type 0
TellsFault (words_fault.Usage text) said_before said status =
    IsBadWords (string_bytes text) said_before said status
TellsFault words_fault.NoMemory said_before said status = LacksMemory said_before said status

-- standard error has a fault of the words, and standard output nothing
pub record IsTold (fault : WordsFault) (old new said_before said : Option (List ℕ))
    (status : ℕ) : Type 0 where
  pub tells : TellsFault fault said_before said status
  pub kept : Keeps old new

-- all that is written of a fault of the words
abbrev pub fault_text : WordsFault → List ℕ
fault_text (words_fault.Usage text) = string_bytes text
fault_text words_fault.NoMemory = line_of NoMemory

-- what is written if a word isn't UTF-8
abbrev pub no_words : List ℕ
no_words = codes "error: a word of the command line is not UTF-8\n"

-- all that is written of words that aren't read, for missing memory or else
abbrev pub unread_text : Bool → List ℕ
unread_text true = line_of NoMemory
unread_text false = no_words

-- what is written of words that aren't read, with an error of this kind
pub record TellsUnread (kind : ErrorKind) (said_before said : Option (List ℕ))
    (status : ℕ) : Type 0 where
  pub memory : kind ≡ OutOfMemory → LacksMemory said_before said status
  pub other : kind ≢ OutOfMemory → IsBadWords no_words said_before said status

-- a text says that the words are bad, or memory has run out
abbrev pub TellsWhy : Causes → List (List ℕ) → Option (List ℕ) → Option (List ℕ) → ℕ → Type 0
TellsWhy can_be words said_before said status =
    ((text : List ℕ) × SaysWhich can_be words text × IsBadWords text said_before said status)
    ⊎ LacksMemory said_before said status

-- ---- 2. words that ask for a subcommand

-- whether the words that were given want an explanation
abbrev pub are_explained : {E : Type 0} → Result (Vec (String Global) Global) E → Bool
are_explained (Ok given) = is_explained (options_of (map string_bytes given.items))
are_explained (Err e) = false

-- the files of the report that the words ask for
abbrev pub files_asked : (List ℕ → Option (List ℕ)) → (List ℕ → TextFault → Bool) → TrackWords
    → TrackFiles
files_asked bytes can_fail w =
    track_files bytes can_fail w.archs w.packages w.sources w.state w.tracker

-- the files of the waves that the words ask for
abbrev pub waves_files : (List ℕ → Option (List ℕ)) → (List ℕ → TextFault → Bool) → WavesWords
    → TrackFiles
waves_files bytes can_fail w =
    track_files bytes can_fail w.archs w.packages w.sources None w.tracker

-- the files of which a plan is asked for
abbrev pub plan_files : (List ℕ → Option (List ℕ)) → (List ℕ → TextFault → Bool) → PlanWords
    → TrackFiles
plan_files bytes can_fail w =
    track_files bytes can_fail w.archs w.packages w.sources w.state w.tracker

-- the message and the suite with which it is
abbrev pub words_asked : PlanWords → Words
words_asked w = record { message = w.message; suite = w.suite }

-- what was asked for ends so
abbrev pub EndsFor : Request → Option (List ℕ) → Option (List ℕ) → (List ℕ → Option (List ℕ))
    → (List ℕ → TextFault → Bool) → DeskFiles → Option (List ℕ) → Option (List ℕ) → Ending
    → Type 0
EndsFor Simulate known left bytes can_fail desks old new ending = Ends known old new ending
EndsFor (Check r) known left bytes can_fail desks old new ending =
    CheckEnds bytes can_fail (check_words r) old new ending
EndsFor (Track r) known left bytes can_fail desks old new ending =
    EndsSo (IsReportOf r.shown) (files_asked bytes can_fail (track_words r)) old new ending
EndsFor (Waves r) known left bytes can_fail desks old new ending =
    EndsSo (waves_says r.form) (waves_files bytes can_fail (waves_words r)) old new ending
EndsFor (Plan r) known left bytes can_fail desks old new ending =
    EndsSo (IsPlanWith (words_asked (plan_words r))) (plan_files bytes can_fail (plan_words r)) old
    new ending
EndsFor (Run r) known left bytes can_fail desks old new ending =
    EndsRun (run_files_asked bytes can_fail (run_words r)) (string_bytes r.suite) known left old
    new ending
EndsFor (Desk r) known left bytes can_fail desks old new ending =
    EndsDesk (desk_files_asked bytes can_fail (desk_words r)) desks (desk_words r) known left old
    new ending

-- what may be noted of the lines of a request's script: only a run without builders has notes
abbrev pub NotesFor : Request → Option (List ℕ) → (List ℕ → Option (List ℕ))
    → (List ℕ → TextFault → Bool) → List ℕ → Type 0
NotesFor Simulate known bytes can_fail = NoNotes
NotesFor (Check files) known bytes can_fail = NoNotes
NotesFor (Track r) known bytes can_fail = NoNotes
NotesFor (Waves r) known bytes can_fail = NoNotes
NotesFor (Plan r) known bytes can_fail = NoNotes
NotesFor (Desk r) known bytes can_fail = NoNotes
NotesFor (Run r) known bytes can_fail =
    AreNotes (run_files_asked bytes can_fail (run_words r)) (string_bytes r.suite) known

-- the request ran, and is explained or not. It tells of a failed read or write of a stream only if
-- that may fail
abbrev pub RanFor : Request → Bool → Option (List ℕ) → Option (List ℕ)
    → (List ℕ → Option (List ℕ)) → (List ℕ → TextFault → Bool) → DeskFiles → Bool → Bool
    → Option (List ℕ) → Option (List ℕ) → Option (List ℕ) → Option (List ℕ) → ℕ → Type 0
RanFor request explained known left bytes can_fail desks reads writes old new said_before said
    status =
    Ran (DueTo reads writes (EndsFor request known left bytes can_fail desks old new))
    (NotesFor request known bytes can_fail) explained (known_of_request request known bytes)
    said_before said status

-- a request has no builders, and waits for nobody
abbrev pub HasNoBuilders : Request → Type 0
HasNoBuilders Simulate = Unit {0}
HasNoBuilders (Check r) = Unit {0}
HasNoBuilders (Track r) = Unit {0}
HasNoBuilders (Waves r) = Unit {0}
HasNoBuilders (Plan r) = Unit {0}
HasNoBuilders (Run r) = r.builders ≡ 0
HasNoBuilders (Desk r) = Unit {0}

-- standard input is read only for a simulation, for a run and for a desk: all else leaves it as it
-- was. When these leave it, `EndsRun` and `EndsDesk` say
abbrev pub LeavesInput : Request → Option (List ℕ) → Option (List ℕ) → Type 0
LeavesInput Simulate known left = Unit {0}
LeavesInput (Check r) known left = Keeps known left
LeavesInput (Track r) known left = Keeps known left
LeavesInput (Waves r) known left = Keeps known left
LeavesInput (Plan r) known left = Keeps known left
LeavesInput (Run r) known left = Unit {0}
LeavesInput (Desk r) known left = Unit {0}

-- the words ask for a request, by what may be found in the folder that they give, and it ran; or
-- the program says why not, reads and writes nothing
abbrev pub OnlyIfAsked : Causes → List (List ℕ) → Option (List ℕ) → Option (List ℕ)
    → (List ℕ → Option (List ℕ)) → (List ℕ → TextFault → Bool) → DeskFiles → Bool → Bool
    → Option (List ℕ) → Option (List ℕ) → Option (List ℕ) → Option (List ℕ) → ℕ → Type 0
OnlyIfAsked can_be words known left bytes can_fail desks reads writes old new said_before said
    status =
    ((request : Request) × AskFound can_be words (request_words request)
    × LeavesInput request known left
    × RanFor request (is_explained (options_of words)) known left bytes can_fail desks reads writes
    old new said_before said status)
    ⊎ (TellsWhy can_be words said_before said status × Keeps known left × Keeps old new)
