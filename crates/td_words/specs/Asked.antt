-- What an answer says of the words. This project's own.
use Rattle.std.specs.Prelude.{◌≡◌, ℕ, List, [], Bool, Option, Some, Result, Ok, Err, option_map}
use Rattle.std.specs.Prelude.{string_bytes, codes, if◌then◌else◌, is_some}
use Rattle.clap.specs.Simple.{subcommand_of}
use Rattle.clap.specs.Walk.{Row, first_of}
use Rattle.td_words.specs.declared.present.Present.{Present}
use Rattle.td_words.specs.declared.request.Call.{Call}
use Rattle.td_words.specs.declared.request.ArchivePaths.{ArchivePaths}
use Rattle.td_words.specs.declared.request.CheckRequest.{CheckRequest}
use Rattle.td_words.specs.declared.request.TrackRequest.{TrackRequest}
use Rattle.td_words.specs.declared.request.RunRequest.{RunRequest}
use Rattle.td_words.specs.declared.request.PlanRequest.{PlanRequest}
use Rattle.td_words.specs.declared.request.DeskRequest.{DeskRequest}
use Rattle.td_words.specs.declared.request.WavesRequest.{WavesRequest}
use Rattle.td_words.specs.declared.request.Request.{Request}
use Rattle.td_words.specs.declared.request.Request.TheVariants.{Simulate, Check, Track, Waves}
use Rattle.td_words.specs.declared.request.Request.TheVariants.{Plan, Run, Desk}
use Rattle.td_words.specs.declared.request.WordsFault.{WordsFault}
use Rattle.td_words.specs.declared.request.WordsFault.TheVariants.{Usage, NoMemory}
use Rattle.td_words.specs.CommandLine.{HasFiles, HasRun, HasTrack, HasWaves, RunWords, TrackWords}
use Rattle.td_words.specs.CommandLine.{WavesWords, chunk_in, desk, faults_of, name_in, rows_in}
use Rattle.td_words.specs.CheckWords.{CheckWords, HasCheck}
use Rattle.td_words.specs.DeskWords.{DeskWords, HasDesk}
use Rattle.td_words.specs.PlanWords.{HasPlan, PlanWords}
use Rattle.td_words.specs.ShownWords.{shown_said}

-- what a check is asked for with, by the texts that say so
abbrev pub check_words : CheckRequest → CheckWords
check_words r = record {
  archs = string_bytes r.files.archs;
  packages = string_bytes r.files.packages;
  sources = string_bytes r.files.sources;
  details = r.details;
  tracker = option_map string_bytes r.tracker;
}

-- what a report is asked for with, by the texts that say so
abbrev pub track_words : TrackRequest → TrackWords
track_words r = record {
  archs = string_bytes r.files.archs;
  packages = string_bytes r.files.packages;
  sources = string_bytes r.files.sources;
  tracker = string_bytes r.tracker;
  state = option_map string_bytes r.state;
  shown = r.shown;
  chunk = r.chunk;
}

-- what waves are asked for with, by the texts that say so
abbrev pub waves_words : WavesRequest → WavesWords
waves_words r = record {
  archs = string_bytes r.files.archs;
  packages = string_bytes r.files.packages;
  sources = string_bytes r.files.sources;
  tracker = string_bytes r.tracker;
  form = r.form;
}

-- what a plan is asked for with, by the texts that say so
abbrev pub plan_words : PlanRequest → PlanWords
plan_words r = record {
  archs = string_bytes r.files.archs;
  packages = string_bytes r.files.packages;
  sources = string_bytes r.files.sources;
  tracker = string_bytes r.tracker;
  state = option_map string_bytes r.state;
  message = string_bytes r.words.message;
  suite = string_bytes r.words.suite;
}

-- what a run is asked for with, by the texts that say so
abbrev pub run_words : RunRequest → RunWords
run_words r = record {
  archs = string_bytes r.files.archs;
  packages = string_bytes r.files.packages;
  sources = string_bytes r.files.sources;
  state = option_map string_bytes r.state;
  tracker = option_map string_bytes r.tracker;
  suite = string_bytes r.suite;
  builders = r.builders;
  outcomes = option_map string_bytes r.outcomes;
  journal = option_map string_bytes r.journal;
}

-- what a desk is asked for with, by the texts that say so
abbrev pub desk_words : DeskRequest → DeskWords
desk_words r = record {
  archs = string_bytes r.files.archs;
  packages = string_bytes r.files.packages;
  sources = string_bytes r.files.sources;
  journal = string_bytes r.journal;
  state = option_map string_bytes r.state;
  tracker = option_map string_bytes r.tracker;
  suite = string_bytes r.suite;
  waits = r.waits;
}

-- what is asked for, by the texts that say so
pub data RequestWords : Type 0 where
  simulation : RequestWords
  check_of : CheckWords → RequestWords
  report_of : TrackWords → RequestWords
  waves_of : WavesWords → RequestWords
  plan_of : PlanWords → RequestWords
  run_of : RunWords → RequestWords
  desk_of : DeskWords → RequestWords

-- the texts of a request
abbrev pub request_words : Request → RequestWords
request_words Simulate = simulation
request_words (Check r) = check_of (check_words r)
request_words (Track r) = report_of (track_words r)
request_words (Waves r) = waves_of (waves_words r)
request_words (Plan r) = plan_of (plan_words r)
request_words (Run r) = run_of (run_words r)
request_words (Desk r) = desk_of (desk_words r)

-- a subcommand asks for just this, with its options, by what is in the folder
abbrev pub IsGivenBy : Present → Option (List ℕ × List Row) → RequestWords → Type 0
IsGivenBy present found simulation = name_in found ≡ Some (codes "simulate")
IsGivenBy present found (check_of w) =
    (name_in found ≡ Some (codes "check")) × HasCheck (rows_in found) w
IsGivenBy present found (report_of w) =
    (name_in found ≡ Some (codes "track")) × HasTrack present (rows_in found) w
IsGivenBy present found (waves_of w) =
    (name_in found ≡ Some (codes "waves")) × HasWaves present (rows_in found) w
IsGivenBy present found (plan_of w) =
    (name_in found ≡ Some (codes "plan")) × HasPlan present (rows_in found) w
IsGivenBy present found (run_of w) =
    (name_in found ≡ Some (codes "run")) × HasRun present (rows_in found) w
IsGivenBy present found (desk_of w) =
    (name_in found ≡ Some (codes "desk")) × HasDesk present (rows_in found) w

-- the words of a command line ask for just this, and nothing is wrong with them
abbrev pub Asks : Present → List (List ℕ) → RequestWords → Type 0
Asks present words asked =
    (faults_of words ≡ []) × IsGivenBy present (subcommand_of desk words) asked

-- ---- the parts of the reading

-- a request, explained or not
abbrev pub call_as : Result Request WordsFault → Bool → Result Call WordsFault
call_as (Ok request) explained = Ok (record { request = request; explained = explained })
call_as (Err fault) explained = Err fault

-- the fault says this text, unless memory ran out for it
abbrev pub IsUsage : WordsFault → List ℕ → Type 0
IsUsage (Usage said) text = string_bytes said ≡ text
IsUsage NoMemory text = Unit {0}

-- the text about a chunk of any other number
abbrev pub chunk_said : List ℕ
chunk_said = codes "error: --chunk takes a number from 1 to 1000000\n"

-- the text about a report's options: about its chunk, or else about the rows that it shows
abbrev pub track_said : List Row → List ℕ
track_said options = if is_some (chunk_in (first_of (codes "chunk") options)) then shown_said
    else chunk_said

-- the text about any other number of builders
abbrev pub builders_said : List ℕ
builders_said = codes "error: --builders takes a number from 0 to 64\n"

-- the files have these paths
pub record AreFilesOf (archs packages sources : List ℕ) (files : ArchivePaths) : Type 0 where
  pub same_archs : string_bytes files.archs ≡ archs
  pub same_packages : string_bytes files.packages ≡ packages
  pub same_sources : string_bytes files.sources ≡ sources

-- the files are those that these options give
abbrev pub AreFilesIn : List Row → ArchivePaths → Type 0
AreFilesIn options files =
    HasFiles options (string_bytes files.archs) (string_bytes files.packages)
    (string_bytes files.sources)
