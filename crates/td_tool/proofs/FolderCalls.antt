-- What is said of words, by what the folder was found to have that they give.
use Rattle.std.proofs.Common.{◌≡◌, ℕ, List, [], Option, Some, None, Result, Ok, Err, IfErr}
use Rattle.std.proofs.Common.{Bool, true, false, String, codes, option_map, string_bytes, refl, sym}
use Rattle.std.proofs.Common.{subst, inl, inr}
use Rattle.std.specs.declared.alloc.Global.{Global}
use Rattle.std.specs.Prelude.{◌&&◌, not}
use Rattle.td_words.specs.Asked.{IsUsage, builders_said, track_said}
use Rattle.td_words.specs.CheckWords.{check_said}
use Rattle.td_words.specs.CommandLine.{AskFor, HasFiles, HasTracker, faults_of, options_of}
use Rattle.td_words.specs.Folder.{folder_in, in_folder, path_if, tracker_said}
use Rattle.td_words.specs.PlanWords.{HasMessage, line_words_said}
use Rattle.td_words.specs.declared.present.Present.{Present}
use Rattle.td_words.specs.declared.request.Call.{Call}
use Rattle.td_words.specs.declared.request.WordsFault.{WordsFault}
use Rattle.td_words.specs.declared.request.WordsFault.TheVariants.{NoMemory, Usage}
use Rattle.td_tool.specs.Limits.{file_limit}
use Rattle.td_tool.specs.declared.cause.Cause.{Cause}
use Rattle.td_tool.specs.FolderFiles.{CanBeFound, CanBePresent, CanBeThere, CanFind, Causes}
use Rattle.td_tool.specs.FolderFiles.{TellsWhich}
use Rattle.td_tool.specs.FolderFiles.{is_folder, leads_nowhere}

-- whether a file counts as being in a folder is by why the folder and the file's path can't be read
pub there_by : (can_be : Causes) (folder name path : List ℕ) (above found : Option Cause)
    → path ≡ in_folder name folder → can_be folder file_limit above ≡ true
    → can_be path file_limit found ≡ true
    → CanBeThere can_be folder name (not (is_folder above && leads_nowhere found))
there_by can_be folder name path above found same can_above can_found =
    go (is_folder above) (leads_nowhere found) (above, refl, can_above)
    (found, refl, subst (λ p. can_be p file_limit found ≡ true) same can_found)
  where
    go : (b n : Bool) → CanFind can_be folder is_folder b
        → CanFind can_be (in_folder name folder) leads_nowhere n
        → CanBeThere can_be folder name (not (b && n))
    go true true one two = (one, two)
    go true false one two = inr two
    go false true one two = inl one
    go false false one two = inl one

-- a folder may be found to have these files, if each may count so in it
pub present_by : (can_be : Causes) (given : Option (String Global)) (folder : String Global)
    (text : List ℕ) (state tracker journal : Bool) → given ≡ Some folder
    → text ≡ string_bytes folder → CanBeThere can_be text (codes "state") state
    → CanBeThere can_be text (codes "tracker") tracker
    → CanBeThere can_be text (codes "journal") journal
    → CanBePresent can_be (option_map string_bytes given)
    (record { state = state; tracker = tracker; journal = journal })
present_by can_be given folder text state tracker journal is same has_state has_tracker has_own =
    let present : Present = record { state = state; tracker = tracker; journal = journal } in
    subst (λ o. CanBePresent can_be (option_map string_bytes o) present) (sym is)
    (subst (λ f. CanBePresent can_be (Some f) present) same
    (record { of_state = has_state; of_tracker = has_tracker; of_journal = has_own }))

abbrev IsMemory : WordsFault → Type 0
IsMemory (Usage text) = ⊥
IsMemory NoMemory = Unit {0}

-- if the folder is read unless memory runs out, a text says nothing of words without a fault
pub which_unread : (can_be : Causes) (words : List (List ℕ)) (fault : WordsFault)
    → (faults_of words ≡ [] → fault ≡ NoMemory) → TellsWhich can_be words fault
which_unread can_be words NoMemory memory = tt
which_unread can_be words (Usage text) memory =
    let no : faults_of words ≡ [] → ⊥ = λ fine. subst IsMemory (sym (memory fine)) tt in
    record {
      chunk = λ a p s t ask has. absurd (no ask.0);
      plan = λ a p s t message ask has given. absurd (no ask.0);
      builders = λ a p s ask has. absurd (no ask.0);
      check = λ a p s ask has. absurd (no ask.0);
      track_lacks = λ a p s folder ask lacks. absurd (no ask.0);
      waves_lacks = λ a p s folder ask lacks. absurd (no ask.0);
      plan_lacks = λ a p s folder ask lacks. absurd (no ask.0);
    }

-- a fault of a subcommand's words whose folder lacks a tracker says so
abbrev SaysLacking : List ℕ → List (List ℕ) → Present → Result Call WordsFault → Type 0
SaysLacking name words present r =
    (archs packages sources folder : List ℕ) → AskFor name words
    → HasFiles (options_of words) archs packages sources
    → path_if present.tracker (codes "tracker") (options_of words) ≡ None
    → folder_in (options_of words) ≡ Some folder → IfErr r (λ e. IsUsage e tracker_said)

-- what is said of words by what their folder was found to have
pub which_read : (can_be : Causes) (words : List (List ℕ)) (present : Present)
    → CanBeFound can_be words present → (r : Result Call WordsFault)
    → ((archs packages sources tracker : List ℕ) → AskFor (codes "track") words
    → HasTracker present (options_of words) archs packages sources tracker
    → IfErr r (λ e. IsUsage e (track_said (options_of words))))
    → ((archs packages sources tracker message : List ℕ) → AskFor (codes "plan") words
    → HasTracker present (options_of words) archs packages sources tracker
    → HasMessage (options_of words) message
    → IfErr r (λ e. IsUsage e (line_words_said message)))
    → ((archs packages sources : List ℕ) → AskFor (codes "run") words
    → HasFiles (options_of words) archs packages sources
    → IfErr r (λ e. IsUsage e builders_said))
    → ((archs packages sources : List ℕ) → AskFor (codes "check") words
    → HasFiles (options_of words) archs packages sources
    → IfErr r (λ e. IsUsage e check_said))
    → SaysLacking (codes "track") words present r → SaysLacking (codes "waves") words present r
    → SaysLacking (codes "plan") words present r → IfErr r (TellsWhich can_be words)
which_read can_be words present can (Ok call) chunk plan builders check track waves plans = tt
which_read can_be words present can (Err NoMemory) chunk plan builders check track waves plans = tt
which_read can_be words present can (Err (Usage text)) chunk plan builders check track waves plans =
    record {
      chunk = λ a p s t ask has. chunk a p s t ask (has present can);
      plan = λ a p s t message ask has given.
          plan a p s t message ask (has present can) given;
      builders = builders;
      check = check;
      track_lacks = λ a p s folder ask lacks.
          track a p s folder ask lacks.files (lacks.none present can) lacks.folder_path;
      waves_lacks = λ a p s folder ask lacks.
          waves a p s folder ask lacks.files (lacks.none present can) lacks.folder_path;
      plan_lacks = λ a p s folder ask lacks.
          plans a p s folder ask lacks.files (lacks.none present can) lacks.folder_path;
    }
