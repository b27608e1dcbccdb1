-- A file of a run that wasn't read, after those that were.
use Rattle.std.proofs.Common.{◌≡◌, ℕ, List, Option, None, Result, Ok, Err, IfErr, IsErrAnd, sym}
use Rattle.std.proofs.Common.{subst}
use Rattle.td_tool.specs.declared.file_texts.FileFault.{FileFault}
use Rattle.td_inputs.specs.declared.role.Role.{Role}
use Rattle.td_inputs.specs.declared.role.Role.TheVariants.{State, Tracker, Outcomes, Journal}
use Rattle.td_tool.specs.Checks.{AreTexts}
use Rattle.td_tool.specs.CheckInside.{HasFailedIn}
use Rattle.td_tool.specs.RunInside.{HasRunFailed}
use Rattle.td_tool.specs.Runs.{AreBeforeJournal, AreBeforeOutcomes, AreBeforeState}
use Rattle.td_tool.specs.Runs.{AreBeforeTracker, FailsAt, FailsIfGiven, RunFiles, Texts}
use Rattle.td_tool.specs.TrackInside.{HasFailedIfGiven}
use Rattle.td_tool.specs.Tracks.{IsTextIfGiven, OneFile}
use Rattle.td_tool.proofs.Told.{index_fails}

pub run_fails_first : (files : RunFiles) (f : FileFault) → HasFailedIn files.indices f
    → HasRunFailed files f
run_fails_first files f failed =
    index_fails files.indices (λ role. FailsAt files role f.fault) f.role f.fault
    (λ h. h) (λ h. h) (λ h. h) failed

-- a fault that is passed on is the one that was found
pub passed_on : {T : Type 0} (Holds : FileFault → Type 0) (f : FileFault) (r : Result T FileFault)
    → IsErrAnd r (λ e. e ≡ f) → Holds f → IfErr r Holds
passed_on Holds f (Ok x) is holds = tt
passed_on Holds f (Err e) is holds = subst Holds (sym is) holds

-- ---- after the indices

-- the texts that were read so far
abbrev so_far : List ℕ → List ℕ → List ℕ → Option (List ℕ) → Option (List ℕ)
    → Option (List ℕ) → Texts
so_far a p s state tracker outcomes = record {
  archs = a;
  packages = p;
  sources = s;
  state = state;
  tracker = tracker;
  outcomes = outcomes;
  journal = None;
}

-- the file of a role wasn't read, after texts that were
fails_behind : (files : RunFiles) (f : FileFault) (role : Role) (file : Option OneFile)
    (Before : Type 0) → (Before × FailsIfGiven file f.fault → FailsAt files role f.fault) → Before
    → HasFailedIfGiven file role f → HasRunFailed files f
fails_behind files f role file Before fails before failed =
    subst (λ r. FailsAt files r f.fault) (sym failed.failed.asked)
    (fails (before, (failed.file, failed.given, failed.failed.may)))

pub run_fails_state : (files : RunFiles) (f : FileFault) (a p s : List ℕ)
    → AreTexts files.indices a p s → HasFailedIfGiven files.state State f → HasRunFailed files f
run_fails_state files f a p s texts =
    fails_behind files f State files.state ((x : Texts) × AreBeforeState files x) (λ h. h)
    (so_far a p s None None None, texts)

pub run_fails_tracker : (files : RunFiles) (f : FileFault) (a p s : List ℕ)
    (state : Option (List ℕ)) → AreTexts files.indices a p s → IsTextIfGiven files.state state
    → HasFailedIfGiven files.tracker Tracker f → HasRunFailed files f
run_fails_tracker files f a p s state texts first =
    fails_behind files f Tracker files.tracker ((x : Texts) × AreBeforeTracker files x) (λ h. h)
    (so_far a p s state None None, (texts, first))

pub run_fails_outcomes : (files : RunFiles) (f : FileFault) (a p s : List ℕ)
    (state tracker : Option (List ℕ)) → AreTexts files.indices a p s
    → IsTextIfGiven files.state state
    → IsTextIfGiven files.tracker tracker → HasFailedIfGiven files.outcomes Outcomes f
    → HasRunFailed files f
run_fails_outcomes files f a p s state tracker texts first second =
    fails_behind files f Outcomes files.outcomes ((x : Texts) × AreBeforeOutcomes files x) (λ h. h)
    (so_far a p s state tracker None, ((texts, first), second))

pub run_fails_journal : (files : RunFiles) (f : FileFault) (a p s : List ℕ)
    (state tracker outcomes : Option (List ℕ)) → AreTexts files.indices a p s
    → IsTextIfGiven files.state state
    → IsTextIfGiven files.tracker tracker → IsTextIfGiven files.outcomes outcomes
    → HasFailedIfGiven files.journal Journal f → HasRunFailed files f
run_fails_journal files f a p s state tracker outcomes texts first second third =
    fails_behind files f Journal files.journal ((x : Texts) × AreBeforeJournal files x) (λ h. h)
    (so_far a p s state tracker outcomes, (((texts, first), second), third))
