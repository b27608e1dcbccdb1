-- What is answered to words, by what they were read as.
use Rattle.std.proofs.Common.{◌≡◌, ℕ, Bool, List, Option, Some, Result, Ok, Err, IfOk}
use Rattle.std.proofs.Common.{IfErr, IsOkAnd, MatchResult, None, String, Vec, map}
use Rattle.std.proofs.Common.{string_bytes}
use Rattle.std.proofs.Common.{true, false, inl, inr, refl, sym, ap, subst, ◌∙◌}
use Rattle.std.specs.declared.alloc.Global.{Global}
use Rattle.std.specs.Io.KnownBytes.{Keeps}
use Rattle.td_bytes.specs.declared.text.TextFault.{TextFault}
use Rattle.td_report.specs.Transition.{IsReportOf}
use Rattle.td_words.specs.Asked.{RequestWords, check_of, desk_of, plan_of, report_of}
use Rattle.td_words.specs.Asked.{request_words}
use Rattle.td_words.specs.Asked.{run_of, simulation, waves_of}
use Rattle.td_words.specs.CheckWords.{CheckWords}
use Rattle.td_words.specs.CommandLine.{RunWords, TrackWords, WavesWords, is_explained, options_of}
use Rattle.td_words.specs.DeskWords.{DeskWords}
use Rattle.td_words.specs.PlanWords.{PlanWords}
use Rattle.td_tool.specs.FolderFiles.{AskFound, Causes, TellsWhich}
use Rattle.td_words.specs.declared.request.Call.{Call}
use Rattle.td_words.specs.declared.request.Request.{Request}
use Rattle.td_words.specs.declared.request.Request.TheVariants.{Simulate, Check, Track, Waves}
use Rattle.td_words.specs.declared.request.Request.TheVariants.{Plan, Run, Desk}
use Rattle.td_words.specs.declared.request.WordsFault.{WordsFault}
use Rattle.td_words.specs.declared.request.WordsFault.TheVariants as words_fault
use Rattle.td_tool.specs.declared.ending.Ending.{Ending}
use Rattle.td_tool.specs.declared.ending.Ending.TheVariants.{NoMemory}
use Rattle.td_inputs.specs.declared.role.Role.{Role}
use Rattle.td_tool.specs.Ends.{Ends}
use Rattle.td_tool.specs.Explained.{Given, check_paths, desk_paths, known_at}
use Rattle.td_tool.specs.Explained.{known_input, plan_paths, run_paths}
use Rattle.td_tool.specs.Explained.{track_paths, waves_paths}
use Rattle.td_tool.specs.Program.{IsTold, LeavesInput, OnlyIfAsked, RanFor, are_explained}
use Rattle.td_tool.specs.CheckEnds.{CheckEnds, CheckEndsWith}
use Rattle.td_tool.specs.Program.{files_asked, plan_files, waves_files, words_asked}
use Rattle.td_tool.specs.Desks.{DeskFiles, EndsDesk, desk_files_asked}
use Rattle.td_tool.specs.Runs.{AreNotes, EndsRun, run_files_asked}
use Rattle.td_tool.specs.Tracks.{EndsSo, IsPlanWith, waves_says}
use Rattle.td_tool.specs.Ran.{NoNotes, Ran}
use Rattle.td_tool.specs.Streams.{DueTo}
use Rattle.td_tool.proofs.Explanations.{line_alone}
use Rattle.td_tool.proofs.Stops.{kept_only}
use Rattle.td_tool.proofs.SureRuns.{play_only}

-- what is answered to words that are lent is answered to those that were given
pub of_given : {E : Type 0} (AsksFor : List (List ℕ) → Type 0) (Done : Bool → Type 0)
    (words : Result (Vec (String Global) Global) E) (given : Vec (String Global) Global)
    (lent : List (String Global)) → words ≡ Ok given → lent ≡ given.items
    → (AsksFor (map string_bytes lent) → Done (is_explained (options_of (map string_bytes lent))))
    → IsOkAnd words (λ given. AsksFor (map string_bytes given.items)) → Done (are_explained words)
of_given AsksFor Done words given lent are same answered asks =
    let here = subst (λ r. IsOkAnd r (λ given. AsksFor (map string_bytes given.items))) are asks in
    subst Done
    (ap (λ l. is_explained (options_of (map string_bytes l))) same ∙ sym (ap are_explained are))
    (answered (subst (λ l. AsksFor (map string_bytes l)) (sym same) here))

module _ (words : List (List ℕ)) (known left : Option (List ℕ))
    (bytes : List ℕ → Option (List ℕ)) (can_fail : List ℕ → TextFault → Bool)
    (desks : DeskFiles) (reads writes : Bool) (old new before said : Option (List ℕ))
    (status : ℕ) where
  -- what was answered, as the functions below have it
  abbrev HasRun : Result Call WordsFault → Type 0
  HasRun r =
      IfOk r (λ c. RanFor c.request c.explained known left bytes can_fail desks reads writes old
      new before said status)

  abbrev WasTold : Result Call WordsFault → Type 0
  WasTold r = IfErr r (λ f. IsTold f old new before said status)

  abbrev HasFlag : Bool → Result Call WordsFault → Type 0
  HasFlag explained r = IfOk r (λ c. c.explained ≡ explained)

  -- what was asked for has run, and is explained if that was asked for; or memory ran out for the
  -- words
  answered : (Did : Ending → Type 0) (Noted : List ℕ → Type 0) (texts : Role → Given)
      (Is : Request → Type 0)
      (r : Result Call WordsFault) (explained : Bool)
      → ((q : Request) (b : Bool)
      → RanFor q b known left bytes can_fail desks reads writes old new before said status
      → Is q
      → Ran Did Noted b texts before said status)
      → (Keeps old new → Did NoMemory) → HasRun r → WasTold r → HasFlag explained r
      → MatchResult r (λ c. Is c.request) (λ e. e ≡ words_fault.NoMemory)
      → Ran Did Noted explained texts before said status
  answered Did Noted texts Is (Ok c) explained runs lacks ran told flag is =
      subst (λ b. Ran Did Noted b texts before said status) flag (runs c.request c.explained ran is)
  answered Did Noted texts Is (Err f) explained runs lacks ran told flag is =
      let lacking = subst (λ x. IsTold x old new before said status) is told in
      record {
        ending = NoMemory;
        notes = None;
        answered = lacking.tells.answered;
        ends = lacks lacking.kept;
        noted = tt;
        says = line_alone explained texts None NoMemory before said lacking.tells.line;
      }

  -- what ran for a request ran for its words
  abbrev RanWords : RequestWords → Bool → Type 0
  RanWords simulation b =
      Ran (DueTo reads writes (Ends known old new)) NoNotes b (known_input known) before said status
  RanWords (check_of w) b =
      Ran (DueTo reads writes (CheckEnds bytes can_fail w old new)) NoNotes b
      (known_at bytes (check_paths w)) before said status
  RanWords (report_of w) b =
      Ran (DueTo reads writes
      (EndsSo (IsReportOf w.shown) (files_asked bytes can_fail w) old new)) NoNotes b
      (known_at bytes (track_paths w)) before said status
  RanWords (waves_of w) b =
      Ran (DueTo reads writes
      (EndsSo (waves_says w.form) (waves_files bytes can_fail w) old new)) NoNotes b
      (known_at bytes (waves_paths w)) before said status
  RanWords (plan_of w) b =
      Ran (DueTo reads writes
      (EndsSo (IsPlanWith (words_asked w)) (plan_files bytes can_fail w) old new)) NoNotes b
      (known_at bytes (plan_paths w)) before said status
  RanWords (run_of w) b =
      Ran (DueTo reads writes
      (EndsRun (run_files_asked bytes can_fail w) w.suite known left old new))
      (AreNotes (run_files_asked bytes can_fail w) w.suite known) b
      (known_at bytes (run_paths w)) before said status
  RanWords (desk_of w) b =
      Ran (DueTo reads writes
      (EndsDesk (desk_files_asked bytes can_fail w) desks w known left old new))
      NoNotes b (known_at bytes (desk_paths w)) before said status

  ran_words : (q : Request) (b : Bool)
      → RanFor q b known left bytes can_fail desks reads writes old new before said status
      → RanWords (request_words q) b
  ran_words Simulate b ran = ran
  ran_words (Check p) b ran = ran
  ran_words (Track r) b ran = ran
  ran_words (Waves r) b ran = ran
  ran_words (Plan r) b ran = ran
  ran_words (Run r) b ran = ran
  ran_words (Desk r) b ran = ran

  ran_same : (w : RequestWords) (q : Request) (b : Bool)
      → RanFor q b known left bytes can_fail desks reads writes old new before said status
      → request_words q ≡ w
      → RanWords w b
  ran_same w q b ran is = subst (λ v. RanWords v b) is (ran_words q b ran)

  pub simulated : (r : Result Call WordsFault) (explained : Bool) → HasRun r → WasTold r
      → HasFlag explained r
      → MatchResult r (λ c. c.request ≡ Simulate) (λ e. e ≡ words_fault.NoMemory)
      → Ran (DueTo reads writes (Ends known old new)) NoNotes explained (known_input known) before
      said
      status
  simulated r explained =
      answered (DueTo reads writes (Ends known old new)) NoNotes (known_input known)
      (λ q. q ≡ Simulate) r explained
      (λ q b ran is. subst (λ x.
      RanFor x b known left bytes can_fail desks reads writes old new before said status) is ran)
      (λ kept. (record { says = kept; only = kept_only known old new kept }, tt))

  -- memory ran out for the words of a check
  check_lacks : (tracker : Option (List ℕ)) (w : CheckWords) → Keeps old new
      → CheckEndsWith tracker bytes can_fail w old new NoMemory
  check_lacks None w kept = record { says = kept; only = λ c is. kept }
  check_lacks (Some path) w kept =
      record { says = inl (refl, kept); only = λ x are readable. kept }

  pub checked : (r : Result Call WordsFault) (explained : Bool) (w : CheckWords) → HasRun r
      → WasTold r → HasFlag explained r
      → MatchResult r (λ c. request_words c.request ≡ check_of w) (λ e. e ≡ words_fault.NoMemory)
      → Ran (DueTo reads writes (CheckEnds bytes can_fail w old new))
      NoNotes explained (known_at bytes (check_paths w)) before said status
  checked r explained w =
      answered
      (DueTo reads writes (CheckEnds bytes can_fail w old new))
      NoNotes (known_at bytes (check_paths w)) (λ q. request_words q ≡ check_of w) r
      explained (ran_same (check_of w))
      (λ kept. (check_lacks w.tracker w kept, tt))

  pub tracked : (r : Result Call WordsFault) (explained : Bool) (w : TrackWords) → HasRun r
      → WasTold r → HasFlag explained r
      → MatchResult r (λ c. request_words c.request ≡ report_of w) (λ e. e ≡ words_fault.NoMemory)
      → Ran (DueTo reads writes
      (EndsSo (IsReportOf w.shown) (files_asked bytes can_fail w) old new))
      NoNotes explained (known_at bytes (track_paths w)) before said status
  tracked r explained w =
      answered (DueTo reads writes
      (EndsSo (IsReportOf w.shown) (files_asked bytes can_fail w) old new))
      NoNotes (known_at bytes (track_paths w)) (λ q. request_words q ≡ report_of w) r explained
      (ran_same (report_of w))
      (λ kept. (record { says = inl (refl, kept); only = λ x are readable. kept }, tt))

  pub waved : (r : Result Call WordsFault) (explained : Bool) (w : WavesWords) → HasRun r
      → WasTold r → HasFlag explained r
      → MatchResult r (λ c. request_words c.request ≡ waves_of w) (λ e. e ≡ words_fault.NoMemory)
      → Ran (DueTo reads writes
      (EndsSo (waves_says w.form) (waves_files bytes can_fail w) old new))
      NoNotes explained (known_at bytes (waves_paths w)) before said status
  waved r explained w =
      answered (DueTo reads writes
      (EndsSo (waves_says w.form) (waves_files bytes can_fail w) old new))
      NoNotes (known_at bytes (waves_paths w)) (λ q. request_words q ≡ waves_of w) r explained
      (ran_same (waves_of w))
      (λ kept. (record { says = inl (refl, kept); only = λ x are readable. kept }, tt))

  pub planned : (r : Result Call WordsFault) (explained : Bool) (w : PlanWords) → HasRun r
      → WasTold r → HasFlag explained r
      → MatchResult r (λ c. request_words c.request ≡ plan_of w) (λ e. e ≡ words_fault.NoMemory)
      → Ran (DueTo reads writes
      (EndsSo (IsPlanWith (words_asked w)) (plan_files bytes can_fail w) old new))
      NoNotes explained (known_at bytes (plan_paths w)) before said status
  planned r explained w =
      answered (DueTo reads writes
      (EndsSo (IsPlanWith (words_asked w)) (plan_files bytes can_fail w) old new))
      NoNotes (known_at bytes (plan_paths w)) (λ q. request_words q ≡ plan_of w) r explained
      (ran_same (plan_of w))
      (λ kept. (record { says = inl (refl, kept); only = λ x are readable. kept }, tt))

  pub ran_script : (r : Result Call WordsFault) (explained : Bool) (w : RunWords) → HasRun r
      → WasTold r → HasFlag explained r
      → MatchResult r (λ c. request_words c.request ≡ run_of w) (λ e. e ≡ words_fault.NoMemory)
      → Ran (DueTo reads writes
      (EndsRun (run_files_asked bytes can_fail w) w.suite known left old new))
      (AreNotes (run_files_asked bytes can_fail w) w.suite known)
      explained (known_at bytes (run_paths w)) before said status
  ran_script r explained w =
      answered (DueTo reads writes
      (EndsRun (run_files_asked bytes can_fail w) w.suite known left old new))
      (AreNotes (run_files_asked bytes can_fail w) w.suite known)
      (known_at bytes (run_paths w)) (λ q. request_words q ≡ run_of w) r explained
      (ran_same (run_of w))
      (λ kept. (
        record {
          says = inl (refl, kept);
          only = λ x are. play_only w.builders x w.suite known NoMemory tt;
          untouched = λ tells. (let other : false ≡ true = tells in absurd cc);
        },
        tt,
      ))

  pub kept_desk : (r : Result Call WordsFault) (explained : Bool) (w : DeskWords) → HasRun r
      → WasTold r → HasFlag explained r
      → MatchResult r (λ c. request_words c.request ≡ desk_of w) (λ e. e ≡ words_fault.NoMemory)
      → Ran (DueTo reads writes
      (EndsDesk (desk_files_asked bytes can_fail w) desks w known left old new))
      NoNotes explained (known_at bytes (desk_paths w)) before said status
  kept_desk r explained w =
      answered (DueTo reads writes
      (EndsDesk (desk_files_asked bytes can_fail w) desks w known left old new))
      NoNotes (known_at bytes (desk_paths w)) (λ q. request_words q ≡ desk_of w) r explained
      (ran_same (desk_of w))
      (λ kept. (
        record {
          says = inl (refl, kept);
          only = λ x are readable. tt;
          untouched = λ tells. (let other : false ≡ true = tells in absurd cc);
          locked = λ other. absurd cc;
        },
        tt,
      ))

  pub only_asked : (can_be : Causes) (r : Result Call WordsFault) → HasRun r → WasTold r
      → HasFlag (is_explained (options_of words)) r
      → MatchResult r (λ c. LeavesInput c.request known left) (λ f. Keeps known left)
      → IfOk r (λ c. AskFound can_be words (request_words c.request))
      → IfErr r (TellsWhich can_be words)
      → OnlyIfAsked can_be words known left bytes can_fail desks reads writes old new before said
      status
  only_asked can_be (Ok c) ran told flag input asks which =
      inl (
        c.request,
        asks,
        input,
        subst (λ b. RanFor c.request b known left bytes can_fail desks reads writes old new before
            said status) flag ran,
      )
  only_asked can_be (Err (words_fault.Usage text)) ran told flag input asks which =
      inr (inl (string_bytes text, which, told.tells), input, told.kept)
  only_asked can_be (Err words_fault.NoMemory) ran told flag input asks which =
      inr (inr told.tells, input, told.kept)
