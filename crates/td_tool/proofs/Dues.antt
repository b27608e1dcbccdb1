-- A run ends for a stream only if that may fail.
use Rattle.std.proofs.Common.{◌≡◌, ◌≢◌, ℕ, ◌==◌, List, Option, Bool, true, false, Result, Ok, Err}
use Rattle.std.proofs.Common.{IfOk, IfErr, String, ap, if◌then◌else◌, inl, inr, refl, subst, sym}
use Rattle.std.proofs.Common.{◌∙◌}
use Rattle.std.specs.Prelude.{IsErrOf, MatchResult, None, Some, OnOk, OnSome}
use Rattle.std.specs.declared.alloc.Global.{Global}
use Rattle.td_bytes.specs.declared.text.TextFault.{TextFault}
use Rattle.td_bytes.specs.declared.text.TextFault.TheVariants as text
use Rattle.td_crew.specs.declared.running.CrewFault.{CrewFault}
use Rattle.td_crew.specs.declared.running.CrewFault.TheVariants as crew
use Rattle.td_script.specs.declared.running.RunFault.{RunFault}
use Rattle.td_script.specs.declared.running.RunFault.TheVariants as stopped
use Rattle.td_script.specs.declared.running.ScriptEnd.{ScriptEnd}
use Rattle.td_inputs.specs.declared.role.Role.{Role}
use Rattle.td_inputs.specs.declared.role.Role.TheVariants.{Input, Archs, Packages, Sources, State}
use Rattle.td_inputs.specs.declared.role.Role.TheVariants.{Tracker, Outcomes, Journal}
use Rattle.td_simulate.specs.declared.fault.SimulationFault.{SimulationFault}
use Rattle.td_simulate.specs.declared.fault.SimulationFault.TheVariants as simulation
use Rattle.td_words.specs.CheckWords.{CheckWords}
use Rattle.td_tool.specs.declared.ending.Ended.{Ended}
use Rattle.td_tool.specs.declared.ending.Ending.{Ending}
use Rattle.td_tool.specs.declared.ending.Ending.TheVariants.{Done, Refused, BadInput, NoMemory}
use Rattle.td_tool.specs.declared.ending.Ending.TheVariants.{CannotRead, CannotWrite}
use Rattle.td_tool.specs.declared.ending.Ending.TheVariants.{Locked, CannotKeep}
use Rattle.td_tool.specs.CheckEnds.{CheckEndsWith}
use Rattle.td_tool.specs.CheckInside.{ArchiveText, IsCounted, IsNoArchive, WritesSo}
use Rattle.td_tool.specs.Checks.{CheckSays, HasFailed, files_of}
use Rattle.td_tool.specs.Ending.{ending_of_file, ending_of_simulation, ending_of_stop}
use Rattle.td_tool.specs.Ending.{ending_of_text}
use Rattle.td_tool.specs.Played.{IsUnread, kept_of}
use Rattle.td_tool.specs.RunInside.{HasNoInputs}
use Rattle.td_tool.specs.Runs as run
use Rattle.td_tool.specs.Runs.{RunFiles, ending_of_crew, ending_of_script}
use Rattle.td_tool.specs.Streams.{IsDue}
use Rattle.td_tool.specs.TrackInside.{OrMemory}
use Rattle.td_tool.specs.Tracks as track
use Rattle.td_tool.specs.Tracks.{AreRefused, EndsBy, Saying, SaysSo, Texts, TrackFiles}
use Rattle.td_tool.proofs.FormEndings.{form_ends}

-- ---- 1. a script, without builders and with them

answered : (input output none_refused : Bool)
    → IsDue input output (if none_refused then Done else Refused)
answered input output true = tt
answered input output false = tt

stop_due : (input output : Bool) (e : RunFault) → (e ≡ stopped.Read → input ≡ true)
    → (e ≡ stopped.Write → output ≡ true) → IsDue input output (ending_of_stop e)
stop_due input output (stopped.Input e) read write =
    form_ends (IsDue input output) tt (λ role e. tt) e
stop_due input output stopped.Read read write = read refl
stop_due input output stopped.TooLong read write = tt
stop_due input output stopped.NotText read write = tt
stop_due input output stopped.Write read write = write refl
stop_due input output stopped.NoMemory read write = tt

pub script_due : (input output : Bool) (r : Result ScriptEnd RunFault) (ending : Ending)
    → ending ≡ ending_of_script r → (IsErrOf r stopped.Read → input ≡ true)
    → (IsErrOf r stopped.Write → output ≡ true) → IsDue input output ending
script_due input output (Ok end) ending is read write =
    subst (IsDue input output) (sym is) (answered input output (end.refusals == 0))
script_due input output (Err e) ending is read write =
    subst (IsDue input output) (sym is)
    (stop_due input output e (λ same. read (ap (λ (f : RunFault). Err f) same))
    (λ same. write (ap (λ (f : RunFault). Err f) same)))

pub crew_due : (input output : Bool) (r : Result ScriptEnd CrewFault) (ending : Ending)
    → ending ≡ ending_of_crew r → (IsErrOf r (crew.Run stopped.Read) → input ≡ true)
    → (IsErrOf r (crew.Run stopped.Write) → output ≡ true) → IsDue input output ending
crew_due input output (Ok end) ending is read write =
    subst (IsDue input output) (sym is) (answered input output (end.refusals == 0))
crew_due input output (Err (crew.Run e)) ending is read write =
    subst (IsDue input output) (sym is)
    (stop_due input output e (λ same. read (ap (λ (f : RunFault). Err (crew.Run f)) same))
    (λ same. write (ap (λ (f : RunFault). Err (crew.Run f)) same)))
crew_due input output (Err (crew.BadOutcome n)) ending is read write =
    subst (IsDue input output) (sym is) tt

-- ---- 2. a file

unread_due : (input output : Bool) (role : Role) → (role ≡ Input → ⊥)
    → IsDue input output (CannotRead role)
unread_due input output Input other = absurd (other refl)
unread_due input output Archs other = tt
unread_due input output Packages other = tt
unread_due input output Sources other = tt
unread_due input output State other = tt
unread_due input output Tracker other = tt
unread_due input output Outcomes other = tt
unread_due input output Journal other = tt

file_due : (input output : Bool) (role : Role) (fault : TextFault) → (role ≡ Input → ⊥)
    → IsDue input output (ending_of_file role fault)
file_due input output role text.CannotRead other = unread_due input output role other
file_due input output role text.TooLong other = unread_due input output role other
file_due input output role text.NotText other = tt
file_due input output role text.NoMemory other = tt

pub inputs_due : (input output : Bool) (files : RunFiles) (ending : Ending)
    → HasNoInputs files ending → IsDue input output ending
inputs_due input output files ending (inl is) = subst (IsDue input output) (sym is) tt
inputs_due input output files ending (inr (role, fault, fails, is)) =
    subst (IsDue input output) (sym is)
    (file_due input output role fault (λ same. subst (λ r. run.FailsAt files r fault) same fails))

pub file_unwritten : (role : Role) (fault : TextFault) → ending_of_file role fault ≢ CannotWrite
file_unwritten role text.CannotRead = λ is. cc
file_unwritten role text.TooLong = λ is. cc
file_unwritten role text.NotText = λ is. cc
file_unwritten role text.NoMemory = λ is. cc

-- ---- 3. the archive

no_input : (bytes : List ℕ → Option (List ℕ)) (can_fail : List ℕ → TextFault → Bool)
    (archs packages sources : List ℕ) (role : Role) (fault : TextFault)
    → HasFailed (files_of bytes can_fail archs packages sources) role fault → role ≡ Input → ⊥
no_input bytes can_fail archs packages sources role fault failed same =
    let may : false ≡ true =
    (subst (λ r. HasFailed (files_of bytes can_fail archs packages sources) r fault) same
    failed).may in
    cc

check_due : (input output details : Bool) (bytes : List ℕ → Option (List ℕ))
    (can_fail : List ℕ → TextFault → Bool) (archs packages sources : List ℕ)
    (old new : Option (List ℕ)) (ending : Ending)
    → CheckSays details (files_of bytes can_fail archs packages sources) old new ending
    → (ending ≡ CannotWrite → output ≡ true) → IsDue input output ending
check_due input output details bytes can_fail a p s old new Done says write = tt
check_due input output details bytes can_fail a p s old new Refused says write = tt
check_due input output details bytes can_fail a p s old new (BadInput role e) says write = tt
check_due input output details bytes can_fail a p s old new NoMemory says write = tt
check_due input output details bytes can_fail a p s old new (CannotRead role) (inl failed, kept)
    write =
    unread_due input output role (no_input bytes can_fail a p s role text.CannotRead failed)
check_due input output details bytes can_fail a p s old new (CannotRead role) (inr failed, kept)
    write =
    unread_due input output role (no_input bytes can_fail a p s role text.TooLong failed)
check_due input output details bytes can_fail a p s old new CannotWrite says write = write refl
check_due input output details bytes can_fail a p s old new Locked says write = tt
check_due input output details bytes can_fail a p s old new CannotKeep says write = tt

-- if there is no text to be written, no write has failed
pub text_uncounted : (says : ArchiveText) (a p s : List ℕ) (counted : Result (String Global) Ending)
    → IsCounted says a p s counted → IfErr counted (λ e. e ≢ CannotWrite)
text_uncounted says a p s (Ok text) counted = tt
text_uncounted says a p s (Err e) counted =
    λ same. subst (IsNoArchive a p s) same counted.refused

-- ---- 4. a tracker

text_unwritten : (x : Texts) (ending : Ending) → OrMemory (AreRefused x) ending
    → ending ≢ CannotWrite
text_unwritten x ending (inl (e, has, is)) =
    subst (λ ending. ending ≢ CannotWrite) (sym is)
    (form_ends (λ ending. ending ≢ CannotWrite) (λ same. cc) (λ role e same. cc) e)
text_unwritten x ending (inr is) =
    subst (λ ending. ending ≢ CannotWrite) (sym is) (λ same. cc)

pub texts_unwritten : (x : Texts) (told : Result (String Global) Ending)
    → IfErr told (OrMemory (AreRefused x)) → IfErr told (λ e. e ≢ CannotWrite)
texts_unwritten x (Ok t) refused = tt
texts_unwritten x (Err e) refused = text_unwritten x e refused

written_due : (input output : Bool) (line : List ℕ) (old new : Option (List ℕ)) (ending : Ending)
    → WritesSo line old new ending → (ending ≡ CannotWrite → output ≡ true)
    → IsDue input output ending
written_due input output line old new Done so write = tt
written_due input output line old new Refused so write = tt
written_due input output line old new (BadInput role e) so write = tt
written_due input output line old new NoMemory so write = tt
written_due input output line old new (CannotRead role) so write = absurd so
written_due input output line old new CannotWrite so write = write refl
written_due input output line old new Locked so write = absurd so
written_due input output line old new CannotKeep so write = absurd so

says_due : (input output : Bool) (Says : Texts → Saying) (files : TrackFiles)
    (old new : Option (List ℕ)) (ending : Ending) → SaysSo Says files old new ending
    → (ending ≡ CannotWrite → output ≡ true) → IsDue input output ending
says_due input output Says files old new ending (inl (is, kept)) write =
    subst (IsDue input output) (sym is) tt
says_due input output Says files old new ending (inr (inl ((role, fault, fails, is), kept)))
    write =
    subst (IsDue input output) (sym is)
    (file_due input output role fault
    (λ same. subst (λ r. track.FailsAt files r fault) same fails))
says_due input output Says files old new ending
    (inr (inr (x, are, inl ((e, has, is), kept)))) write =
    subst (IsDue input output) (sym is) (form_ends (IsDue input output) tt (λ role e. tt) e)
says_due input output Says files old new ending
    (inr (inr (x, are, inr (line, says, so)))) write =
    written_due input output line old new ending so write

pub track_due : (input output : Bool) (Says : Texts → Saying) (files : TrackFiles)
    (old new : Option (List ℕ)) (ending : Ending) → EndsBy Says files old new ending
    → (ending ≡ CannotWrite → output ≡ true) → IsDue input output ending
track_due input output Says files old new ending ends write =
    says_due input output Says files old new ending ends.says write

-- a check, with a tracker or without
pub asked_check_due : (input output : Bool) (tracker : Option (List ℕ))
    (bytes : List ℕ → Option (List ℕ)) (can_fail : List ℕ → TextFault → Bool) (w : CheckWords)
    (old new : Option (List ℕ)) (ending : Ending)
    → CheckEndsWith tracker bytes can_fail w old new ending
    → (ending ≡ CannotWrite → output ≡ true) → IsDue input output ending
asked_check_due input output None bytes can_fail w old new ending ends write =
    check_due input output w.details bytes can_fail w.archs w.packages w.sources old new ending
    ends.says write
asked_check_due input output (Some path) bytes can_fail w old new ending ends write =
    track_due input output _ _ old new ending ends write

-- ---- 5. a simulation

pub simulation_due : (input output : Bool) (e : SimulationFault)
    → IsDue input output (ending_of_simulation e)
simulation_due input output (simulation.Opening s) = tt
simulation_due input output (simulation.BadStep n) = tt
simulation_due input output simulation.NoMemory = tt

-- an ending that is due for an input that can't fail is due for any input
wider : (input output : Bool) (ending : Ending) → IsDue false output ending
    → IsDue input output ending
wider input output Done due = tt
wider input output Refused due = tt
wider input output (BadInput role e) due = tt
wider input output NoMemory due = tt
wider input output (CannotRead Input) due = (let other : false ≡ true = due in cc)
wider input output (CannotRead Archs) due = tt
wider input output (CannotRead Packages) due = tt
wider input output (CannotRead Sources) due = tt
wider input output (CannotRead State) due = tt
wider input output (CannotRead Tracker) due = tt
wider input output (CannotRead Outcomes) due = tt
wider input output (CannotRead Journal) due = tt
wider input output CannotWrite due = due
wider input output Locked due = tt
wider input output CannotKeep due = tt

text_due : (input output : Bool) (f : TextFault) → (f ≡ text.CannotRead → input ≡ true)
    → IsDue input output (ending_of_text f)
text_due input output text.CannotRead read = read refl
text_due input output text.TooLong read = tt
text_due input output text.NotText read = tt
text_due input output text.NoMemory read = tt

pub play_due : (input output : Bool) (read : Result (String Global) TextFault)
    (old new : Option (List ℕ)) (ending : Ending)
    → (IsErrOf read text.CannotRead → input ≡ true) → OnOk read (IsDue false output ending)
    → IfErr read (λ f. IsUnread f old new ending) → IsDue input output ending
play_due input output (Ok t) old new ending failed due unread = wider input output ending due
play_due input output (Err f) old new ending failed due unread =
    subst (IsDue input output) (sym unread.ends)
    (text_due input output f (λ same. failed (ap (λ (g : TextFault). Err g) same)))

-- ---- 6. no read has failed if a text is kept

pub kept_steady : (P : Type 0) (read : Result (String Global) TextFault)
    (input : Option (String Global)) → input ≡ kept_of read → OnOk read P → OnSome input P
kept_steady P (Ok text) input is holds = subst (λ i. OnSome i P) (sym is) holds
kept_steady P (Err fault) input is holds = subst (λ i. OnSome i P) (sym is) tt

pub steady_alone : (P : Type 0) (ending : Ending) (made : Ended)
    → made ≡ record { ending = ending; input = None; notes = None } → OnSome made.input P
steady_alone P ending made is = subst (λ (x : Ended). OnSome x.input P) (sym is) tt
