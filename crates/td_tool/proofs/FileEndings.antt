-- A script that was answered tells of no file that isn't read.
use Rattle.std.proofs.Common.{◌≡◌, Bool, true, false, Result, Ok, Err, refl, ◌==◌}
use Rattle.std.proofs.Common.{if◌then◌else◌}
use Rattle.td_inputs.specs.declared.form_fault.FormFault.{FormFault}
use Rattle.td_script.specs.declared.running.RunFault.{RunFault}
use Rattle.td_script.specs.declared.running.RunFault.TheVariants as stopped
use Rattle.td_script.specs.declared.running.ScriptEnd.{ScriptEnd}
use Rattle.td_crew.specs.declared.running.CrewFault.{CrewFault}
use Rattle.td_crew.specs.declared.running.CrewFault.TheVariants as crew
use Rattle.td_tool.specs.declared.ending.Ending.TheVariants.{Done, Refused}
use Rattle.td_tool.specs.Ending.{ending_of_form, ending_of_stop}
use Rattle.td_tool.specs.Runs.{ending_of_crew, ending_of_script}
use Rattle.td_tool.specs.UnreadFiles.{tells_of_unread_file}
use Rattle.td_tool.proofs.FormEndings.{form_ends}

of_form : (e : FormFault) → tells_of_unread_file (ending_of_form e) ≡ false
of_form = form_ends (λ ending. tells_of_unread_file ending ≡ false) refl (λ role e. refl)

of_stop : (e : RunFault) → tells_of_unread_file (ending_of_stop e) ≡ false
of_stop (stopped.Input e) = of_form e
of_stop stopped.Read = refl
of_stop stopped.TooLong = refl
of_stop stopped.NotText = refl
of_stop stopped.Write = refl
of_stop stopped.NoMemory = refl

answered : (none_refused : Bool)
    → tells_of_unread_file (if none_refused then Done else Refused) ≡ false
answered true = refl
answered false = refl

pub of_script : (r : Result ScriptEnd RunFault)
    → tells_of_unread_file (ending_of_script r) ≡ false
of_script (Ok end) = answered (end.refusals == 0)
of_script (Err e) = of_stop e

pub of_crew : (r : Result ScriptEnd CrewFault) → tells_of_unread_file (ending_of_crew r) ≡ false
of_crew (Ok end) = answered (end.refusals == 0)
of_crew (Err (crew.Run e)) = of_stop e
of_crew (Err (crew.BadOutcome n)) = refl
