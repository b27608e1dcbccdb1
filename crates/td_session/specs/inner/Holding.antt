-- What the calls that hold a session come to. This project's own.
use Rattle.std.specs.Prelude.{◌≡◌, ℕ, List, Option, Some, Result, Ok, Err}
use Rattle.td_ledger.specs.Calls.{Known}
use Rattle.td_script.specs.Replies.{Setting}
use Rattle.td_lasting.specs.DeskView.{DeskView}
use Rattle.td_lasting.specs.Sessions.{IsServed}
use Rattle.td_lasting.specs.declared.serving.ServeEnd.{ServeEnd}
use Rattle.td_lasting.specs.declared.serving.ServeFault.{ServeFault}
use Rattle.td_session.specs.declared.fault.SessionFault.{SessionFault}
use Rattle.td_session.specs.declared.fault.SessionFault.TheVariants.{Serve}

-- how a session ends, by how its lines did
abbrev pub end_of_served : Result ServeEnd ServeFault → Result ServeEnd SessionFault
end_of_served (Ok end) = Ok end
end_of_served (Err fault) = Err (Serve fault)

-- lines are answered at an open desk, and this is known of its file then
pub record AreServed (s : Setting) (desk : DeskView) (last : Option Known)
    (known old new : Option (List ℕ)) (end : Result ServeEnd SessionFault) : Type 0 where
  pub ended : DeskView
  pub result : Result ServeEnd ServeFault
  pub end_is : end ≡ end_of_served result
  pub last_is : last ≡ Some ended.device
  pub served : IsServed s known old new desk ended result
