-- `stop_unread`: its clauses.
use Rattle.std.proofs.Common.{◌≡◌, None, refl, subst, sym}
use Rattle.std.specs.Prelude.{IsErrOf, true, false}
use Rattle.td_bytes.specs.declared.text.TextFault.TheVariants.{CannotRead}
use Rattle.td_script.specs.declared.running.RunFault.TheVariants.{Read, Write}
use Rattle.td_script.specs.Openings.{texts_of}
use Rattle.td_tool.specs.RunInside.{IsStopped}
use Rattle.td_tool.proofs.Noted.{stopped_read, stopped_write, stops}
use Rattle.td_tool.proofs.noting.stop_unread.Goals as goal

pub returns-clause-stops : goal.returns-clause-stops
returns-clause-stops g c =
    subst (IsStopped (texts_of c.args.inputs.now) c.args.why) (sym c.stopped.ensures)
    (stops (texts_of c.args.inputs.now) _ None None refl c.run_script-judged.result c.args.why
    c.run_script-judged.ensures.says c.run_script-judged.ensures.only)

pub returns-clause-read : goal.returns-clause-read
returns-clause-read g c =
    subst (λ r. IsErrOf r Read → c.args.why ≡ CannotRead) (sym c.stopped.ensures)
    (stopped_read c.run_script-judged.result c.args.why)

pub returns-clause-write : goal.returns-clause-write
returns-clause-write g c =
    subst (λ r. IsErrOf r Write → false ≡ true) (sym c.stopped.ensures)
    (stopped_write c.run_script-judged.result c.args.why)
