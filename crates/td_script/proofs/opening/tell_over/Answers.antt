-- `tell_over`: what it answers.
use Rattle.std.proofs.Common.{IfErr, subst}
use Rattle.td_script.specs.OpeningInside.{Stops, TellsOrRefuses}
use Rattle.td_inputs.specs.Inputs.{AreReadable, Texts}
use Rattle.td_script.proofs.opening.tell_over.Goals as goal

pub returns : goal.returns
returns g c =
    let May = g.S.Staff.tells c.args.staff.now in
    record {
      tells = subst (λ (x : Texts). TellsOrRefuses May x c.args.script.now c.tell_all.result)
          c.of.ensures c.tell_all.ensures.tells;
      only = subst (λ (x : Texts).
          IfErr c.tell_all.result (λ fault. AreReadable x → Stops x fault)) c.of.ensures
          c.tell_all.ensures.only;
    }
