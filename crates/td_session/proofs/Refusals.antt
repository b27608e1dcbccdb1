-- Why texts are refused.
use Rattle.std.proofs.Common.{Result, Ok, Err, IfErr}
use Rattle.td_inputs.specs.declared.open_fault.OpenFault.{OpenFault}
use Rattle.td_inputs.specs.declared.open_fault.OpenFault.TheVariants.{Refused, NoMemory}
use Rattle.td_inputs.specs.Inputs.{Texts}
use Rattle.td_inputs.specs.Opened.{IsUnopened}
use Rattle.td_script.specs.OpeningInside.{opening_texts}
use Rattle.td_script.proofs.WithoutJournal.{unopened_stops}
use Rattle.td_session.specs.inner.Judging.{IsRefusalOf, of_judged}

pub refusal : (x : Texts) (r : Result (Unit {0}) OpenFault)
    → IfErr r (IsUnopened (opening_texts x)) → IsRefusalOf x (of_judged r)
refusal x (Ok done) h = tt
refusal x (Err (Refused e)) h = unopened_stops x (Refused e) h
refusal x (Err NoMemory) h = tt
