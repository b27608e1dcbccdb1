-- `open_texts`: its clauses.
use Rattle.std.proofs.lemmas.Result.{IfErr-weaker}
use Rattle.td_inputs.specs.Opened.{texts_of}
use Rattle.td_inputs.proofs.OpeningLaws.{at_table}
use Rattle.td_inputs.proofs.opening.open_texts.Goals as goal

pub returns-in-Err-clause-refused : goal.returns-in-Err-clause-refused
returns-in-Err-clause-refused g c =
    (at_table (texts_of c.args.texts) c.in-Err.fault c.in-Err.ensures.stops).refused

pub returns-in-Err-clause-only : goal.returns-in-Err-clause-only
returns-in-Err-clause-only g c =
    (at_table (texts_of c.args.texts) c.in-Err.fault c.in-Err.ensures.stops).only

pub returns-clause-refused : goal.returns-clause-refused
returns-clause-refused g c =
    IfErr-weaker c.open_with.result _ _ (λ e stops. stops.refused) c.open_with.ensures.stops

pub returns-clause-only : goal.returns-clause-only
returns-clause-only g c =
    IfErr-weaker c.open_with.result _ _ (λ e stops. stops.only) c.open_with.ensures.stops
