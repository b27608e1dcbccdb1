-- `open_with`: the call of `open_over`, and its clauses.
use Rattle.std.proofs.Common.{refl}
use Rattle.std.proofs.lemmas.Result.{IfErr-weaker, IfOk-weaker}
use Rattle.td_relation.specs.TableView.{table}
use Rattle.td_inputs.specs.Opened.{texts_of}
use Rattle.td_inputs.specs.inner.Reading.{Stops, StopsOver}
use Rattle.td_inputs.proofs.OpeningLaws.{at_indices, is_opened}
use Rattle.td_inputs.proofs.opening.open_with.Goals as goal

pub open_over-made-requires : goal.open_over-made-requires
open_over-made-requires g c = λ k. (
  (refl, tt),
  λ o over.
      let x = texts_of c.args.texts in
      c.requires.callable o
      (is_opened x c.in-Ok.archive o (c.in-Ok.ensures.archive x c.requires.table refl refl) over),
)

pub returns-in-Ok-clause-made : goal.returns-in-Ok-clause-made
returns-in-Ok-clause-made g c =
    let x = texts_of c.args.texts in
    IfOk-weaker c.open_over-made.result _ _ (λ made lent. (
      lent.0,
      is_opened x c.in-Ok.archive lent.0
          (c.in-Ok.ensures.archive x c.requires.table refl refl) lent.1,
      lent.2,
    )) c.open_over-made.ensures.made

pub returns-in-Ok-clause-stops : goal.returns-in-Ok-clause-stops
returns-in-Ok-clause-stops g c =
    let x = texts_of c.args.texts in
    IfErr-weaker c.open_over-made.result (StopsOver c.in-Ok.archive x.state x.tracker) (Stops x)
    (λ e stops. stops x (c.in-Ok.ensures.archive x c.requires.table refl refl) refl refl)
    c.open_over-made.ensures.stops

pub returns-in-Err-clause-stops : goal.returns-in-Err-clause-stops
returns-in-Err-clause-stops g c =
    at_indices (texts_of c.args.texts) (table c.args.archs.now) c.in-Err.fault c.requires.table
    c.in-Err.ensures.stops
