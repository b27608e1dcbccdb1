-- `tell`: the text of the answers and the rows is that of the steps.
use Rattle.std.proofs.Common.{◌≡◌, ◌∷◌, ◌++◌, ◌∙◌, List, Result, Ok, Err, IfOk, map, codes}
use Rattle.std.proofs.Common.{string_bytes, ap, ap₂}
use Rattle.std.specs.List.{list_any}
use Rattle.td_text.specs.Lines.{text_of}
use Rattle.td_rows.specs.RowLine.{row_line}
use Rattle.td_rows.specs.Table.{Table}
use Rattle.td_core.specs.History.{rows_of}
use Rattle.td_core.specs.declared.step.Step.{Step}
use Rattle.td_core.specs.declared.step.Answer.{Answer}
use Rattle.td_simulate.specs.declared.simulation.Simulated.{Simulated}
use Rattle.td_simulate.specs.Answers.{answer_line, is_refused}
use Rattle.td_simulate.specs.Output.{Tells, answers, last_rows}
use Rattle.td_simulate.proofs.simulation.tell.Goals as goal

told_so : {E : Type 0} (rows : Table) (steps : List Step) (t : Table) (ys : List Answer)
    (r : Result Simulated E) → ys ≡ answers rows steps → t ≡ last_rows rows steps
    → IfOk r (λ told. string_bytes told.text
    ≡ text_of (map answer_line ys) ++ text_of (codes "rows" ∷ map row_line t))
    → IfOk r (λ told. told.refused ≡ list_any is_refused ys) → IfOk r (Tells rows steps)
told_so rows steps t ys (Ok told) is_as is_t text refused = record {
  text = text
      ∙ ap₂ (λ a b. text_of (map answer_line a) ++ text_of (codes "rows" ∷ map row_line b))
      is_as is_t;
  refused = refused ∙ ap (list_any is_refused) is_as;
}
told_so rows steps t ys (Err _) is_as is_t text refused = tt

pub returns : goal.returns
returns c =
    told_so c.args.rows c.args.steps.items c.rows.result.now c.deref.result.now c.told_of.result
    (c.deref.ensures.value ∙ c.in_ok-world.ensures.answers)
    (c.rows.ensures.rows ∙ ap (λ w. rows_of w.history) c.in_ok-world.ensures.world)
    c.told_of.ensures.text c.told_of.ensures.refused
