-- `read_simulation`: what it answers.
use Rattle.std.proofs.Common.{ap, subst, sym, ◌∙◌}
use Rattle.td_text.proofs.SpelledLines.{AreSpelled-one}
use Rattle.td_simulate.specs.Faults.{of_opening}
use Rattle.td_simulate.specs.SimulationText.{FaultOf}
use Rattle.td_simulate.specs.StepLines.{StepFits, step_line}
use Rattle.td_simulate.specs.StepReading.{step_at}
use Rattle.td_simulate.proofs.Simulations.{opening_fault, its_opening, its_steps, steps_fault}
use Rattle.td_simulate.proofs.Simulations.{no_fault}
use Rattle.td_simulate.proofs.StepWords.{steps_exact}
use Rattle.td_simulate.proofs.simulation.read_simulation.Goals as goal

pub returns-in-Err : goal.returns-in-Err
returns-in-Err c = record {
  found = tt;
  only = λ t ss is. c.of_opening.ensures
      ∙ ap of_opening (c.in-Err.ensures.only t
      (its_opening c.args.text.now c.parts_of-parts.result.opening.now t ss
      c.parts_of-parts.ensures.opening is));
  fault = subst (FaultOf c.args.text.now) (sym c.of_opening.ensures)
      (opening_fault c.args.text.now c.parts_of-parts.result.opening.now c.in-Err.fault
      c.parts_of-parts.ensures.opening c.in-Err.ensures.fault);
}

pub returns-in-Ok-read_steps-clause-only : goal.returns-in-Ok-read_steps-clause-only
returns-in-Ok-read_steps-clause-only c = λ t ss is. (
  c.in-Ok.ensures.only t
      (its_opening c.args.text.now c.parts_of-parts.result.opening.now t ss
      c.parts_of-parts.ensures.opening is),
  AreSpelled-one step_at step_line StepFits steps_exact _ c.in-Ok-read_steps.steps.items ss
      c.in-Ok-read_steps.ensures.found
      (its_steps c.args.text.now c.parts_of-parts.result.steps.now t ss
      c.parts_of-parts.ensures.steps is),
)

pub returns-in-Err-read_steps-clause-only : goal.returns-in-Err-read_steps-clause-only
returns-in-Err-read_steps-clause-only c = λ t ss is.
    no_fault c.parts_of-parts.result.first _ ss c.in-Err-read_steps.fault
    (its_steps c.args.text.now c.parts_of-parts.result.steps.now t ss c.parts_of-parts.ensures.steps
    is) c.in-Err-read_steps.ensures.fault

pub returns-in-Err-read_steps-clause-fault : goal.returns-in-Err-read_steps-clause-fault
returns-in-Err-read_steps-clause-fault c =
    let parts = c.parts_of-parts.ensures in
    steps_fault c.args.text.now c.parts_of-parts.result.opening.now
    c.parts_of-parts.result.steps.now c.in-Ok.rows c.parts_of-parts.result.first
    c.in-Err-read_steps.fault parts.opening parts.steps parts.first c.in-Ok.ensures.found
    c.in-Err-read_steps.ensures.fault
