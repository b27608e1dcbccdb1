-- `simulate_text`: the clause `only` and the call of `tell`.
use Rattle.std.proofs.Common.{List, subst}
use Rattle.td_rows.specs.Table.{Table}
use Rattle.td_core.specs.declared.step.Step.{Step}
use Rattle.td_core.proofs.Openings.{NoneBuilt-state_file}
use Rattle.td_simulate.specs.Output.{Tells}
use Rattle.td_simulate.proofs.simulation.simulate_text.Goals as goal

pub tell-requires : goal.tell-requires
tell-requires c = NoneBuilt-state_file c.in-Ok.ensures.found.opening

pub returns-in-Ok-tell-clause-only : goal.returns-in-Ok-tell-clause-only
returns-in-Ok-tell-clause-only c = λ t ss is.
    let same = c.in-Ok.ensures.only t ss is in
    subst (λ (x : Table). Tells x ss c.in-Ok-tell.told) same.0
    (subst (λ (x : List Step). Tells c.in-Ok.read.0 x c.in-Ok-tell.told) same.1
    c.in-Ok-tell.ensures)
