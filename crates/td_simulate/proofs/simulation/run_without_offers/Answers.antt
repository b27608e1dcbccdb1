-- `run_without_offers`: the clauses `world` and `answers`.
use Rattle.std.proofs.Common.{◌≡◌, subst}
use Rattle.std.specs.Prelude.{IfOk}
use Rattle.td_supply.specs.Supply.{SupplyView, stock_of}
use Rattle.td_core.specs.Worlds.{world_of}
use Rattle.td_core.specs.Steps.{after_all, answers_to}
use Rattle.td_simulate.proofs.simulation.run_without_offers.Goals as goal

pub returns-clause-world : goal.returns-clause-world
returns-clause-world c =
    subst (λ (s : SupplyView).
    IfOk c.run.result (λ end.
    end.0 ≡ after_all (world_of c.args.rows (stock_of s) 64) c.args.steps.items)) c.empty.ensures
    c.run.ensures.world

pub returns-clause-answers : goal.returns-clause-answers
returns-clause-answers c =
    subst (λ (s : SupplyView).
    IfOk c.run.result (λ end.
    end.1.items ≡ answers_to (world_of c.args.rows (stock_of s) 64) c.args.steps.items))
    c.empty.ensures c.run.ensures.answers
