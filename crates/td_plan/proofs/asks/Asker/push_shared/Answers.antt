-- `Asker::push_shared`: the clause `asked`.
use Rattle.std.proofs.Common.{◌∙◌, ◌||◌, List, ap}
use Rattle.std.specs.List.{list_any}
use Rattle.std.proofs.lemmas.List.{take_all}
use Rattle.td_relation.specs.Asked.{asked}
use Rattle.td_plan.specs.declared.providers.Provider.{Provider}
use Rattle.td_plan.specs.inner.Asking.{asks_at, asks_other}
use Rattle.td_plan.proofs.asks.Asker.push_shared.Goals as goal

pub returns-clause-asked : goal.returns-clause-asked
returns-clause-asked c = λ k test low.
    let passes = asks_other c.args.self.now k test (asked c.args.alternative.now) in
    c.loop-found.invariant.asked k test low
    ∙ ap (λ (l : List Provider). list_any test (asks_at c.args.asks.now.items k)
    || list_any passes l)
    (take_all c.loop-found.found-index c.of_name-found-items.result.now c.loop-found-test.false
    ∙ c.of_name-found-items.ensures)
