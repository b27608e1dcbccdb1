-- `Asker::push_other`: the clause `asked`.
use Rattle.std.proofs.Common.{◌≡◌, ◌∙◌, ◌&&◌, ◌||◌, ◌==◌, Bool, ap, false, not, rules, sym}
use Rattle.std.specs.List.{list_any}
use Rattle.td_relation.specs.Asked.{asked}
use Rattle.td_plan.specs.inner.Asking.{asks_at, asks_one}
use Rattle.td_plan.proofs.asks.Asker.push_other.Goals as goal

pub returns-clause-asked : goal.returns-clause-asked
returns-clause-asked c = λ k test low.
    let other : (c.args.found.now.owner == c.args.self.now.mover) ≡ false = search rules in
    let here = asks_one c.args.self.now k test (asked c.args.alternative.now) c.args.found.now in
    c.in_ok-push_found.ensures.asked k test low
    ∙ ap (λ (b : Bool). list_any test (asks_at c.args.asks.now.items k) || (not b && here))
    (sym other)
