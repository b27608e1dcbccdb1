-- `Asker::push_alternative`: the clause `asked`.
use Rattle.std.proofs.Common.{◌∙◌, ◌||◌, Bool, List, ap, sym}
use Rattle.std.specs.List.{list_any}
use Rattle.std.proofs.lemmas.List.{take_all}
use Rattle.td_relation.specs.Asked.{asked}
use Rattle.td_plan.specs.declared.providers.Share.{Share}
use Rattle.td_plan.specs.inner.Asking.{asks_at, asks_other, asks_shared}
use Rattle.td_plan.specs.inner.Providing.{shared_under}
use Rattle.td_plan.proofs.Shared.{any-flat}
use Rattle.td_plan.proofs.asks.Asker.push_alternative.Goals as goal

pub returns-clause-asked : goal.returns-clause-asked
returns-clause-asked c = λ k test low.
    let w = c.args.self.now in
    let x = asked c.args.alternative.now in
    let old = list_any test (asks_at c.args.asks.now.items k) in
    let shares = w.providers.now.shares.items in
    c.loop-share.invariant.asked k test low
    ∙ ap (λ (l : List Share). old || list_any (asks_shared w k test x) l)
    (take_all c.loop-share.share-index c.shares-share-items.result.now c.loop-share-test.false
    ∙ c.shares-share-items.ensures)
    ∙ ap (λ (b : Bool). old || b)
    (sym (any-flat (asks_other w k test x) (λ (s : Share). shared_under s x.name) shares))
