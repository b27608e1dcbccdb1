-- `Waiter::push_wait`: the wait for an owner, if its row arrives.
use Rattle.std.proofs.Common.{sym, ◌∙◌}
use Rattle.td_plan.proofs.WaitSteps.{added-still, added-wait, arrives, both-ok}
use Rattle.td_plan.proofs.waits.Waiter.push_wait.Goals as goal

pub returns-in-Some : goal.returns-in-Some
returns-in-Some c = both-ok c.push.result c.push.ensures.waits c.push.ensures.waitless
    (λ waits names p beside s j is at are part.
    let w = c.args.self.now in
    let t = c.args.owner.now in
    let asks = c.args.asks.now in
    let arrival = arrives p beside s w is j t at asks are c.requires c.in-Some.arrival
    (sym c.arrival.ensures ∙ c.in-Some.is) in
    added-wait p beside s w is j t at asks are c.requires c.args.found.now c.push.new.self
    c.wait.result part arrival.0 (c.wait.ensures p beside s j is at are arrival.1) waits names)

pub returns-in-None : goal.returns-in-None
returns-in-None c = λ p beside s j is at are part.
    added-still p beside s c.args.self.now is j c.args.owner.now at c.args.asks.now are c.requires
    c.args.found.now (sym c.arrival.ensures ∙ c.in-None.is)
