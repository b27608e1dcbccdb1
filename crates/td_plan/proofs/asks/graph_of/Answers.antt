-- `graph_of`: the clause `within`.
use Rattle.std.proofs.Common.{◌∙◌, ap, length, map}
use Rattle.std.specs.Global.{Vec}
use Rattle.std.proofs.lemmas.List.{take_all}
use Rattle.td_plan.specs.declared.asks.Ask.{Ask}
use Rattle.td_plan.specs.inner.Asking.{owners_of}
use Rattle.td_plan.proofs.Owners.{graph-within}
use Rattle.td_plan.proofs.asks.graph_of.Goals as goal

pub returns-clause-within : goal.returns-clause-within
returns-clause-within c =
    let all = c.args.all.now in
    let owners = λ (asks : Vec (Vec Ask)). owners_of asks.items in
    graph-within (length all) all c.loop-asks.graph.items
    (c.loop-asks.invariant
    ∙ ap (map owners) (take_all c.loop-asks.asks-index all c.loop-asks-test.false)) c.requires
