-- `bases_of`: its loop.
use Rattle.std.proofs.Common.{◌++◌, ◌∙◌, List, ap, arith, get_or, length, map, refl}
use Rattle.std.specs.Global.{Vec}
use Rattle.std.proofs.lemmas.Option.{slice_get_read}
use Rattle.td_plan.specs.declared.asks.Ask.{Ask}
use Rattle.td_plan.proofs.Owners.{owners-next}
use Rattle.td_plan.proofs.asks.bases_of.Goals as goal

pub loop-list-preserved : goal.loop-list-preserved
loop-list-preserved c =
    let asks = c.args.asks.now.items in
    let i = c.loop-list.list-index in
    let old = c.loop-list.bases.items in
    let list = c.list-item.result in
    owners-next asks i list old c.push_owners.new.bases.items
    (slice_get_read asks (length asks) i list refl
    (omega (arith, c.loop-list-test.true, c.deref-list-items.ensures.len))
    (c.list-item.is
    ∙ ap (λ (l : List (Vec Ask)). get_or l i list) c.deref-list-items.ensures.value))
    c.loop-list.invariant
    (c.in_ok-push_owners.ensures
    ∙ ap (λ (l : List Ask). old ++ map (λ (ask : Ask). ask.owner) l) c.deref.ensures.value)
