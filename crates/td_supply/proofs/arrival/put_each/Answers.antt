-- `put_each`: its loop.
use Rattle.std.proofs.Common.{ℕ, List, map, sym, ap, ◌∙◌}
use Rattle.std.proofs.lemmas.List.{map_push}
use Rattle.td_version.specs.Version.{Parts}
use Rattle.td_supply.specs.declared.stocked.Rebuilt.{Rebuilt}
use Rattle.td_supply.specs.Arrivals.{put_all}
use Rattle.td_supply.specs.SupplyViews.{item, rebuilt_at}
use Rattle.td_supply.proofs.Arrivals.{put_all-push}
use Rattle.td_supply.proofs.arrival.put_each.Goals as goal

pub loop-at-preserved : goal.loop-at-preserved
loop-at-preserved c =
    let p : ℕ × Rebuilt = (c.in-Some.at, c.in-Some.rebuilt) in
    let left = map rebuilt_at c.pop.new.self.items in
    let items = map item c.loop-at.items.items in
    ap (put_all left) c.put.ensures
    ∙ sym (put_all-push left (rebuilt_at p) items)
    ∙ ap (λ (l : List (ℕ × Parts)). put_all l items)
    (sym (map_push rebuilt_at c.pop.new.self.items p)
    ∙ ap (map rebuilt_at) (sym c.in-Some.ensures.items))
    ∙ c.loop-at.invariant
