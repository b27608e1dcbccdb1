-- `put`: what it answers.
use Rattle.std.proofs.Common.{◌≡◌, ◌<◌, ◌≤◌, length, map, sym, ◌∙◌}
use Rattle.std.proofs.lemmas.List.{length-map}
use Rattle.td_supply.specs.SupplyViews.{item, rebuilt_parts}
use Rattle.td_supply.proofs.Arrivals.{put-set, put-past}
use Rattle.td_supply.proofs.arrival.put.Goals as goal

pub returns-then-at-len : goal.returns-then-at-len
returns-then-at-len c =
    let items = c.args.items.now in
    let len : c.len.result ≡ length items.items = c.len.ensures ∙ items.ok.0 in
    let within : c.args.at < length items.items = rw (← len) c.if-at-len.true in
    put-set items.items c.args.at c.index_mut.result.now c.args.rebuilt within
    c.index_mut.ensures.value

pub returns-else-at-len : goal.returns-else-at-len
returns-else-at-len c =
    let items = c.args.items.now in
    let len : c.len.result ≡ length items.items = c.len.ensures ∙ items.ok.0 in
    let past : length (map item items.items) ≤ c.args.at =
    rw (length-map items.items item, ← len) c.if-at-len.false in
    sym (put-past (map item items.items) c.args.at (rebuilt_parts c.args.rebuilt) past)
