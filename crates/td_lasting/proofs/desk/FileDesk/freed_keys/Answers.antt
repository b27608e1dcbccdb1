-- `FileDesk::freed_keys`: the keys of rows rise, so those that are freed do.
use Rattle.std.proofs.Common.{ap, ◌∙◌}
use Rattle.td_supply.specs.Supply.{Stock}
use Rattle.td_core.specs.History.{History, rows_of}
use Rattle.td_core.specs.Offers.{freed, supply_now}
use Rattle.td_lasting.proofs.Sweeping.{can_sweep}
use Rattle.td_lasting.proofs.desk.FileDesk.freed_keys.Goals as goal

pub new-requires-clause-rising : goal.new-requires-clause-rising
new-requires-clause-rising g c =
    let h = c.self.inside.chronicle.history in
    let s = c.self.inside.chronicle.stock in
    (can_sweep s h c.in_ok-keys.keys.items c.rows-rows.ensures.rising
    (c.in_ok-keys.ensures
    ∙ ap (λ (x : Stock). freed (supply_now x c.books.result.now.history)
    (rows_of c.books.result.now.history)) c.books.ensures.stock
    ∙ ap (λ (x : History). freed (supply_now s x) (rows_of x)) c.books.ensures.history)
    c.self.invariant.rest.keys).rising
