-- `look_up`: the clauses `keys` and `skips`.
use Rattle.std.proofs.Common.{List, filter, map, ap, ◌∙◌}
use Rattle.td_rows.specs.declared.key.Key.{Key}
use Rattle.td_wbread.specs.Views.{parts_of}
use Rattle.td_naming.specs.Naming.{is_matched_at}
use Rattle.td_naming.specs.Skips.{doubt}
use Rattle.td_lasting.proofs.Commanding.{skipped_is, taken_is}
use Rattle.td_lasting.proofs.looking.look_up.Goals as goal

pub returns-clause-keys : goal.returns-clause-keys
returns-clause-keys c =
    taken_is c.args.books.now.stock c.args.books.now.history (parts_of c.args.command.now)
    c.rows-rows.result.now c.supply-supply.result.now c.in_ok-kind.kind c.in_ok-named.named.items
    c.rows-rows.ensures.rows c.supply-supply.ensures c.in_ok-kind.ensures c.in_ok-named.ensures.keys
    c.in_ok-matched.matched.items c.fitting.result.items
    (c.in_ok-matched.ensures
    ∙ ap (λ (ks : List Key). filter (is_matched_at (parts_of c.args.command.now)
    c.supply-supply.result.now c.rows-rows.result.now) ks) c.deref.ensures.value)
    c.fitting.ensures

pub returns-clause-skips : goal.returns-clause-skips
returns-clause-skips c =
    let p = parts_of c.args.command.now in
    skipped_is c.args.books.now.stock c.args.books.now.history p c.rows-rows.result.now
    c.supply-supply.result.now c.in_ok-kind.kind c.in_ok-named.named.items c.rows-rows.ensures.rows
    c.supply-supply.ensures c.in_ok-kind.ensures c.in_ok-named.ensures.keys c.left.result
    (c.left.ensures.skips (is_matched_at p c.supply-supply.result.now c.rows-rows.result.now)
    c.in_ok-named.named.items
    (c.in_ok-doubts.ensures
    ∙ ap (λ (ks : List Key). map (doubt (is_matched_at p c.supply-supply.result.now
    c.rows-rows.result.now)) ks) c.deref-2.ensures.value))
