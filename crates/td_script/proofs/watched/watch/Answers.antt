-- `watch`: what it leaves.
use Rattle.std.proofs.Common.{ap, ◌∙◌}
use Rattle.td_core.proofs.Phases.{keys_of-rows_of}
use Rattle.td_rows.specs.Table.{keys_of}
use Rattle.td_book.specs.WatchCalls.{with_watch}
use Rattle.td_script.proofs.WatchLaws.{watched-by}
use Rattle.td_script.proofs.watched.watch.Goals as goal

pub returns-in-Ok : goal.returns-in-Ok
returns-in-Ok c =
    let b = c.args.book.now in
    let x = c.args.transition.now in
    let rows = c.rows.result.now in
    c.in-Ok.ensures.1 ∙ ap (with_watch b)
    (watched-by x b.history.opening rows c.in_ok-groups.groups.count c.deref.result.now
    (ap keys_of c.rows.ensures.rows ∙ keys_of-rows_of b.history) c.in_ok-groups.ensures.count
    (c.deref.ensures.value ∙ c.in_ok-groups.ensures.rows))
