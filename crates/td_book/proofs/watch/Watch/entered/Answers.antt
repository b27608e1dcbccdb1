-- `Watch::entered`: the clause `counts` and the call of `change_each`.
use Rattle.std.proofs.Common.{sym}
use Rattle.td_book.proofs.Installing.{entered-changed, entered-same}
use Rattle.td_book.proofs.watch.Watch.entered.Goals as goal

pub change_each-requires-clause-changed : goal.change_each-requires-clause-changed
change_each-requires-clause-changed c =
    entered-changed _ _ _ _ _ _ _ _ _ c.requires c.journal.ensures c.in-Some.ensures.entry
    (sym c.in-Some-made_installed.ensures) c.as_slice.ensures.keys c.rows.ensures.rows

pub returns-in_default-made_installed-clause-counts :
    goal.returns-in_default-made_installed-clause-counts
returns-in_default-made_installed-clause-counts c =
    entered-same _ _ _ _ _ _ c.requires c.journal.ensures c.in-Some.ensures.entry
    (sym c.in_default-made_installed.ensures)
