-- `Watch::undone`: the clause `counts` and the call of `change_each`.
use Rattle.std.proofs.Common.{sym}
use Rattle.td_book.proofs.Installing.{taken-none, taken-changed, taken-same}
use Rattle.td_book.proofs.watch.Watch.undone.Goals as goal

pub returns-in_default-clause-counts : goal.returns-in_default-clause-counts
returns-in_default-clause-counts c =
    absurd (taken-none _ _ _ _ _ c.requires c.journal.ensures c.in_default.ensures.entry)

pub change_each-requires-clause-changed : goal.change_each-requires-clause-changed
change_each-requires-clause-changed c =
    taken-changed _ _ _ _ _ _ _ _ _ c.requires c.journal.ensures c.in-Some.ensures.entry
    (sym c.in-Some-made_installed.ensures) c.as_slice.ensures.keys c.rows.ensures.rows

pub returns-in_default-made_installed-clause-counts :
    goal.returns-in_default-made_installed-clause-counts
returns-in_default-made_installed-clause-counts c =
    taken-same _ _ _ _ _ _ c.requires c.journal.ensures c.in-Some.ensures.entry
    (sym c.in_default-made_installed.ensures)
