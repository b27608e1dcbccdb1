-- `push_row`: the clause `ok`.
use Rattle.std.proofs.Common.{◌∙◌}
use Rattle.td_rows.proofs.Inserts.{insert_entry-absent}
use Rattle.td_rows.proofs.state_reading.push_row.Goals as goal

pub returns-in-Ok-clause-ok : goal.returns-in-Ok-clause-ok
returns-in-Ok-clause-ok c =
    c.in-Ok.ensures.entries
    ∙ insert_entry-absent c.args.rows.now.entries c.args.key c.args.row c.requires
