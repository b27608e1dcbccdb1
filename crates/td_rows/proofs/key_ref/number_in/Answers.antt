-- `number_in`: the clauses `found` and `absent`.
use Rattle.std.proofs.Common.{sym, ◌∙◌}
use Rattle.td_rows.proofs.Lookups.{lookup-row_of, IsAt-found}
use Rattle.td_rows.proofs.key_ref.number_in.Goals as goal

pub returns-in-Some-clause-found : goal.returns-in-Some-clause-found
returns-in-Some-clause-found c =
    IsAt-found c.args.rows.now.entries
    (record { source = c.args.source.now; arch = c.args.arch.now }) _ _ c.in-Some.number
    c.in-Some.ensures.key c.in-Some.ensures.entry

pub returns-in-None-clause-absent : goal.returns-in-None-clause-absent
returns-in-None-clause-absent c =
    sym (lookup-row_of (record { source = c.args.source.now; arch = c.args.arch.now })
    c.args.rows.now.entries) ∙ sym c.in-None.ensures.value
