-- `put_phase`: what it answers and the call of `index_mut`.
use Rattle.std.proofs.Common.{ℕ, set, sym, ap, subst, ◌∙◌, arith}
use Rattle.std.proofs.lemmas.Option.{slice_get_within}
use Rattle.td_rows.specs.Table.{Table, IsAt, row_of}
use Rattle.td_rows.proofs.Tables.{length-each_row}
use Rattle.td_journal.specs.Entries.{standing}
use Rattle.td_journal.specs.Replay.{row_after}
use Rattle.td_core.proofs.Phases.{number_of-IsAt, number_of-absent, set-past}
use Rattle.td_core.proofs.stepping.put_phase.Goals as goal

pub index_mut-requires : goal.index_mut-requires
index_mut-requires c =
    let h = c.args.kept.now.history in
    let at = subst (λ (t : Table). IsAt t c.args.key.now c.in-Some.number) c.rows.ensures.rows
    c.in-Some.ensures.found in
    omega (
      arith,
      slice_get_within _ c.in-Some.number _ at.at,
      length-each_row (row_after (standing h.journal)) h.opening,
      c.requires.sized,
      c.args.phases.now.ok.0,
    )

pub returns-in-Some : goal.returns-in-Some
returns-in-Some c =
    let h = c.args.kept.now.history in
    let at = subst (λ (t : Table). IsAt t c.args.key.now c.in-Some.number) c.rows.ensures.rows
    c.in-Some.ensures.found in
    ap (λ (n : ℕ). set c.args.phases.now.items n c.args.phase)
    (number_of-IsAt h c.args.key.now c.in-Some.number c.rows.ensures.rising at)

pub returns-in_default : goal.returns-in_default
returns-in_default c =
    let h = c.args.kept.now.history in
    let none = ap (λ (t : Table). row_of t c.args.key.now) (sym c.rows.ensures.rows)
    ∙ c.in_default.ensures.absent in
    sym (set-past c.args.phases.now.items _ c.args.phase
    (omega (arith, number_of-absent h c.args.key.now none, c.requires.sized)))
