-- `read_state`: the clauses `only`, `fault` and `found` and the call of `sorted`.
use Rattle.std.proofs.lemmas.Result.{err_from_is_err_and}
use Rattle.td_text.specs.Lines.{lines_of}
use Rattle.td_rows.proofs.StateTexts.{AreLinesOf-state_rows, IsStateFile-one, IsStateFile-read}
use Rattle.td_rows.proofs.StateTexts.{FaultOf-state_rows}
use Rattle.td_rows.proofs.state_reading.read_state.Goals as goal

pub returns-in_err-rows-clause-only : goal.returns-in_err-rows-clause-only
returns-in_err-rows-clause-only c = λ t is.
    let p = err_from_is_err_and c.from_residual.result c.from_residual.ensures.1 in
    rw (
      p.1,
      p.2,
    ) (IsStateFile-read (lines_of c.args.text.now) t c.in_err-rows.field-0.0 is
    c.in_err-rows.ensures.err)

pub returns-in_err-rows-clause-fault : goal.returns-in_err-rows-clause-fault
returns-in_err-rows-clause-fault c =
    let p = err_from_is_err_and c.from_residual.result c.from_residual.ensures.1 in
    rw (
      p.1,
      p.2,
    ) (FaultOf-state_rows (lines_of c.args.text.now) c.in_err-rows.field-0.0
    c.in_err-rows.ensures.err)

pub sorted-requires : goal.sorted-requires
sorted-requires c =
    (AreLinesOf-state_rows (lines_of c.args.text.now) c.in_ok-rows.rows.entries
    c.in_ok-rows.ensures.ok).limited

pub returns-in-Ok-clause-found : goal.returns-in-Ok-clause-found
returns-in-Ok-clause-found c = record {
  rows = c.in_ok-rows.rows.entries;
  written = AreLinesOf-state_rows (lines_of c.args.text.now) c.in_ok-rows.rows.entries
      c.in_ok-rows.ensures.ok;
  same = c.in-Ok.ensures.same;
  rising = c.in-Ok.ensures.rising;
}

pub returns-in-Ok-clause-only : goal.returns-in-Ok-clause-only
returns-in-Ok-clause-only c = λ t is.
    IsStateFile-one (lines_of c.args.text.now) _ t (record {
      rows = c.in_ok-rows.rows.entries;
      written = AreLinesOf-state_rows (lines_of c.args.text.now) c.in_ok-rows.rows.entries
          c.in_ok-rows.ensures.ok;
      same = c.in-Ok.ensures.same;
      rising = c.in-Ok.ensures.rising;
    }) is
