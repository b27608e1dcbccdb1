-- `given_rows`: its clauses.
use Rattle.std.proofs.Common.{Some, ap, option_map}
use Rattle.td_inputs.specs.Opened.{AreGivenRows}
use Rattle.td_inputs.specs.inner.Reading.{StopsAtRows}
use Rattle.td_inputs.proofs.Handing.{handed_err, handed_ok}
use Rattle.td_inputs.proofs.OpeningLaws.{memory_at_rows, rows_put, rows_unput}
use Rattle.td_inputs.proofs.opening.given_rows.Goals as goal

pub put_state_over-put-requires : goal.put_state_over-put-requires
put_state_over-put-requires c = c.in-Ok.ensures.free

pub returns-clause-rows : goal.returns-clause-rows
returns-clause-rows c =
    let state = option_map (λ s. s.now) c.args.state in
    handed_ok (λ rows. Some rows) (λ e. e) (AreGivenRows c.args.archive.now state)
    c.put_state_over-put.result c.some_rows.result
    (c.some_rows.ensures.put, c.some_rows.ensures.fault)
    (rows_put c.args.archive.now c.in-Ok.rows state c.in-Some.text.now c.put_state_over-put.result
    (record { same = c.in-Ok.ensures.rows; rising = c.len-rising.ensures.rising })
    (ap (option_map (λ s. s.now)) c.in-Some.is) c.put_state_over-put.ensures.rows
    c.put_state_over-put.ensures.idle)

pub returns-clause-stops : goal.returns-clause-stops
returns-clause-stops c =
    let state = option_map (λ s. s.now) c.args.state in
    handed_err (λ rows. Some rows) (λ e. e) (StopsAtRows c.args.archive.now state)
    c.put_state_over-put.result c.some_rows.result
    (c.some_rows.ensures.put, c.some_rows.ensures.fault)
    (rows_unput c.args.archive.now c.in-Ok.rows state c.in-Some.text.now
    c.put_state_over-put.result
    (record { same = c.in-Ok.ensures.rows; rising = c.len-rising.ensures.rising })
    (ap (option_map (λ s. s.now)) c.in-Some.is) c.put_state_over-put.ensures.refused
    c.put_state_over-put.ensures.only)

pub returns-in-Err-clause-stops : goal.returns-in-Err-clause-stops
returns-in-Err-clause-stops c =
    memory_at_rows c.args.archive.now (option_map (λ s. s.now) c.args.state)
