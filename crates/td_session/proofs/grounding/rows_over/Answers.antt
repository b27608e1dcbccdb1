-- `rows_over`: the rows that a state file was put over.
use Rattle.std.proofs.Common.{ap, option_map}
use Rattle.td_session.proofs.Grounds.{put_over}
use Rattle.td_session.proofs.grounding.rows_over.Goals as goal

pub returns-in-Ok-overlay-clause-rows : goal.returns-in-Ok-overlay-clause-rows
returns-in-Ok-overlay-clause-rows c =
    (put_over c.args.archive.now c.in-Ok.rows c.overlay.new.self c.in-Ok-read_state.given
    (option_map (λ s. s.now) c.args.state) c.in-Some.text.now
    (record { same = c.in-Ok.ensures.rows; rising = c.len-rising.ensures.rising })
    c.in-Ok.ensures.free (ap (option_map (λ s. s.now)) c.in-Some.is)
    c.in-Ok-read_state.ensures.found c.in-Ok-read_state.ensures.only c.in-Ok-overlay.ensures.ok
    (λ k e. let other = (c.overlay.ensures.missing k).1 e in
    let is = c.in-Ok-overlay.is in cc)).0

pub returns-in-Ok-overlay-clause-idle : goal.returns-in-Ok-overlay-clause-idle
returns-in-Ok-overlay-clause-idle c =
    (put_over c.args.archive.now c.in-Ok.rows c.overlay.new.self c.in-Ok-read_state.given
    (option_map (λ s. s.now) c.args.state) c.in-Some.text.now
    (record { same = c.in-Ok.ensures.rows; rising = c.len-rising.ensures.rising })
    c.in-Ok.ensures.free (ap (option_map (λ s. s.now)) c.in-Some.is)
    c.in-Ok-read_state.ensures.found c.in-Ok-read_state.ensures.only c.in-Ok-overlay.ensures.ok
    (λ k e. let other = (c.overlay.ensures.missing k).1 e in
    let is = c.in-Ok-overlay.is in cc)).1
