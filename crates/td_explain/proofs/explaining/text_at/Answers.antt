-- `text_at`: what it answers.
use Rattle.td_explain.proofs.Tails.{line_is, tail_is}
use Rattle.td_explain.proofs.explaining.text_at.Goals as goal

pub returns-in-Ok : goal.returns-in-Ok
returns-in-Ok c =
    tail_is c.args.spot.now.offset c.args.spot.now.line.now c.as_bytes-bytes.result.now
    c.split_at.result.1.now c.in-Ok.text.now
    c.as_bytes-bytes.ensures.value c.split_at.ensures.back c.in-Ok.ensures.cases.0
    c.in-Ok.ensures.cases.1

pub returns-in-Err : goal.returns-in-Err
returns-in-Err c =
    line_is c.args.spot.now.offset c.args.spot.now.line.now c.as_bytes-bytes.result.now
    c.split_at.result.1.now
    c.as_bytes-bytes.ensures.value c.split_at.ensures.back c.in-Err.ensures.cases.0
