-- `read_line`: memory runs out only for a key.
use Rattle.std.proofs.Common.{sym, ◌∙◌}
use Rattle.std.proofs.lemmas.Result.{err_from_is_err_and}
use Rattle.td_script.proofs.KeyLaws.{said_by_key}
use Rattle.td_script.proofs.line.read_line.Goals as goal

pub returns-in_err-request : goal.returns-in_err-request
returns-in_err-request c =
    let p = err_from_is_err_and c.from_residual.result c.from_residual.ensures.1 in
    rw p.1
    (said_by_key c.args.line.now (sym c.is_skipped.ensures ∙ c.if-is_skipped.false)
    c.in_err-request.ensures)
