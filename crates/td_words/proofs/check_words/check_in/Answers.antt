-- `check_in`: the clauses `check` and `said`, if memory runs out for the files.
use Rattle.std.proofs.lemmas.Result.{err_from_is_err_and}
use Rattle.td_words.proofs.Asking.{memory_said}
use Rattle.td_words.proofs.check_words.check_in.Goals as goal

pub returns-in_err-files-clause-check : goal.returns-in_err-files-clause-check
returns-in_err-files-clause-check c w has =
    let p = err_from_is_err_and c.from_residual.result c.from_residual.ensures.1 in
    rw (p.1, p.2) (c.in_err-files.ensures.files w.archs w.packages w.sources has.files)

pub returns-in_err-files-clause-said : goal.returns-in_err-files-clause-said
returns-in_err-files-clause-said c archs packages sources has =
    let p = err_from_is_err_and c.from_residual.result c.from_residual.ensures.1 in
    rw (p.1, p.2) (memory_said _ _ (c.in_err-files.ensures.files archs packages sources has))
