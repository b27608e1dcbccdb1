-- `waves_in`: the clauses `waves` and `lacking`, if memory runs out for the files.
use Rattle.std.proofs.lemmas.Result.{err_from_is_err_and}
use Rattle.td_words.proofs.Asking.{memory_said}
use Rattle.td_words.proofs.waves_words.waves_in.Goals as goal

pub returns-in_err-archive_in-clause-waves : goal.returns-in_err-archive_in-clause-waves
returns-in_err-archive_in-clause-waves c w has =
    let p = err_from_is_err_and c.from_residual.result c.from_residual.ensures.1 in
    rw (p.1, p.2)
    (c.in_err-archive_in.ensures.files w.archs w.packages w.sources has.files.files)

pub returns-in_err-archive_in-clause-lacking : goal.returns-in_err-archive_in-clause-lacking
returns-in_err-archive_in-clause-lacking c archs packages sources folder has none given =
    let p = err_from_is_err_and c.from_residual.result c.from_residual.ensures.1 in
    rw (p.1, p.2)
    (memory_said _ _ (c.in_err-archive_in.ensures.files archs packages sources has))
