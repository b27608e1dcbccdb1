-- `track_in`: the clauses `track`, `said` and `lacking`, if memory runs out for the files.
use Rattle.td_words.proofs.Asking.{memory_said}
use Rattle.std.proofs.lemmas.Result.{err_from_is_err_and}
use Rattle.td_words.proofs.track_words.track_in.Goals as goal

pub returns-in_err-files-clause-track : goal.returns-in_err-files-clause-track
returns-in_err-files-clause-track c w has =
    let p = err_from_is_err_and c.from_residual.result c.from_residual.ensures.1 in
    rw (p.1, p.2) (c.in_err-files.ensures.files w.archs w.packages w.sources has.files.files)

pub returns-in_err-files-clause-said : goal.returns-in_err-files-clause-said
returns-in_err-files-clause-said c archs packages sources tracker has =
    let p = err_from_is_err_and c.from_residual.result c.from_residual.ensures.1 in
    rw (p.1, p.2) (memory_said _ _ (c.in_err-files.ensures.files archs packages sources has.files))

pub returns-in_err-files-clause-lacking : goal.returns-in_err-files-clause-lacking
returns-in_err-files-clause-lacking c archs packages sources folder has none given =
    let p = err_from_is_err_and c.from_residual.result c.from_residual.ensures.1 in
    rw (p.1, p.2) (memory_said _ _ (c.in_err-files.ensures.files archs packages sources has))
