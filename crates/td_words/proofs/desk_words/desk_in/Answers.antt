-- `desk_in`: the clause `desk`, if memory runs out for the files or for the path of the desk's own.
use Rattle.std.proofs.lemmas.Result.{err_from_is_err_and}
use Rattle.td_words.proofs.desk_words.desk_in.Goals as goal

pub returns-in_err-files-clause-desk : goal.returns-in_err-files-clause-desk
returns-in_err-files-clause-desk c w has =
    let p = err_from_is_err_and c.from_residual.result c.from_residual.ensures.1 in
    rw (p.1, p.2) (c.in_err-files.ensures.files w.archs w.packages w.sources has.files)

pub returns-in_err-journal-clause-desk : goal.returns-in_err-journal-clause-desk
returns-in_err-journal-clause-desk c w has =
    let r = c.from_residual-in_err-journal in
    let p = err_from_is_err_and r.result r.ensures.1 in
    rw (p.1, p.2) (c.in_err-journal.ensures.path w.journal has.journal_path)
