-- `read_present`: the clause `found`, and the clause `memory` if the folder isn't read.
use Rattle.std.proofs.Common.{subst}
use Rattle.std.proofs.lemmas.Result.{err_from_is_err_and}
use Rattle.td_tool.specs.FolderFiles.{CanBePresent}
use Rattle.td_tool.proofs.folder_files.read_present.Goals as goal

pub returns-clause-found : goal.returns-clause-found
returns-clause-found g c =
    subst (λ given.
    CanBePresent (g.T.Texts.can_be c.args.texts.now) given c.in_ok-present.present)
    c.in_ok-folder.ensures.folder c.in_ok-present.ensures

pub returns-in_err-folder-clause-memory : goal.returns-in_err-folder-clause-memory
returns-in_err-folder-clause-memory g c fine =
    let p = err_from_is_err_and c.from_residual.result c.from_residual.ensures.1 in
    rw (p.1, p.2) (c.in_err-folder.ensures.memory fine)
