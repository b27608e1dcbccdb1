-- `is_found`: what it answers.
use Rattle.std.proofs.Common.{sym, subst}
use Rattle.td_tool.specs.FolderFiles.{CanBeThere}
use Rattle.td_tool.proofs.FolderCalls.{there_by}
use Rattle.td_tool.proofs.folder_files.is_found.Goals as goal

pub returns : goal.returns
returns g c name is =
    let can_be = g.T.Texts.can_be c.args.texts.now in
    subst (CanBeThere can_be c.args.folder.now name) (sym c.counts.ensures)
    (there_by can_be c.args.folder.now name c.args.path.now c.cause.result c.cause-2.result is
    c.cause.ensures c.cause-2.ensures)
