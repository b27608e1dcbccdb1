-- `present_in`: what it answers, if a folder is given.
use Rattle.td_tool.proofs.FolderCalls.{present_by}
use Rattle.td_tool.proofs.folder_files.present_in.Goals as goal

pub returns : goal.returns
returns g c =
    present_by (g.T.Texts.can_be c.args.texts.now) c.args.folder.now c.in-Some.folder
    c.as_str-folder.result.now c.in_ok-is_there.field-0 c.in_ok-is_there-2.field-0
    c.in_ok-is_there-3.field-0 c.in-Some.is c.as_str-folder.ensures.value c.in_ok-is_there.ensures
    c.in_ok-is_there-2.ensures c.in_ok-is_there-3.ensures
