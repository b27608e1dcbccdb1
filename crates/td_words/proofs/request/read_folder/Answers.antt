-- `read_folder`: its clauses.
use Rattle.std.proofs.Common.{◌≡◌, IfOk, map, option_map, string_bytes, subst}
use Rattle.td_words.specs.CommandLine.{rows_in}
use Rattle.td_words.specs.Folder.{folder_in}
use Rattle.td_words.proofs.Asking.{only_memory, rows_are_asked}
use Rattle.td_words.proofs.request.read_folder.Goals as goal

pub returns-in-Ok-clause-folder : goal.returns-in-Ok-clause-folder
returns-in-Ok-clause-folder c =
    let m = c.in-Ok.matches in
    let texts = map string_bytes c.args.words.now in
    let rows = rows_are_asked _ m texts c.in_ok-command.ensures c.in-Ok.ensures.matches in
    subst (λ o. IfOk c.folder_of.result (λ f.
    option_map string_bytes f ≡ folder_in (rows_in o))) rows c.folder_of.ensures.folder

pub returns-in-Err-clause-memory : goal.returns-in-Err-clause-memory
returns-in-Err-clause-memory c fine =
    c.fault_of.ensures (only_memory _ (map string_bytes c.args.words.now) c.in-Err.fault
    c.in_ok-command.ensures fine c.in-Err.ensures.kinds)
