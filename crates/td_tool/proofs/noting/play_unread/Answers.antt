-- `play_unread`: its clauses.
use Rattle.std.proofs.Common.{◌≡◌, false, true, subst, sym}
use Rattle.td_tool.specs.UnreadFiles.{tells_of_unread_file}
use Rattle.td_tool.proofs.Dues.{script_due}
use Rattle.td_tool.proofs.FileEndings.{of_script}
use Rattle.td_tool.proofs.Noted.{stopped_plays}
use Rattle.td_tool.proofs.noting.play_unread.Goals as goal

pub returns-clause-plays : goal.returns-clause-plays
returns-clause-plays g c = λ kept.
    stopped_plays c.args.inputs.now kept c.args.why c.stop_unread.result
    c.ending_of_script.result c.stop_unread.ensures.stops c.ending_of_script.ensures

pub returns-clause-due : goal.returns-clause-due
returns-clause-due g c = λ input output read.
    script_due input output c.stop_unread.result c.ending_of_script.result
    c.ending_of_script.ensures (λ is. read (c.stop_unread.ensures.read is))
    (λ is. (let other : false ≡ true = c.stop_unread.ensures.write is in absurd cc))

pub returns-clause-told : goal.returns-clause-told
returns-clause-told g c =
    subst (λ e. tells_of_unread_file e ≡ false) (sym c.ending_of_script.ensures)
    (of_script c.stop_unread.result)
