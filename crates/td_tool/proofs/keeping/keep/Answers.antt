-- `keep`: what it answers.
use Rattle.std.proofs.Common.{rules}
use Rattle.td_words.specs.Asked.{desk_words}
use Rattle.td_tool.specs.DeskInside.{desk_files_at}
use Rattle.td_tool.proofs.Dues.{inputs_due}
use Rattle.td_tool.proofs.Kept.{desk_over_texts, desk_without_texts}
use Rattle.td_tool.proofs.keeping.keep.Goals as goal

pub returns-in-Err-clause-ends : goal.returns-in-Err-clause-ends
returns-in-Err-clause-ends g c =
    desk_without_texts _ _ _ _ _ _ _ c.in-Err.ending c.in-Err.ensures.none (search rules)
    (search rules)

pub returns-clause-ends : goal.returns-clause-ends
returns-clause-ends g c =
    desk_over_texts _ (g.T.Desks.desks c.args.texts.now) (desk_words c.args.request.now) _ _ _ _
    c.keep_over-ending.result c.in-Ok.read c.in-Ok.ensures.texts c.keep_over-ending.ensures.keeps
    c.keep_over-ending.ensures.untouched

pub returns-in-Err-clause-due : goal.returns-in-Err-clause-due
returns-in-Err-clause-due g c =
    inputs_due (g.R.Reader.can_fail c.args.reader.now) (g.W.Writer.can_fail c.args.output.now)
    (desk_files_at (g.T.Texts.bytes c.args.texts.now) (g.T.Texts.can_fail c.args.texts.now)
    c.args.request.now) c.in-Err.ending c.in-Err.ensures.none
