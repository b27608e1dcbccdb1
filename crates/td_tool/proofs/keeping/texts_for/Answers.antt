-- `texts_for`: the texts, and why there are none.
use Rattle.std.proofs.Common.{string_bytes}
use Rattle.td_tool.specs.DeskInside.{desk_files_at}
use Rattle.td_tool.proofs.Kept.{no_texts, texts_are, within_limit}
use Rattle.td_tool.proofs.keeping.texts_for.Goals as goal

pub texts_by-requires : goal.texts_by-requires
texts_by-requires g c =
    within_limit
    (desk_files_at (g.T.Texts.bytes c.args.texts.now) (g.T.Texts.can_fail c.args.texts.now)
    c.args.request.now) c.read_desk_files-read.result c.read_desk_files-read.ensures.texts

pub returns-clause-texts : goal.returns-clause-texts
returns-clause-texts g c =
    texts_are
    (desk_files_at (g.T.Texts.bytes c.args.texts.now) (g.T.Texts.can_fail c.args.texts.now)
    c.args.request.now) (string_bytes c.args.request.now.suite) c.read_desk_files-read.result
    c.texts_by.result c.read_desk_files-read.ensures.texts c.texts_by.ensures.texts
    c.texts_by.ensures.unread

pub returns-clause-none : goal.returns-clause-none
returns-clause-none g c =
    no_texts
    (desk_files_at (g.T.Texts.bytes c.args.texts.now) (g.T.Texts.can_fail c.args.texts.now)
    c.args.request.now) c.read_desk_files-read.result c.texts_by.result
    c.read_desk_files-read.ensures.failed c.texts_by.ensures.memory c.texts_by.ensures.unread
