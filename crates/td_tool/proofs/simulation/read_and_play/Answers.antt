-- `read_and_play`: its clauses.
use Rattle.std.proofs.Common.{◌≡◌}
use Rattle.td_tool.proofs.Dues.{kept_steady, play_due}
use Rattle.td_tool.proofs.Plays.{ends, kept_is, kept_within, text_kept}
use Rattle.td_tool.proofs.simulation.read_and_play.Goals as goal

pub returns-clause-ends : goal.returns-clause-ends
returns-clause-ends g c =
    let read = c.read_text-read.ensures in
    ends _ _ _ c.read_text-read.result c.play.result.ending read.text read.within read.long
    read.not_text c.play.ensures.text c.play.ensures.unread

pub returns-clause-kept : goal.returns-clause-kept
returns-clause-kept g c =
    kept_is _ c.read_text-read.result c.play.result.input c.play.ensures.kept
    c.read_text-read.ensures.text

pub returns-clause-short : goal.returns-clause-short
returns-clause-short g c =
    kept_within _ c.read_text-read.result c.play.result.input c.play.ensures.kept
    c.read_text-read.ensures.within

pub returns-clause-text : goal.returns-clause-text
returns-clause-text g c =
    text_kept c.read_text-read.result c.play.result.input _ _ c.play.result.ending
    c.play.ensures.kept c.play.ensures.unread

pub returns-clause-due : goal.returns-clause-due
returns-clause-due g c =
    play_due (g.R.Reader.can_fail c.args.reader.now) (g.W.Writer.can_fail c.args.output.now)
    c.read_text-read.result (g.W.Write.contents c.args.output.now)
    (g.W.Write.contents c.play.new.output) c.play.result.ending c.read_text-read.ensures.due
    c.play.ensures.due c.play.ensures.unread

pub returns-clause-steady : goal.returns-clause-steady
returns-clause-steady g c =
    kept_steady
    (g.R.Reader.can_fail c.read_text-read.new.reader ≡ g.R.Reader.can_fail c.args.reader.now)
    c.read_text-read.result c.play.result.input c.play.ensures.kept
    c.read_text-read.ensures.steady
