-- `do_with_builders`: its clauses.
use Rattle.std.proofs.Common.{sym, subst}
use Rattle.td_words.specs.declared.request.Request.{Request}
use Rattle.td_tool.specs.declared.ending.Ending.{Ending}
use Rattle.td_tool.specs.Explained.{known_of_request}
use Rattle.td_tool.specs.Program.{EndsFor, LeavesInput, NotesFor}
use Rattle.td_tool.specs.Streams.{IsDue}
use Rattle.td_tool.proofs.Explanations.{ends_alone, kept_alone, noted_alone, short_alone}
use Rattle.td_tool.proofs.answering.do_with_builders.Goals as goal

pub returns-clause-ends : goal.returns-clause-ends
returns-clause-ends g c =
    let Says : Request → Ending → Type 0 =
    λ q ending. EndsFor q (g.R.Read.remaining c.args.reader.now)
    (g.R.Read.remaining c.run_with_builders.new.reader) (g.T.Texts.bytes c.args.texts.now)
    (g.T.Texts.can_fail c.args.texts.now) (g.T.Desks.desks c.args.texts.now)
    (g.W.Write.contents c.args.output.now)
    (g.W.Write.contents c.run_with_builders.new.output) ending in
    ends_alone (Says c.args.request.now) c.run_with_builders.result c.alone.result c.alone.ensures
    (subst (λ q. Says q c.run_with_builders.result)
    (sym c.requires.run) c.run_with_builders.ensures.ends)

pub returns-clause-kept : goal.returns-clause-kept
returns-clause-kept g c =
    kept_alone (known_of_request c.args.request.now (g.R.Read.remaining c.args.reader.now)
    (g.T.Texts.bytes c.args.texts.now)) c.run_with_builders.result c.alone.result c.alone.ensures

pub returns-clause-short : goal.returns-clause-short
returns-clause-short g c = short_alone _ c.run_with_builders.result c.alone.result c.alone.ensures

pub returns-clause-input : goal.returns-clause-input
returns-clause-input g c =
    subst (λ q. LeavesInput q (g.R.Read.remaining c.args.reader.now)
    (g.R.Read.remaining c.run_with_builders.new.reader)) (sym c.requires.run) tt

pub returns-clause-due : goal.returns-clause-due
returns-clause-due g c =
    ends_alone
    (IsDue (g.R.Reader.can_fail c.args.reader.now) (g.W.Writer.can_fail c.args.output.now))
    c.run_with_builders.result c.alone.result c.alone.ensures c.run_with_builders.ensures.due

pub returns-clause-noted : goal.returns-clause-noted
returns-clause-noted g c =
    noted_alone (NotesFor c.args.request.now (g.R.Read.remaining c.args.reader.now)
    (g.T.Texts.bytes c.args.texts.now) (g.T.Texts.can_fail c.args.texts.now))
    c.run_with_builders.result c.alone.result c.alone.ensures
