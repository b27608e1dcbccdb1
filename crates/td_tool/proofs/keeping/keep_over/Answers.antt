-- `keep_over`: what it answers.
use Rattle.std.proofs.Common.{List, option_map, string_bytes, subst, ℕ}
use Rattle.td_session.specs.Grounds.{texts_of}
use Rattle.td_session.specs.Sessions as sessions
use Rattle.td_tool.proofs.Kept.{keeps_so}
use Rattle.td_tool.proofs.keeping.keep_over.Goals as goal

pub returns-clause-keeps : goal.returns-clause-keeps
returns-clause-keeps g c =
    let made = c.args.texts.now in
    let desks = g.T.Desks.desks c.args.desks.now in
    let path = string_bytes c.args.request.now.journal in
    let waits = c.args.request.now.waits in
    let r = c.hold_session-end.result.end in
    let last = option_map g.T.Opened.Device.known c.hold_session-end.result.file in
    let reads = g.R.Reader.can_fail c.args.reader.now in
    let writes = g.W.Writer.can_fail c.args.output.now in
    let known = g.R.Read.remaining c.args.reader.now in
    let left = g.R.Read.remaining c.hold_session-end.new.reader in
    let old = g.W.Write.contents c.args.output.now in
    let new = g.W.Write.contents c.hold_session-end.new.writer in
    keeps_so made (desks.found path) last (desks.can_refuse path waits) reads writes known left old
    new r c.ending_of_session.result c.ending_of_session.ensures
    (subst (λ (p : List ℕ).
    sessions.Ends (texts_of made) (desks.found p) last known left old new r)
    c.as_str.ensures.value c.hold_session-end.ensures.ends) c.hold_session-end.ensures.only
    (subst (λ (p : List ℕ). sessions.IsDue (desks.can_refuse p waits) reads writes r)
    c.as_str.ensures.value c.hold_session-end.ensures.due)
