-- `do_alone`: its clauses.
use Rattle.std.proofs.Common.{◌≡◌, IfSome, option_map, rules, string_bytes, sym, subst}
use Rattle.td_words.specs.Asked.{check_words, waves_words}
use Rattle.td_words.specs.declared.request.Request.{Request}
use Rattle.td_tool.specs.declared.ending.Ending.{Ending}
use Rattle.td_tool.specs.Explained.{known_of_request}
use Rattle.td_tool.specs.Program.{EndsFor, HasNoBuilders, NotesFor, waves_files}
use Rattle.td_tool.specs.Streams.{IsDue}
use Rattle.td_tool.specs.TrackInside.{asked_of, saying_of}
use Rattle.td_tool.specs.Tracks.{EndsSo, Saying}
use Rattle.td_tool.specs.declared.tracking.Asked.{Asked}
use Rattle.td_tool.proofs.Dues.{asked_check_due, steady_alone, track_due}
use Rattle.td_tool.proofs.Explanations.{ends_alone, kept_alone, kept_none, none_noted}
use Rattle.td_tool.proofs.Explanations.{noted_alone, short_alone, short_none, steady_none}
use Rattle.td_tool.proofs.Ordered.{asked_says}
use Rattle.td_tool.proofs.answering.do_alone.Goals as goal

pub returns-in-Check-clause-ends : goal.returns-in-Check-clause-ends
returns-in-Check-clause-ends g c =
    let Says : Request → Ending → Type 0 =
    λ q ending. EndsFor q (g.R.Read.remaining c.args.reader.now)
    (g.R.Read.remaining c.args.reader.now) (g.T.Texts.bytes c.args.texts.now)
    (g.T.Texts.can_fail c.args.texts.now) (g.T.Desks.desks c.args.texts.now)
    (g.W.Write.contents c.args.output.now)
    (g.W.Write.contents c.check_asked.new.output) ending in
    ends_alone (Says c.args.request.now) c.check_asked.result c.alone.result c.alone.ensures
    (subst (λ q. Says q c.check_asked.result) (sym c.in-Check.is) c.check_asked.ensures.ends)

pub returns-in-Check-clause-kept : goal.returns-in-Check-clause-kept
returns-in-Check-clause-kept g c =
    kept_alone (known_of_request c.args.request.now (g.R.Read.remaining c.args.reader.now)
    (g.T.Texts.bytes c.args.texts.now)) c.check_asked.result c.alone.result c.alone.ensures

pub returns-in-Check-clause-short : goal.returns-in-Check-clause-short
returns-in-Check-clause-short g c =
    short_alone _ c.check_asked.result c.alone.result c.alone.ensures

pub returns-in-Track-clause-ends : goal.returns-in-Track-clause-ends
returns-in-Track-clause-ends g c =
    let Says : Request → Ending → Type 0 =
    λ q ending. EndsFor q (g.R.Read.remaining c.args.reader.now)
    (g.R.Read.remaining c.args.reader.now) (g.T.Texts.bytes c.args.texts.now)
    (g.T.Texts.can_fail c.args.texts.now) (g.T.Desks.desks c.args.texts.now)
    (g.W.Write.contents c.args.output.now)
    (g.W.Write.contents c.track.new.output) ending in
    ends_alone (Says c.args.request.now) c.track.result c.alone-in-Track.result
    c.alone-in-Track.ensures
    (subst (λ q. Says q c.track.result) (sym c.in-Track.is) c.track.ensures.ends)

pub returns-in-Track-clause-kept : goal.returns-in-Track-clause-kept
returns-in-Track-clause-kept g c =
    kept_alone (known_of_request c.args.request.now (g.R.Read.remaining c.args.reader.now)
    (g.T.Texts.bytes c.args.texts.now)) c.track.result c.alone-in-Track.result
    c.alone-in-Track.ensures

pub returns-in-Track-clause-short : goal.returns-in-Track-clause-short
returns-in-Track-clause-short g c =
    short_alone _ c.track.result c.alone-in-Track.result c.alone-in-Track.ensures

pub returns-in-Waves-clause-ends : goal.returns-in-Waves-clause-ends
returns-in-Waves-clause-ends g c =
    let bytes = g.T.Texts.bytes c.args.texts.now in
    let can_fail = g.T.Texts.can_fail c.args.texts.now in
    let old = g.W.Write.contents c.args.output.now in
    let new = g.W.Write.contents c.track-in-Waves.new.output in
    let Says : Request → Ending → Type 0 =
    λ q ending. EndsFor q (g.R.Read.remaining c.args.reader.now)
    (g.R.Read.remaining c.args.reader.now) bytes can_fail (g.T.Desks.desks c.args.texts.now) old new
    ending in
    let form = c.in-Waves.request.form in
    let Holds : Saying → Type 0 =
    λ said. EndsSo said (waves_files bytes can_fail (waves_words c.in-Waves.request)) old new
    c.track-in-Waves.result in
    let asked : Holds (saying_of (asked_of form)) =
    subst (λ (a : Asked). Holds (saying_of a)) c.asked_by-asked.ensures
    c.track-in-Waves.ensures.ends in
    ends_alone (Says c.args.request.now) c.track-in-Waves.result c.alone-in-Waves.result
    c.alone-in-Waves.ensures
    (subst (λ q. Says q c.track-in-Waves.result) (sym c.in-Waves.is)
    (asked_says Holds form asked))

pub returns-in-Waves-clause-kept : goal.returns-in-Waves-clause-kept
returns-in-Waves-clause-kept g c =
    kept_alone (known_of_request c.args.request.now (g.R.Read.remaining c.args.reader.now)
    (g.T.Texts.bytes c.args.texts.now)) c.track-in-Waves.result c.alone-in-Waves.result
    c.alone-in-Waves.ensures

pub returns-in-Waves-clause-short : goal.returns-in-Waves-clause-short
returns-in-Waves-clause-short g c =
    short_alone _ c.track-in-Waves.result c.alone-in-Waves.result c.alone-in-Waves.ensures

pub returns-in-Plan-clause-ends : goal.returns-in-Plan-clause-ends
returns-in-Plan-clause-ends g c =
    let Says : Request → Ending → Type 0 =
    λ q ending. EndsFor q (g.R.Read.remaining c.args.reader.now)
    (g.R.Read.remaining c.args.reader.now) (g.T.Texts.bytes c.args.texts.now)
    (g.T.Texts.can_fail c.args.texts.now) (g.T.Desks.desks c.args.texts.now)
    (g.W.Write.contents c.args.output.now)
    (g.W.Write.contents c.plan.new.output) ending in
    ends_alone (Says c.args.request.now) c.plan.result c.alone-in-Plan.result
    c.alone-in-Plan.ensures
    (subst (λ q. Says q c.plan.result) (sym c.in-Plan.is) c.plan.ensures.ends)

pub returns-in-Plan-clause-kept : goal.returns-in-Plan-clause-kept
returns-in-Plan-clause-kept g c =
    kept_alone (known_of_request c.args.request.now (g.R.Read.remaining c.args.reader.now)
    (g.T.Texts.bytes c.args.texts.now)) c.plan.result c.alone-in-Plan.result
    c.alone-in-Plan.ensures

pub returns-in-Plan-clause-short : goal.returns-in-Plan-clause-short
returns-in-Plan-clause-short g c =
    short_alone _ c.plan.result c.alone-in-Plan.result c.alone-in-Plan.ensures

pub run_explained-requires : goal.run_explained-requires
run_explained-requires g c =
    let none = subst HasNoBuilders c.in-Run.is c.requires in search rules

-- the clauses `due` and `steady`

pub returns-in-Check-clause-due : goal.returns-in-Check-clause-due
returns-in-Check-clause-due g c =
    let input = g.R.Reader.can_fail c.args.reader.now in
    let output = g.W.Writer.can_fail c.args.output.now in
    let w = check_words c.in-Check.request in
    ends_alone (IsDue input output) c.check_asked.result c.alone.result c.alone.ensures
    (asked_check_due input output w.tracker (g.T.Texts.bytes c.args.texts.now)
    (g.T.Texts.can_fail c.args.texts.now) w (g.W.Write.contents c.args.output.now)
    (g.W.Write.contents c.check_asked.new.output) c.check_asked.result
    c.check_asked.ensures.ends c.check_asked.ensures.due)

pub returns-in-Track-clause-due : goal.returns-in-Track-clause-due
returns-in-Track-clause-due g c =
    let input = g.R.Reader.can_fail c.args.reader.now in
    let output = g.W.Writer.can_fail c.args.output.now in
    ends_alone (IsDue input output) c.track.result c.alone-in-Track.result
    c.alone-in-Track.ensures
    (track_due input output _ _ _ _ c.track.result c.track.ensures.ends c.track.ensures.due)

pub returns-in-Waves-clause-due : goal.returns-in-Waves-clause-due
returns-in-Waves-clause-due g c =
    let input = g.R.Reader.can_fail c.args.reader.now in
    let output = g.W.Writer.can_fail c.args.output.now in
    ends_alone (IsDue input output) c.track-in-Waves.result c.alone-in-Waves.result
    c.alone-in-Waves.ensures
    (track_due input output _ _ _ _ c.track-in-Waves.result c.track-in-Waves.ensures.ends
    c.track-in-Waves.ensures.due)

pub returns-in-Plan-clause-due : goal.returns-in-Plan-clause-due
returns-in-Plan-clause-due g c =
    let input = g.R.Reader.can_fail c.args.reader.now in
    let output = g.W.Writer.can_fail c.args.output.now in
    ends_alone (IsDue input output) c.plan.result c.alone-in-Plan.result
    c.alone-in-Plan.ensures
    (track_due input output _ _ _ _ c.plan.result c.plan.ensures.ends c.plan.ensures.due)

pub returns-in-Check-clause-steady : goal.returns-in-Check-clause-steady
returns-in-Check-clause-steady g c =
    steady_alone (g.R.Reader.can_fail c.args.reader.now ≡ g.R.Reader.can_fail c.args.reader.now)
    c.check_asked.result c.alone.result c.alone.ensures

pub returns-in-Track-clause-steady : goal.returns-in-Track-clause-steady
returns-in-Track-clause-steady g c =
    steady_alone (g.R.Reader.can_fail c.args.reader.now ≡ g.R.Reader.can_fail c.args.reader.now)
    c.track.result c.alone-in-Track.result c.alone-in-Track.ensures

pub returns-in-Waves-clause-steady : goal.returns-in-Waves-clause-steady
returns-in-Waves-clause-steady g c =
    steady_alone (g.R.Reader.can_fail c.args.reader.now ≡ g.R.Reader.can_fail c.args.reader.now)
    c.track-in-Waves.result c.alone-in-Waves.result c.alone-in-Waves.ensures

pub returns-in-Plan-clause-steady : goal.returns-in-Plan-clause-steady
returns-in-Plan-clause-steady g c =
    steady_alone (g.R.Reader.can_fail c.args.reader.now ≡ g.R.Reader.can_fail c.args.reader.now)
    c.plan.result c.alone-in-Plan.result c.alone-in-Plan.ensures

-- the clause `noted`

pub returns-in-Simulate-clause-noted : goal.returns-in-Simulate-clause-noted
returns-in-Simulate-clause-noted g c =
    none_noted (NotesFor c.args.request.now (g.R.Read.remaining c.args.reader.now)
    (g.T.Texts.bytes c.args.texts.now) (g.T.Texts.can_fail c.args.texts.now))
    c.read_and_play.result c.read_and_play.ensures.noted

pub returns-in-Check-clause-noted : goal.returns-in-Check-clause-noted
returns-in-Check-clause-noted g c =
    noted_alone (NotesFor c.args.request.now (g.R.Read.remaining c.args.reader.now)
    (g.T.Texts.bytes c.args.texts.now) (g.T.Texts.can_fail c.args.texts.now))
    c.check_asked.result c.alone.result c.alone.ensures

pub returns-in-Track-clause-noted : goal.returns-in-Track-clause-noted
returns-in-Track-clause-noted g c =
    noted_alone (NotesFor c.args.request.now (g.R.Read.remaining c.args.reader.now)
    (g.T.Texts.bytes c.args.texts.now) (g.T.Texts.can_fail c.args.texts.now))
    c.track.result c.alone-in-Track.result c.alone-in-Track.ensures

pub returns-in-Waves-clause-noted : goal.returns-in-Waves-clause-noted
returns-in-Waves-clause-noted g c =
    noted_alone (NotesFor c.args.request.now (g.R.Read.remaining c.args.reader.now)
    (g.T.Texts.bytes c.args.texts.now) (g.T.Texts.can_fail c.args.texts.now))
    c.track-in-Waves.result c.alone-in-Waves.result c.alone-in-Waves.ensures

pub returns-in-Plan-clause-noted : goal.returns-in-Plan-clause-noted
returns-in-Plan-clause-noted g c =
    noted_alone (NotesFor c.args.request.now (g.R.Read.remaining c.args.reader.now)
    (g.T.Texts.bytes c.args.texts.now) (g.T.Texts.can_fail c.args.texts.now))
    c.plan.result c.alone-in-Plan.result c.alone-in-Plan.ensures

-- a run, by its own call

pub returns-in-Run-clause-ends : goal.returns-in-Run-clause-ends
returns-in-Run-clause-ends g c =
    let Says : Request → Ending → Type 0 =
    λ q ending. EndsFor q (g.R.Read.remaining c.args.reader.now)
    (g.R.Read.remaining c.run_explained.new.reader) (g.T.Texts.bytes c.args.texts.now)
    (g.T.Texts.can_fail c.args.texts.now) (g.T.Desks.desks c.args.texts.now)
    (g.W.Write.contents c.args.output.now)
    (g.W.Write.contents c.run_explained.new.output) ending in
    subst (λ q. Says q c.run_explained.result.ending) (sym c.in-Run.is)
    c.run_explained.ensures.ends

pub returns-in-Run-clause-noted : goal.returns-in-Run-clause-noted
returns-in-Run-clause-noted g c =
    subst (λ q. IfSome (option_map string_bytes c.run_explained.result.notes)
    (NotesFor q (g.R.Read.remaining c.args.reader.now) (g.T.Texts.bytes c.args.texts.now)
    (g.T.Texts.can_fail c.args.texts.now))) (sym c.in-Run.is) c.run_explained.ensures.noted

pub returns-in-Run-clause-kept : goal.returns-in-Run-clause-kept
returns-in-Run-clause-kept g c =
    kept_none (known_of_request c.args.request.now (g.R.Read.remaining c.args.reader.now)
    (g.T.Texts.bytes c.args.texts.now)) c.run_explained.result.input c.run_explained.ensures.none

pub returns-in-Run-clause-short : goal.returns-in-Run-clause-short
returns-in-Run-clause-short g c =
    short_none _ c.run_explained.result.input c.run_explained.ensures.none

pub returns-in-Run-clause-steady : goal.returns-in-Run-clause-steady
returns-in-Run-clause-steady g c =
    steady_none
    (g.R.Reader.can_fail c.run_explained.new.reader ≡ g.R.Reader.can_fail c.args.reader.now)
    c.run_explained.result.input c.run_explained.ensures.none

-- a desk, by its own call

pub returns-in-Desk-clause-ends : goal.returns-in-Desk-clause-ends
returns-in-Desk-clause-ends g c =
    let Says : Request → Ending → Type 0 =
    λ q ending. EndsFor q (g.R.Read.remaining c.args.reader.now)
    (g.R.Read.remaining c.keep.new.reader) (g.T.Texts.bytes c.args.texts.now)
    (g.T.Texts.can_fail c.args.texts.now) (g.T.Desks.desks c.args.texts.now)
    (g.W.Write.contents c.args.output.now) (g.W.Write.contents c.keep.new.output) ending in
    ends_alone (Says c.args.request.now) c.keep.result c.alone-in-Desk.result
    c.alone-in-Desk.ensures
    (subst (λ q. Says q c.keep.result) (sym c.in-Desk.is) c.keep.ensures.ends)

pub returns-in-Desk-clause-kept : goal.returns-in-Desk-clause-kept
returns-in-Desk-clause-kept g c =
    kept_alone (known_of_request c.args.request.now (g.R.Read.remaining c.args.reader.now)
    (g.T.Texts.bytes c.args.texts.now)) c.keep.result c.alone-in-Desk.result
    c.alone-in-Desk.ensures

pub returns-in-Desk-clause-short : goal.returns-in-Desk-clause-short
returns-in-Desk-clause-short g c =
    short_alone _ c.keep.result c.alone-in-Desk.result c.alone-in-Desk.ensures

pub returns-in-Desk-clause-due : goal.returns-in-Desk-clause-due
returns-in-Desk-clause-due g c =
    ends_alone
    (IsDue (g.R.Reader.can_fail c.args.reader.now) (g.W.Writer.can_fail c.args.output.now))
    c.keep.result c.alone-in-Desk.result c.alone-in-Desk.ensures c.keep.ensures.due

pub returns-in-Desk-clause-steady : goal.returns-in-Desk-clause-steady
returns-in-Desk-clause-steady g c =
    steady_alone (g.R.Reader.can_fail c.keep.new.reader ≡ g.R.Reader.can_fail c.args.reader.now)
    c.keep.result c.alone-in-Desk.result c.alone-in-Desk.ensures

pub returns-in-Desk-clause-noted : goal.returns-in-Desk-clause-noted
returns-in-Desk-clause-noted g c =
    noted_alone (NotesFor c.args.request.now (g.R.Read.remaining c.args.reader.now)
    (g.T.Texts.bytes c.args.texts.now) (g.T.Texts.can_fail c.args.texts.now))
    c.keep.result c.alone-in-Desk.result c.alone-in-Desk.ensures
