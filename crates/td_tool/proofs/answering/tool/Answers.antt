-- `tool`: its clauses.
use Rattle.std.proofs.Common.{IfOk, codes, map, string_bytes, sym, subst}
use Rattle.td_report.specs.Transition.{IsReportOf}
use Rattle.td_words.specs.CheckWords.{AskForCheck}
use Rattle.td_words.specs.CommandLine.{AskFor}
use Rattle.td_tool.specs.Desks.{EndsDesk, desk_files_asked}
use Rattle.td_tool.specs.FolderFiles.{AsksForDesk, AsksForPlan, AsksForRun, AsksForTrack}
use Rattle.td_tool.specs.FolderFiles.{AsksForWaves}
use Rattle.td_tool.specs.CheckEnds.{CheckEnds}
use Rattle.td_tool.specs.Ends.{Ends}
use Rattle.td_tool.specs.Explained.{check_paths, desk_paths, known_at, known_input, plan_paths}
use Rattle.td_tool.specs.Explained.{run_paths, track_paths, waves_paths}
use Rattle.td_tool.specs.Program.{OnlyIfAsked, files_asked, plan_files, waves_files}
use Rattle.td_tool.specs.Program.{words_asked}
use Rattle.td_tool.specs.Ran.{NoNotes, Ran}
use Rattle.td_tool.specs.Runs.{AreNotes, EndsRun, run_files_asked}
use Rattle.td_tool.specs.Streams.{DueTo}
use Rattle.td_tool.specs.Tracks.{EndsSo, IsPlanWith, waves_says}
use Rattle.td_tool.proofs.Asks.{of_given}
use Rattle.td_tool.proofs.answering.tool.Goals as goal

pub returns-in-Ok-clause-simulate : goal.returns-in-Ok-clause-simulate
returns-in-Ok-clause-simulate g c =
    of_given (AskFor (codes "simulate")) (λ b. Ran
    (DueTo (g.R.Reader.can_fail c.args.reader.now) (g.W.Writer.can_fail c.args.output.now)
    (Ends (g.R.Read.remaining c.args.reader.now) (g.W.Write.contents c.args.output.now)
    (g.W.Write.contents c.answer.new.output)))
    NoNotes b (known_input (g.R.Read.remaining c.args.reader.now))
    (g.E.Write.contents c.args.faults.now)
    (g.E.Write.contents c.answer.new.faults) c.answer.result)
    c.args.words c.in-Ok.words c.deref.result.now c.in-Ok.is c.deref.ensures.value
    c.answer.ensures.simulate

pub returns-in-Ok-clause-check : goal.returns-in-Ok-clause-check
returns-in-Ok-clause-check g c = λ w.
    of_given (λ l. AskForCheck l w) (λ b. Ran
    (DueTo (g.R.Reader.can_fail c.args.reader.now) (g.W.Writer.can_fail c.args.output.now)
    (CheckEnds (g.T.Texts.bytes c.args.texts.now) (g.T.Texts.can_fail c.args.texts.now) w
    (g.W.Write.contents c.args.output.now) (g.W.Write.contents c.answer.new.output)))
    NoNotes b (known_at (g.T.Texts.bytes c.args.texts.now) (check_paths w))
    (g.E.Write.contents c.args.faults.now) (g.E.Write.contents c.answer.new.faults)
    c.answer.result)
    c.args.words c.in-Ok.words c.deref.result.now c.in-Ok.is c.deref.ensures.value
    (c.answer.ensures.check w)

pub returns-in-Ok-clause-track : goal.returns-in-Ok-clause-track
returns-in-Ok-clause-track g c = λ w.
    of_given (λ l. AsksForTrack (g.T.Texts.can_be c.args.texts.now) l w) (λ b. Ran
    (DueTo (g.R.Reader.can_fail c.args.reader.now) (g.W.Writer.can_fail c.args.output.now)
    (EndsSo (IsReportOf w.shown) (files_asked (g.T.Texts.bytes c.args.texts.now)
    (g.T.Texts.can_fail c.args.texts.now) w) (g.W.Write.contents c.args.output.now)
    (g.W.Write.contents c.answer.new.output)))
    NoNotes b (known_at (g.T.Texts.bytes c.args.texts.now) (track_paths w))
    (g.E.Write.contents c.args.faults.now) (g.E.Write.contents c.answer.new.faults)
    c.answer.result)
    c.args.words c.in-Ok.words c.deref.result.now c.in-Ok.is c.deref.ensures.value
    (c.answer.ensures.track w)

pub returns-in-Ok-clause-waves : goal.returns-in-Ok-clause-waves
returns-in-Ok-clause-waves g c = λ w.
    of_given (λ l. AsksForWaves (g.T.Texts.can_be c.args.texts.now) l w) (λ b. Ran
    (DueTo (g.R.Reader.can_fail c.args.reader.now) (g.W.Writer.can_fail c.args.output.now)
    (EndsSo (waves_says w.form) (waves_files (g.T.Texts.bytes c.args.texts.now)
    (g.T.Texts.can_fail c.args.texts.now) w) (g.W.Write.contents c.args.output.now)
    (g.W.Write.contents c.answer.new.output)))
    NoNotes b (known_at (g.T.Texts.bytes c.args.texts.now) (waves_paths w))
    (g.E.Write.contents c.args.faults.now) (g.E.Write.contents c.answer.new.faults)
    c.answer.result)
    c.args.words c.in-Ok.words c.deref.result.now c.in-Ok.is c.deref.ensures.value
    (c.answer.ensures.waves w)

pub returns-in-Ok-clause-plan : goal.returns-in-Ok-clause-plan
returns-in-Ok-clause-plan g c = λ w.
    of_given (λ l. AsksForPlan (g.T.Texts.can_be c.args.texts.now) l w) (λ b. Ran
    (DueTo (g.R.Reader.can_fail c.args.reader.now) (g.W.Writer.can_fail c.args.output.now)
    (EndsSo (IsPlanWith (words_asked w)) (plan_files (g.T.Texts.bytes c.args.texts.now)
    (g.T.Texts.can_fail c.args.texts.now) w) (g.W.Write.contents c.args.output.now)
    (g.W.Write.contents c.answer.new.output)))
    NoNotes b (known_at (g.T.Texts.bytes c.args.texts.now) (plan_paths w))
    (g.E.Write.contents c.args.faults.now) (g.E.Write.contents c.answer.new.faults)
    c.answer.result)
    c.args.words c.in-Ok.words c.deref.result.now c.in-Ok.is c.deref.ensures.value
    (c.answer.ensures.plan w)

pub returns-in-Ok-clause-run : goal.returns-in-Ok-clause-run
returns-in-Ok-clause-run g c = λ w.
    of_given (λ l. AsksForRun (g.T.Texts.can_be c.args.texts.now) l w) (λ b. Ran
    (DueTo (g.R.Reader.can_fail c.args.reader.now) (g.W.Writer.can_fail c.args.output.now)
    (EndsRun (run_files_asked (g.T.Texts.bytes c.args.texts.now)
    (g.T.Texts.can_fail c.args.texts.now) w) w.suite (g.R.Read.remaining c.args.reader.now)
    (g.R.Read.remaining c.answer.new.reader) (g.W.Write.contents c.args.output.now)
    (g.W.Write.contents c.answer.new.output)))
    (AreNotes (run_files_asked (g.T.Texts.bytes c.args.texts.now)
    (g.T.Texts.can_fail c.args.texts.now) w) w.suite (g.R.Read.remaining c.args.reader.now))
    b (known_at (g.T.Texts.bytes c.args.texts.now) (run_paths w))
    (g.E.Write.contents c.args.faults.now) (g.E.Write.contents c.answer.new.faults)
    c.answer.result)
    c.args.words c.in-Ok.words c.deref.result.now c.in-Ok.is c.deref.ensures.value
    (c.answer.ensures.run w)

pub returns-in-Ok-clause-desk : goal.returns-in-Ok-clause-desk
returns-in-Ok-clause-desk g c = λ w.
    of_given (λ l. AsksForDesk (g.T.Texts.can_be c.args.texts.now) l w) (λ b. Ran
    (DueTo (g.R.Reader.can_fail c.args.reader.now) (g.W.Writer.can_fail c.args.output.now)
    (EndsDesk (desk_files_asked (g.T.Texts.bytes c.args.texts.now)
    (g.T.Texts.can_fail c.args.texts.now) w) (g.T.Desks.desks c.args.texts.now) w
    (g.R.Read.remaining c.args.reader.now) (g.R.Read.remaining c.answer.new.reader)
    (g.W.Write.contents c.args.output.now) (g.W.Write.contents c.answer.new.output)))
    NoNotes b (known_at (g.T.Texts.bytes c.args.texts.now) (desk_paths w))
    (g.E.Write.contents c.args.faults.now) (g.E.Write.contents c.answer.new.faults)
    c.answer.result)
    c.args.words c.in-Ok.words c.deref.result.now c.in-Ok.is c.deref.ensures.value
    (c.answer.ensures.desk w)

pub returns-in-Ok-clause-others : goal.returns-in-Ok-clause-others
returns-in-Ok-clause-others g c =
    let known = g.R.Read.remaining c.args.reader.now in
    let left = g.R.Read.remaining c.answer.new.reader in
    let bytes = g.T.Texts.bytes c.args.texts.now in
    let can_fail = g.T.Texts.can_fail c.args.texts.now in
    let desks = g.T.Desks.desks c.args.texts.now in
    let reads = g.R.Reader.can_fail c.args.reader.now in
    let writes = g.W.Writer.can_fail c.args.output.now in
    let old = g.W.Write.contents c.args.output.now in
    let new = g.W.Write.contents c.answer.new.output in
    let before = g.E.Write.contents c.args.faults.now in
    let said = g.E.Write.contents c.answer.new.faults in
    subst (λ r. IfOk r (λ given.
    OnlyIfAsked (g.T.Texts.can_be c.args.texts.now) (map string_bytes given.items) known left bytes
    can_fail desks reads writes old new before
    said
    c.answer.result)) (sym c.in-Ok.is)
    (subst (λ l.
    OnlyIfAsked (g.T.Texts.can_be c.args.texts.now) (map string_bytes l) known left bytes can_fail
    desks reads writes old new before said
    c.answer.result) c.deref.ensures.value c.answer.ensures.others)
