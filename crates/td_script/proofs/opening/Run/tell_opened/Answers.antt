-- `Run::tell_opened`: what its calls ask, and the clause `only`.
use Rattle.std.proofs.Common.{ap, subst}
use Rattle.std.proofs.lemmas.Result.{IfErr-weaker}
use Rattle.std.specs.Prelude.{option_copied}
use Rattle.td_inputs.specs.Opened.{IsGivenTracker}
use Rattle.td_inputs.proofs.OpeningLaws.{tracker_of_text}
use Rattle.td_script.specs.Openings.{texts_lent}
use Rattle.td_script.proofs.OnlyLaws.{opened_stops}
use Rattle.td_script.proofs.OpeningLaws.{none_given, text_given}
use Rattle.td_script.proofs.WithoutJournal.{archive_too}
use Rattle.td_script.proofs.opening.Run.tell_opened.Goals as goal

pub tell_tracked-requires-clause-archive : goal.tell_tracked-requires-clause-archive
tell_tracked-requires-clause-archive g c = λ k l.
    archive_too (texts_lent c.args.self.now.files) _ _ c.requires.opened.archive

pub tell_tracked-requires-clause-rows : goal.tell_tracked-requires-clause-rows
tell_tracked-requires-clause-rows g c = λ k l. c.in-Ok.ensures.rows _ c.requires.opened.rows

pub tell_tracked-requires-clause-given : goal.tell_tracked-requires-clause-given
tell_tracked-requires-clause-given g c = λ k l.
    let tracker = (texts_lent c.args.self.now.files).tracker in
    text_given tracker c.in-Some.given.now
    (subst (IsGivenTracker tracker) (ap option_copied c.in-Some.is) c.requires.opened.tracker)

pub tell_tracked-requires-clause-tracker : goal.tell_tracked-requires-clause-tracker
tell_tracked-requires-clause-tracker g c = λ k l.
    let tracker = (texts_lent c.args.self.now.files).tracker in
    tracker_of_text tracker c.in-Some.given.now
    (subst (IsGivenTracker tracker) (ap option_copied c.in-Some.is) c.requires.opened.tracker)

pub tell_tracked-requires-clause-idle : goal.tell_tracked-requires-clause-idle
tell_tracked-requires-clause-idle g c = λ k l. c.in-Ok.ensures.idle _ c.requires.opened.rows

pub tell_untracked-requires-clause-archive : goal.tell_untracked-requires-clause-archive
tell_untracked-requires-clause-archive g c =
    archive_too (texts_lent c.args.self.now.files) _ _ c.requires.opened.archive

pub tell_untracked-requires-clause-rows : goal.tell_untracked-requires-clause-rows
tell_untracked-requires-clause-rows g c = c.in-Ok.ensures.rows _ c.requires.opened.rows

pub tell_untracked-requires-clause-tracker : goal.tell_untracked-requires-clause-tracker
tell_untracked-requires-clause-tracker g c =
    let tracker = (texts_lent c.args.self.now.files).tracker in
    none_given tracker
    (subst (IsGivenTracker tracker) (ap option_copied c.in-None.is) c.requires.opened.tracker)

pub tell_untracked-requires-clause-idle : goal.tell_untracked-requires-clause-idle
tell_untracked-requires-clause-idle g c = c.in-Ok.ensures.idle _ c.requires.opened.rows

pub returns-in-Some-clause-only : goal.returns-in-Some-clause-only
returns-in-Some-clause-only g c =
    IfErr-weaker c.tell_tracked.result _ _
    (λ e. opened_stops (texts_lent c.args.self.now.files) c.args.opened.archive.now c.in-Ok.rows e
    c.requires.opened.only (c.in-Ok.ensures.rows _ c.requires.opened.rows))
    c.tell_tracked.ensures.only

pub returns-in-None-clause-only : goal.returns-in-None-clause-only
returns-in-None-clause-only g c =
    IfErr-weaker c.tell_untracked.result _ _
    (λ e. opened_stops (texts_lent c.args.self.now.files) c.args.opened.archive.now c.in-Ok.rows e
    c.requires.opened.only (c.in-Ok.ensures.rows _ c.requires.opened.rows))
    c.tell_untracked.ensures.only
