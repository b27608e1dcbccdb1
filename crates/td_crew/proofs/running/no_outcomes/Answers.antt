-- A file that is refused comes before the outcomes, and the fault of these is their first bad
-- line.
use Rattle.td_script.specs.Openings.{texts_of}
use Rattle.td_inputs.specs.Inputs.{without_journal}
use Rattle.td_crew.specs.CrewEnds.{outcomes_of}
use Rattle.td_crew.proofs.CrewRuns.{unread_is, unread_may, unread_only}
use Rattle.td_crew.proofs.running.no_outcomes.Goals as goal

pub returns-clause-says : goal.returns-clause-says
returns-clause-says g c =
    unread_is (texts_of c.args.inputs.now) (outcomes_of c.args.inputs.now) c.judge_files.result
    c.args.fault c.why_unread.result c.requires c.judge_files.ensures.fine c.why_unread.ensures

pub returns-clause-only : goal.returns-clause-only
returns-clause-only g c =
    unread_only (texts_of c.args.inputs.now) (outcomes_of c.args.inputs.now) c.judge_files.result
    c.args.fault c.why_unread.result c.requires c.judge_files.ensures.only c.why_unread.ensures

pub returns-clause-unread : goal.returns-clause-unread
returns-clause-unread g c =
    unread_may (without_journal (texts_of c.args.inputs.now)) c.judge_files.result c.args.fault
    c.why_unread.result c.judge_files.ensures.only c.why_unread.ensures
