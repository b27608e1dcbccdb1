-- If the outcomes aren't read, nothing is written, and no stream has failed.
use Rattle.std.proofs.Common.{◌≡◌, rules}
use Rattle.td_script.specs.declared.running.RunFault.TheVariants as fault
use Rattle.td_script.specs.Openings.{texts_of}
use Rattle.td_crew.specs.CrewEnds.{outcomes_of}
use Rattle.td_crew.specs.CrewText.{crew_tells}
use Rattle.td_crew.specs.declared.running.CrewFault.TheVariants.{Run}
use Rattle.td_crew.proofs.CrewRuns.{only_read, says_read, stops_read, unread_calm, unread_says}
use Rattle.td_crew.proofs.CrewRuns.{unread_stops, unwritten_calm}
use Rattle.td_crew.proofs.running.run_crew.Goals as goal

pub returns-in-Err-clause-says : goal.returns-in-Err-clause-says
returns-in-Err-clause-says g c =
    let inputs = c.args.inputs.now in
    unread_says (crew_tells inputs.builders) (texts_of inputs) (outcomes_of inputs)
    (g.R.Read.remaining c.args.reader.now) (g.W.Write.contents c.args.writer.now)
    (g.W.Write.contents c.args.writer.now) c.no_outcomes.result
    c.no_outcomes.ensures.says (search rules)

pub returns-in-Err-clause-only : goal.returns-in-Err-clause-only
returns-in-Err-clause-only g c = record {
  read = λ text is fits read readable.
      unread_stops (texts_of c.args.inputs.now) c.no_outcomes.result
      (c.no_outcomes.ensures.only read readable);
  unread = λ unread readable. c.no_outcomes.ensures.unread readable;
}

pub returns-in-Err-clause-unread : goal.returns-in-Err-clause-unread
returns-in-Err-clause-unread g c = λ is.
    let inputs = c.args.inputs.now in
    let same : c.no_outcomes.result ≡ Run fault.Read = cc in
    absurd
    (unread_calm (texts_of inputs) (outcomes_of inputs) c.no_outcomes.result
    c.no_outcomes.ensures.says same)

pub returns-in-Err-clause-unwritten : goal.returns-in-Err-clause-unwritten
returns-in-Err-clause-unwritten g c = λ is.
    let inputs = c.args.inputs.now in
    let same : c.no_outcomes.result ≡ Run fault.Write = cc in
    absurd
    (unwritten_calm (texts_of inputs) (outcomes_of inputs) c.no_outcomes.result
    c.no_outcomes.ensures.says same)

-- if the outcomes are read, the run ends as the script's
pub returns-clause-says : goal.returns-clause-says
returns-clause-says g c =
    let inputs = c.args.inputs.now in
    says_read (crew_tells inputs.builders) (texts_of inputs) (outcomes_of inputs)
    (g.R.Read.remaining c.args.reader.now) (g.W.Write.contents c.args.writer.now)
    (g.W.Write.contents c.run_crew_with.new.writer) c.run_crew_with.result c.ended.result
    (search rules) c.run_crew_with.ensures.says c.ended.ensures

pub returns-clause-only : goal.returns-clause-only
returns-clause-only g c =
    let inputs = c.args.inputs.now in
    only_read (texts_of inputs) (outcomes_of inputs) (g.R.Read.remaining c.args.reader.now)
    c.run_crew_with.result c.ended.result (search rules) c.run_crew_with.ensures.only
    c.ended.ensures

pub returns-clause-unread : goal.returns-clause-unread
returns-clause-unread g c = λ is.
    c.run_crew_with.ensures.unread
    (stops_read c.run_crew_with.result c.ended.result fault.Read c.ended.ensures is)

pub returns-clause-unwritten : goal.returns-clause-unwritten
returns-clause-unwritten g c = λ is.
    c.run_crew_with.ensures.unwritten
    (stops_read c.run_crew_with.result c.ended.result fault.Write c.ended.ensures is)
