-- `play_noted`: its clauses, by what was read.
use Rattle.td_script.specs.Openings.{texts_of}
use Rattle.td_tool.proofs.Noted.{due_read, noted_read, played_read}
use Rattle.td_tool.proofs.noting.play_noted.Goals as goal

pub returns-clause-plays : goal.returns-clause-plays
returns-clause-plays g c =
    let read = c.read_text-read.ensures in
    played_read c.args.inputs.now _ _ _ c.read_text-read.result c.play_read.result.ending
    read.text read.long read.not_text c.play_read.ensures.plays

pub returns-clause-noted : goal.returns-clause-noted
returns-clause-noted g c =
    noted_read (texts_of c.args.inputs.now) _ c.read_text-read.result c.play_read.result.notes
    c.read_text-read.ensures.text c.play_read.ensures.noted

pub returns-clause-due : goal.returns-clause-due
returns-clause-due g c =
    due_read _ _ c.read_text-read.result c.play_read.result.ending
    c.read_text-read.ensures.due c.play_read.ensures.due
