-- `stanzas`: the clauses `only` and `first`.
use Rattle.td_text.specs.Lines.{lines_of}
use Rattle.td_stanza.proofs.Laws.{gives_stanzas, gives_fault}
use Rattle.td_stanza.proofs.reading.stanzas.Goals as goal

pub returns-clause-only : goal.returns-clause-only
returns-clause-only c =
    gives_stanzas (lines_of c.args.text.now) c.read.result c.read.ensures.found c.read.ensures.fault

pub returns-clause-first : goal.returns-clause-first
returns-clause-first c =
    gives_fault (lines_of c.args.text.now) c.read.result c.read.ensures.found c.read.ensures.fault
