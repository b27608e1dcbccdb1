-- `Names::note`: what it answers.
use Rattle.td_stanza.proofs.NotedNames.{noted_few, noted_more}
use Rattle.td_stanza.proofs.names.Names.note.Goals as goal

pub returns-in_ok-insert : goal.returns-in_ok-insert
returns-in_ok-insert c = record {
  noted = λ field same. noted_more c.args.self.now (record { further = c.insert.new.self })
      c.args.others.now field (record { name = c.args.name }) c.if-others-ge-COMPARED.true
      c.requires.noted same c.in_ok-insert.ensures.updates;
}

pub returns-else-others-ge-COMPARED : goal.returns-else-others-ge-COMPARED
returns-else-others-ge-COMPARED c = record {
  noted = λ field same. noted_few c.args.self.now c.args.others.now field
      c.if-others-ge-COMPARED.false c.requires.noted;
}
