-- `journals_tell_the_builders_deeds`: what it answers.
use Rattle.td_steps.proofs.Deeds.{journals_tell, books_tell}
use Rattle.td_steps.proofs.laws.journals_tell_the_builders_deeds.Goals as goal

pub returns-clause-lists : goal.returns-clause-lists
returns-clause-lists c = journals_tell

pub returns-clause-books : goal.returns-clause-books
returns-clause-books c = books_tell
