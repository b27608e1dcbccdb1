-- `Desk::reopen`: the book begins with the entries of the text.
use Rattle.std.proofs.Common.{subst, sym}
use Rattle.td_desk.specs.GoingOn.{Begins}
use Rattle.td_desk.specs.Names.{Origin}
use Rattle.td_desk.proofs.desk.Desk.reopen.Goals as goal

pub begin-requires-clause-began : goal.begin-requires-clause-began
begin-requires-clause-began g c =
    subst (λ (o : Origin). Begins o c.in-Ok-read_back.book.history.journal)
    (sym c.requires.origin) c.in-Ok-read_back.ensures.begun.began
