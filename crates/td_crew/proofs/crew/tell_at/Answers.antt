-- A crew's answers at a desk end with the rows of its book.
use Rattle.std.proofs.Common.{ap, length, refl}
use Rattle.std.proofs.lemmas.Result.{IfOk-weaker}
use Rattle.td_desk.specs.Clerks.{ClerkModel}
use Rattle.td_crew.proofs.Endings.{ends_closed}
use Rattle.td_crew.proofs.crew.tell_at.Goals as goal

pub returns-clause-told : goal.returns-clause-told
returns-clause-told g c =
    IfOk-weaker c.close.result _ _
    (λ telling closed. ends_closed (length c.args.seats.items) g.N.Named.table g.N.Named.origin _
    g.N.Named.opened c.args.lines.now.script.now _ c.in_ok-telling.telling.told telling.told _ _
    (ap (λ (x : ClerkModel). x.parts) c.requires.new) c.requires.staffed refl c.requires.opened
    c.requires.short c.in_ok-telling.ensures.told closed) c.close.ensures.closed
