-- A crew's answers at the named desk are answers from where a script starts.
use Rattle.std.proofs.Common.{◌≡◌, length, option_map, refl, subst}
use Rattle.std.proofs.lemmas.Result.{IfOk-weaker}
use Rattle.td_journal.specs.declared.journal_fault.ReadError.TheVariants.{NoMemory}
use Rattle.td_desk.specs.Names.{Origin}
use Rattle.td_script.specs.OpeningInside.{IsJournalFault}
use Rattle.td_inputs.specs.Inputs.{IsJournalIfGiven}
use Rattle.td_script.specs.Settings.{setting_lent}
use Rattle.td_crew.specs.CrewText.{EndsFrom, HasBegun}
use Rattle.td_crew.proofs.Endings.{told_begun, untold_begun}
use Rattle.td_crew.proofs.crew.tell_named.Goals as goal

pub returns-clause-begun : goal.returns-clause-begun
returns-clause-begun g c =
    told_begun (HasBegun (option_map (λ s. s.now) c.args.lines.now.journal) c.args.rows)
    c.begin-begun.result c.tell_if_begun.result c.begin-begun.ensures.begun
    c.tell_if_begun.ensures.refused

pub returns-clause-told : goal.returns-clause-told
returns-clause-told g c =
    IfOk-weaker c.tell_if_begun.result _ _
    (λ telling. subst (λ (o : Origin).
    EndsFrom (length c.args.seats.items)
    (setting_lent g.T.Reports.text o.stock c.args.lines.now.suites.now c.args.lines.now.reports)
    o.journal o.rows c.args.lines.now.script.now telling.told) c.requires.origin)
    c.tell_if_begun.ensures.told

pub returns-clause-fault : goal.returns-clause-fault
returns-clause-fault g c =
    untold_begun (IsJournalFault c.args.rows (option_map (λ s. s.now) c.args.lines.now.journal))
    c.begin-begun.result c.tell_if_begun.result tt c.begin-begun.ensures.fault
    c.tell_if_begun.ensures.refused c.tell_if_begun.ensures.memory

pub returns-clause-only : goal.returns-clause-only
returns-clause-only g c =
    untold_begun (λ fault.
    IsJournalIfGiven c.args.rows (option_map (λ s. s.now) c.args.lines.now.journal)
    → fault ≡ NoMemory)
    c.begin-begun.result c.tell_if_begun.result (λ given. refl) c.begin-begun.ensures.only
    c.tell_if_begun.ensures.refused c.tell_if_begun.ensures.memory
