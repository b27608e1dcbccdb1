-- A crew begins where a script begins.
use Rattle.std.proofs.Common.{◌≡◌, ℕ, List, Option, Bor, IfErr, OnOk, option_map, sym, subst}
use Rattle.std.proofs.lemmas.Result.{on_ok_weaker}
use Rattle.td_journal.specs.declared.journal_fault.ReadError.TheVariants.{NoMemory}
use Rattle.td_inputs.specs.Inputs.{IsJournalIfGiven}
use Rattle.td_script.proofs.OnlyLaws.{reopen_stops}
use Rattle.td_crew.specs.CrewText.{HasBegun}
use Rattle.td_crew.proofs.Endings.{begun_named, begun_none}
use Rattle.td_crew.proofs.crew.begin.Goals as goal

pub returns-in-Some-clause-begun : goal.returns-in-Some-clause-begun
returns-in-Some-clause-begun g c =
    subst (λ (o : Option (Bor (List ℕ))).
    OnOk c.reopen.result (HasBegun (option_map (λ s. s.now) o) c.args.rows)) (sym c.in-Some.is)
    (on_ok_weaker c.reopen.result
    (begun_named g.N.Named.opened c.args.rows c.in-Some.text.now) c.reopen.ensures.found)

pub returns-in-Some-clause-only : goal.returns-in-Some-clause-only
returns-in-Some-clause-only g c =
    subst (λ (o : Option (Bor (List ℕ))).
    IfErr c.reopen.result (λ fault.
    IsJournalIfGiven c.args.rows (option_map (λ s. s.now) o) → fault ≡ NoMemory)) (sym c.in-Some.is)
    (reopen_stops (λ ms made. Unit {0}) c.args.rows c.in-Some.text.now c.reopen.result
    c.reopen.ensures.only)

pub returns-in-Ok-clause-begun : goal.returns-in-Ok-clause-begun
returns-in-Ok-clause-begun g c =
    subst (λ (o : Option (Bor (List ℕ))). HasBegun (option_map (λ s. s.now) o) c.args.rows)
    (sym c.in-None.is) (begun_none c.args.rows)
