-- `begin`: the clause `only`.
use Rattle.std.proofs.Common.{◌≡◌, ℕ, List, Option, Bor, IfErr, option_map, sym, subst}
use Rattle.td_journal.specs.declared.entry.Marked.{Marked}
use Rattle.td_journal.specs.declared.journal_fault.ReadError.TheVariants.{NoMemory}
use Rattle.td_core.specs.History.{history_of}
use Rattle.td_book.specs.Desk.{BookModel}
use Rattle.td_book.specs.Reopening.{given_back}
use Rattle.td_inputs.specs.Inputs.{IsJournalIfGiven}
use Rattle.td_script.proofs.OnlyLaws.{reopen_stops}
use Rattle.td_script.proofs.beginning.begin.Goals as goal

pub returns-in-Some-clause-only : goal.returns-in-Some-clause-only
returns-in-Some-clause-only c =
    subst (λ (o : Option (Bor (List ℕ))).
    IfErr c.reopen.result (λ fault.
    IsJournalIfGiven c.args.rows (option_map (λ s. s.now) o) → fault ≡ NoMemory)) (sym c.in-Some.is)
    (reopen_stops (λ (ms : List Marked) (book : BookModel).
    book.history ≡ given_back (history_of c.args.rows ms)) c.args.rows c.in-Some.text.now
    c.reopen.result c.reopen.ensures.only)
