-- What a clerk without builders answers to what is asked.
use Rattle.std.proofs.Common.{◌≡◌, ℕ, List, [], ◌∷◌, Option, Result, Ok, Err, IfOk, IfErr, sym}
use Rattle.std.proofs.Common.{ap, subst, ◌∙◌}
use Rattle.std.specs.Prelude.{string_bytes}
use Rattle.std.specs.Prelude.{IfSome, MatchResult}
use Rattle.atomic_table.specs.Seated.{TableId}
use Rattle.td_rows.specs.Table.{Table}
use Rattle.td_journal.specs.declared.journal_fault.ReadError.{ReadError}
use Rattle.td_journal.specs.declared.journal_fault.ReadError.TheVariants.{NoMemory}
use Rattle.td_journal.specs.declared.journal_fault.ReadError.TheVariants as journal
use Rattle.td_supply.specs.Supply.{Stock}
use Rattle.td_book.specs.Desk.{BookModel}
use Rattle.td_indices.specs.Supplying.{supply_of}
use Rattle.td_report.specs.TransitionView.{IsMade}
use Rattle.td_script.specs.Asking.{IsToldOf, journal_asked, setting_asked}
use Rattle.td_script.specs.Ends.{IsAnswered}
use Rattle.td_script.specs.OpeningInside.{IsBegunBy, IsJournalFault, IsToldFor, IsToldFrom}
use Rattle.td_script.specs.OpeningInside.{IsUntold, of_journal}
use Rattle.td_inputs.specs.Inputs.{IsJournalIfGiven}
use Rattle.td_script.specs.Reporting.{made, report_by}
use Rattle.td_script.specs.Settings.{IsLentTo, setting_lent}
use Rattle.td_script.specs.Telling.{Telling}
use Rattle.td_script.specs.declared.running.RunFault.{RunFault}
use Rattle.td_script.specs.declared.running.RunFault.TheVariants as RunFaults
use Rattle.td_script.specs.declared.staff.Asked.{Asked}
use Rattle.td_script.specs.declared.told.Told.{Told}

-- what is lent at the board of a book that begins so is lent to it
pub begun_lent : (asked : Asked) (board table : TableId) (builders : ℕ)
    (begun : Result BookModel ReadError) → board ≡ table → builders ≡ 0
    → IfOk begun (IsBegunBy (journal_asked asked) asked.rows table (supply_of asked.archive.now)
    builders)
    → IfSome asked.reports (λ x. IsMade x.now)
    → IfOk begun (IsLentTo made board asked.reports)
begun_lent asked board table builders (Ok book) same none begun fit = record {
  board = same ∙ sym begun.table_is;
  alone = begun.builders_are ∙ none;
  fits = fit;
}
begun_lent asked board table builders (Err e) same none begun fit = tt

-- the answers from a book that begins so, or why there is no book
pub told_begun : (asked : Asked) (table : TableId) (builders : ℕ)
    (begun : Result BookModel ReadError) (r : Result Told ReadError)
    → IfOk begun (IsBegunBy (journal_asked asked) asked.rows table (supply_of asked.archive.now)
    builders)
    → IfErr begun (IsJournalFault asked.rows (journal_asked asked))
    → IfErr begun (λ e. IsJournalIfGiven asked.rows (journal_asked asked) → e ≡ NoMemory)
    → MatchResult begun
    (λ book. IsToldFor book (setting_lent report_by book.fixed.stock (asked.suite ∷ [])
    asked.reports) asked.script.now r)
    (λ e. r ≡ Err e)
    → IsToldOf IsAnswered asked r
told_begun asked table builders (Ok book) (Ok told) begun fault only is = record {
  told = (
    book.history,
    begun.begun,
    subst (λ (x : Stock). IsAnswered (setting_lent report_by x (asked.suite ∷ []) asked.reports)
        book.history asked.script.now (string_bytes told.text) told.refused) begun.stock_is is.told,
  );
  fault = tt;
  only = tt;
}
told_begun asked table builders (Ok book) (Err e) begun fault only is = record {
  told = tt;
  fault = subst (IsJournalFault asked.rows (journal_asked asked)) (sym is.memory) tt;
  only = λ journal. is.memory;
}
told_begun asked table builders (Err e) r begun fault only is =
    subst (IsToldOf IsAnswered asked) (sym is) (record { told = tt; fault = fault; only = only })

-- ---- what a run makes of it

-- the fault of a journal, as one of a run
journal_untold : (rows : Table) (given : Option (List ℕ)) (e : ReadError)
    → IsJournalFault rows given e → IsUntold rows given (of_journal e)
journal_untold rows given journal.BadHeader h = h
journal_untold rows given (journal.BadLine n) h = h
journal_untold rows given (journal.Unlawful n) h = h
journal_untold rows given journal.NoMemory h = tt

-- what may be answered to what was asked, or why the run stops
pub record IsRunOf (May : Telling) (asked : Asked) (r : Result Told RunFault) : Type 0 where
  pub told : IfOk r
      (IsToldFrom May (setting_asked asked) (journal_asked asked) asked.rows asked.script.now)
  pub refused : IfErr r (IsUntold asked.rows (journal_asked asked))
  pub only : IfErr r (λ e.
      IsJournalIfGiven asked.rows (journal_asked asked) → e ≡ RunFaults.NoMemory)

pub run_of : (May : Telling) (asked : Asked) (told : Result Told ReadError)
    (r : Result Told RunFault) → IsToldOf May asked told → IfOk told (λ t. r ≡ Ok t)
    → IfErr told (λ e. r ≡ Err (of_journal e)) → IsRunOf May asked r
run_of May asked (Ok t) r is same other =
    subst (IsRunOf May asked) (sym same) (record { told = is.told; refused = tt; only = tt })
run_of May asked (Err e) r is same other =
    subst (IsRunOf May asked) (sym other) (record {
      told = tt;
      refused = journal_untold asked.rows (journal_asked asked) e is.fault;
      only = λ given. ap (λ (y : ReadError). of_journal y) (is.only given);
    })
