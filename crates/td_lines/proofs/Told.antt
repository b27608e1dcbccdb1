-- Notes are told from where a script starts.
use Rattle.std.proofs.Common.{◌≡◌, ℕ, List, [], ◌++◌, Option, Some, Result, Ok, Err, IfErr, IfOk}
use Rattle.std.proofs.Common.{IfSome}
use Rattle.std.proofs.Common.{String, string_bytes, length, option_map, refl, sym, subst, ◌∙◌}
use Rattle.std.proofs.Common.{arith}
use Rattle.std.specs.declared.alloc.Global.{Global}
use Rattle.std.specs.declared.alloc.AllocError.{AllocError}
use Rattle.std.specs.Borrow.{Bor}
use Rattle.std.specs.Io.KnownBytes.{Appends}
use Rattle.td_rows.specs.Table.{Table}
use Rattle.td_core.specs.History.{History}
use Rattle.td_core.specs.Phases.{NoneBuilt}
use Rattle.td_indices.specs.Supplying.{supply_of}
use Rattle.td_inputs.specs.Inputs.{IsJournalIfGiven, Texts}
use Rattle.td_journal.specs.declared.journal_fault.ReadError.{ReadError}
use Rattle.td_journal.specs.declared.journal_fault.ReadError.TheVariants.{NoMemory}
use Rattle.td_report.specs.TransitionView.{IsMade}
use Rattle.td_script.specs.declared.staff.Asked.{Asked}
use Rattle.td_script.specs.declared.told.Told.{Told}
use Rattle.td_script.specs.Asking.{IsFit, IsToldOf, journal_asked}
use Rattle.td_script.specs.Ends.{IsAnswered, Plays}
use Rattle.td_script.specs.OpeningInside.{IsJournalFault}
use Rattle.td_script.specs.Openings.{IsBegun}
use Rattle.td_lines.specs.Notes.{IsNoted, notes}

-- the text of a journal that is given
abbrev given : Option (Bor (List ℕ)) → Option (List ℕ)
given journal = option_map (λ s. s.now) journal

-- what was asked can be asked without the lines
pub fits : (asked lines : Asked) → lines.rows ≡ asked.rows → lines.reports ≡ asked.reports
    → lines.script.now ≡ [] → IsFit asked → IsFit lines
fits asked lines rows reports script fit = record {
  idle = subst NoneBuilt (sym rows) fit.idle;
  made = subst (λ r. IfSome r (λ x. IsMade x.now)) (sym reports) fit.made;
  small = (let none : length lines.script.now ≡ 0 = subst (λ l. length l ≡ 0) (sym script) refl in
      omega (arith, none));
}

-- an answer that is none is none with notes, either
refused : (asked lines : Asked) (e : ReadError) → lines.rows ≡ asked.rows
    → lines.journal ≡ asked.journal → IsToldOf IsAnswered lines (Err e)
    → IsToldOf IsNoted asked (Err e)
refused asked lines e rows journal is = record {
  told = tt;
  fault = subst (λ (t : Table). IsJournalFault t (journal_asked asked) e) rows
      (subst (λ j. IsJournalFault lines.rows (given j) e) journal is.fault);
  only = λ it. is.only (subst (λ (t : Table). IsJournalIfGiven t (journal_asked lines)) (sym rows)
      (subst (λ j. IsJournalIfGiven asked.rows (given j)) (sym journal) it));
}

-- if the journal is one, the notes are told
answered : (asked lines : Asked) (told : Told) (text : String Global) → lines.rows ≡ asked.rows
    → lines.journal ≡ asked.journal → IsToldOf IsAnswered lines (Ok told)
    → string_bytes text ≡ notes (supply_of asked.archive.now) asked.suite.now asked.script.now
    → IsToldOf IsNoted asked (Ok (record { text = text; refused = 0 }))
answered asked lines told text rows journal is same =
    let (h, begun, may) = is.told in
    record {
      told = (
        h,
        subst (λ (t : Table). IsBegun (journal_asked asked) t h) rows
            (subst (λ j. IsBegun (given j) lines.rows h) journal begun),
        (asked.suite.now, refl, same),
      );
      fault = tt;
      only = tt;
    }

lacking : (asked : Asked) → IsToldOf IsNoted asked (Err NoMemory)
lacking asked = record { told = tt; fault = tt; only = λ it. refl }

-- by how the journal was judged, and what was noted
pub noted_or_not : (asked lines : Asked) (told : Told) (made : Result (String Global) AllocError)
    (result : Result Told ReadError) → lines.rows ≡ asked.rows → lines.journal ≡ asked.journal
    → IsToldOf IsAnswered lines (Ok told)
    → IfOk made (λ text. string_bytes text
    ≡ notes (supply_of asked.archive.now) asked.suite.now asked.script.now)
    → IfOk made (λ text. result ≡ Ok (record { text = text; refused = 0 }))
    → IfErr made (λ e. result ≡ Err NoMemory) → IsToldOf IsNoted asked result
noted_or_not asked lines told (Ok text) result rows journal is same ok err =
    subst (IsToldOf IsNoted asked) (sym ok) (answered asked lines told text rows journal is same)
noted_or_not asked lines told (Err e) result rows journal is same ok err =
    subst (IsToldOf IsNoted asked) (sym err) (lacking asked)

pub unjudged : (asked lines : Asked) (r : Result Told ReadError) (e : ReadError) → r ≡ Err e
    → lines.rows ≡ asked.rows → lines.journal ≡ asked.journal → IsToldOf IsAnswered lines r
    → IsToldOf IsNoted asked (Err e)
unjudged asked lines r e same rows journal is =
    refused asked lines e rows journal (subst (IsToldOf IsAnswered lines) same is)

-- what is written is the notes
pub written : (x : Texts) (known : Option (List ℕ)) (text items : List ℕ) (n : ℕ)
    → Plays IsNoted x known (λ t refused. (n ≡ refused) × Appends (Some []) (Some items) t)
    → text ≡ items → Plays IsNoted x known (λ t refused. text ≡ t)
written x known text items n (s, h, set, (lines, script, (t, count, may, so))) same =
    (s, h, set, (lines, script, (t, count, may, same ∙ so.1)))
