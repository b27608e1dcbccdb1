-- Readable texts are refused for nothing but a pattern.
use Rattle.std.proofs.Common.{◌≡◌, ◌≤◌, ◌<◌, ◌⊎◌, ℕ, List, length, Option, Some, None, Result, Ok}
use Rattle.std.proofs.Common.{Err, IfOk, IfErr, String, inl, inr, refl, sym, ap, subst, ◌∙◌, arith}
use Rattle.std.specs.Prelude.{IfSome, IsErrOf, IsUtf8, MatchResult}
use Rattle.std.specs.declared.alloc.Global.{Global}
use Rattle.td_bytes.specs.declared.text.TextFault.{TextFault}
use Rattle.td_bytes.specs.declared.text.TextFault.TheVariants as text
use Rattle.td_text.specs.Lines.{lines_of}
use Rattle.td_rows.specs.Overlay.{overlaid}
use Rattle.td_rows.specs.Table.{Table}
use Rattle.td_rows.proofs.StateTexts.{IsStateFile-one}
use Rattle.td_journal.specs.declared.entry.Marked.{Marked}
use Rattle.td_journal.specs.JournalFile.{IsJournalText}
use Rattle.td_journal.specs.declared.journal_fault.ReadError.{ReadError}
use Rattle.td_journal.specs.declared.journal_fault.ReadError.TheVariants as journal
use Rattle.td_indices.specs.Archive.{Contents}
use Rattle.td_inputs.specs.declared.form_fault.FormFault.TheVariants as fault
use Rattle.td_inputs.specs.Inputs.{AreReadable, AreRowsOf, IsArchiveOf, IsJournalIfGiven}
use Rattle.td_inputs.specs.Inputs.{IsReadableOver, Texts}
use Rattle.td_inputs.proofs.OpeningLaws.{opened_same}
use Rattle.td_script.specs.declared.running.RunFault.{RunFault}
use Rattle.td_script.specs.declared.running.RunFault.TheVariants.{Input, Read, TooLong, NotText}
use Rattle.td_script.specs.declared.running.RunFault.TheVariants.{Write, NoMemory}
use Rattle.td_script.specs.Limits.{script_limit}
use Rattle.td_script.specs.declared.told.Told.{Told as ToldText}
use Rattle.td_script.specs.Ends.{IsScriptText, MayStop, Only}
use Rattle.td_script.specs.OpeningInside.{Stops, of_reading, opening_texts}
use Rattle.td_script.proofs.WithoutJournal.{archive_bare}

-- a run may stop because memory ran out
pub memory_stops : (x : Texts) (e : RunFault) → e ≡ NoMemory → Stops x e
memory_stops x e is = subst (Stops x) (sym is) tt

-- rows of an archive are the same rows
rows_same : (c : Contents) (state : Option (List ℕ)) (t u : Table) → AreRowsOf c state t
    → AreRowsOf c state u → t ≡ u
rows_same c None t u one two = opened_same c t u one two
rows_same c (Some text) t u one two =
    one.replaced ∙ ap (λ g. overlaid g one.opened)
    (IsStateFile-one (lines_of text) one.given two.given one.are_given two.are_given)
    ∙ ap (λ o. overlaid two.given o)
    (opened_same c one.opened two.opened one.are_opened two.are_opened) ∙ sym two.replaced

journal_over : (c : Contents) (x : Texts) (rows : Table) → AreRowsOf c x.state rows
    → IsReadableOver c x → IsJournalIfGiven rows x.journal
journal_over c x rows are readable =
    subst (λ t. IsJournalIfGiven t x.journal)
    (rows_same c x.state readable.rows rows readable.are_rows are) readable.journal

-- a text that is a journal over these rows is refused only if memory runs out
pub reopen_stops : {B : Type 0} (P : List Marked → B → Type 0) (rows : Table) (text : List ℕ)
    (r : Result B ReadError)
    → ((ms : List Marked) → IsJournalText rows text ms
    → MatchResult r (P ms) (λ e. e ≡ journal.NoMemory))
    → IfErr r (λ e. IsJournalIfGiven rows (Some text) → e ≡ journal.NoMemory)
reopen_stops P rows text (Ok b) only = tt
reopen_stops P rows text (Err e) only = λ is. only is.0 is.1

-- why a run stops over the archive that the texts are
pub opened_stops : (x : Texts) (c : Contents) (rows : Table) (e : RunFault)
    → ((d : Contents) → IsArchiveOf (opening_texts x) d → c ≡ d) → AreRowsOf c x.state rows
    → (IsJournalIfGiven rows x.journal → e ≡ NoMemory) → AreReadable x → Stops x e
opened_stops x c rows e only are stops readable =
    let same = only readable.0 (archive_bare x _ readable.0 readable.1) in
    memory_stops x e
    (stops (journal_over c x rows are (subst (λ d. IsReadableOver d x) (sym same) readable.2)))

-- ---- the run

pub stops_run : (x : Texts) (e : RunFault) → Stops x e → MayStop x e
stops_run x (Input (fault.Table e)) h = h
stops_run x (Input (fault.Archive e)) h = h
stops_run x (Input (fault.State e)) h = h
stops_run x (Input (fault.NoSuchRow number)) h = h
stops_run x (Input (fault.Tracker e)) h = h
stops_run x (Input (fault.Journal e)) h = absurd h
stops_run x Read h = absurd h
stops_run x TooLong h = absurd h
stops_run x NotText h = absurd h
stops_run x Write h = absurd h
stops_run x NoMemory h = tt

-- the reader had more than a script may have
abbrev pub IsLong : Option (List ℕ) → Type 0
IsLong known = IfSome known (λ all. script_limit < length all)

-- the reader had no text, within the limit
abbrev pub IsNoText : Option (List ℕ) → Type 0
IsNoText known = IfSome known (λ all. (length all ≤ script_limit) × ¬ IsUtf8 all)

unread_run : (x : Texts) (known : Option (List ℕ)) (t : List ℕ) (f : TextFault) → known ≡ Some t
    → IsScriptText t → (f ≡ text.TooLong → IsLong known) → (f ≡ text.NotText → IsNoText known)
    → MayStop x (of_reading f)
unread_run x known t text.CannotRead is fits long other = tt
unread_run x known t text.TooLong is fits long other =
    let far = subst IsLong is (long refl) in
    let near = fits.0 in
    absurd (omega (arith, far, near))
unread_run x known t text.NotText is fits long other =
    absurd ((subst IsNoText is (other refl)).1 fits.1)
unread_run x known t text.NoMemory is fits long other = tt

pub run_stops : (x : Texts) (known : Option (List ℕ)) (read : Result (String Global) TextFault)
    (e : RunFault) → IfOk read (λ t. AreReadable x → Stops x e)
    → IfErr read (λ f. AreReadable x → Stops x e ⊎ (e ≡ of_reading f))
    → (IsErrOf read text.TooLong → IsLong known) → (IsErrOf read text.NotText → IsNoText known)
    → (t : List ℕ) → known ≡ Some t → IsScriptText t → AreReadable x → MayStop x e
run_stops x known (Ok s) e ok unread long other t is fits readable = stops_run x e (ok readable)
run_stops x known (Err f) e ok unread long other t is fits readable = elim (unread readable) [
  | inl h ↦ stops_run x e h
  | inr h ↦
      subst (MayStop x) (sym h)
      (unread_run x known t f is fits (λ same. long (ap (λ (y : TextFault). Err y) same))
      (λ same. other (ap (λ (y : TextFault). Err y) same)))
]

-- a run that stops
pub run_only : (x : Texts) (known : Option (List ℕ)) (read : Result (String Global) TextFault)
    (r : Result ToldText RunFault) (e : RunFault) → r ≡ Err e
    → IfOk read (λ t. IfErr r (λ f. AreReadable x → Stops x f))
    → IfErr read (λ w. IfErr r (λ f. AreReadable x → Stops x f ⊎ (f ≡ of_reading w)))
    → (IsErrOf read text.TooLong → IsLong known) → (IsErrOf read text.NotText → IsNoText known)
    → Only x known (Err e)
run_only x known (Ok s) r e is ok unread long other =
    run_stops x known (Ok s) e
    (subst (λ (q : Result ToldText RunFault). IfErr q (λ f. AreReadable x → Stops x f)) is ok) tt
    long other
run_only x known (Err w) r e is ok unread long other =
    run_stops x known (Err w) e tt
    (subst (λ (q : Result ToldText RunFault).
    IfErr q (λ f. AreReadable x → Stops x f ⊎ (f ≡ of_reading w))) is unread) long other
