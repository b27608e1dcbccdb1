-- A crew's answers end with the rows of the book with which its desk is closed.
use Rattle.std.proofs.Common.{◌≡◌, ℕ, ◌+◌, true, List, ◌++◌, length, map, Option, Some, None}
use Rattle.std.proofs.Common.{Result, Ok, Err, refl, sym, ap, ap₂, append_assoc, subst, ◌∙◌}
use Rattle.std.specs.Prelude.{IfErr, IfOk, MatchResult, OnOk, codes, string_bytes}
use Rattle.std.proofs.Math.Logic.{∥∥₁_map}
use Rattle.atomic_table.specs.Seated.{TableId}
use Rattle.td_text.specs.Lines.{lines_of}
use Rattle.td_rows.specs.StateWriting.{state_text}
use Rattle.td_rows.specs.Table.{Table}
use Rattle.td_journal.specs.Entries.{standing}
use Rattle.td_journal.specs.Replay.{Lawful}
use Rattle.td_journal.specs.declared.entry.Mark.{Mark}
use Rattle.td_journal.specs.declared.journal_fault.ReadError.{ReadError}
use Rattle.td_journal.specs.declared.journal_fault.ReadError.TheVariants.{NoMemory}
use Rattle.td_core.specs.History.{History, history_of, opened, rows_of}
use Rattle.td_book.specs.Reopening.{given_back}
use Rattle.td_book.specs.Desk.{BookModel}
use Rattle.td_desk.specs.declared.receipt.Receipt.{Receipt}
use Rattle.td_desk.specs.Calls.{IsMetBy, IsOfDesk}
use Rattle.td_desk.specs.Changes.{changes, still_undone}
use Rattle.td_desk.specs.GoingOn.{Begins, GoesOn}
use Rattle.td_desk.specs.Marks.{IsNamedJournal}
use Rattle.td_desk.specs.Names.{Origin}
use Rattle.td_script.specs.OpeningInside.{IsToldFrom}
use Rattle.td_script.specs.Openings.{IsBegun}
use Rattle.td_script.specs.Replies.{Setting, ended}
use Rattle.td_script.specs.declared.told.Told.{Told as ToldText}
use Rattle.td_crew.specs.CrewText.{EndsFrom, HasBegun, HasRows, IsClosed, IsClosing, IsOfCrew}
use Rattle.td_crew.specs.CrewText.{IsOfCrewAt}
use Rattle.td_crew.specs.CrewText.{IsShift, IsShort, crew_tells, marks_begun, rows_told, told_with}
use Rattle.td_crew.specs.CrewText.{untold}
use Rattle.td_crew.proofs.BegunMarks.{changes_told, still_told}
use Rattle.td_crew.proofs.Replied.{told_more}

-- ---- 1. where a crew starts

pub begun_none : (rows : Table) → HasBegun None rows
begun_none rows = (opened rows, refl)

pub begun_named : (marks : List Mark) (rows : Table) (text : List ℕ)
    → IsNamedJournal marks rows text → HasBegun (Some text) rows
begun_named marks rows text n = (given_back (history_of rows n.journal), (n.journal, n.reads, refl))

opening_begun : (given : Option (List ℕ)) (rows : Table) (h : History) → IsBegun given rows h
    → h.opening ≡ rows
opening_begun None rows h is = ap (λ (x : History). x.opening) is
opening_begun (Some text) rows h is = ap (λ (x : History). x.opening) is.2

-- a journal that goes on with that of the desk's opening goes on with that of the script's start
begun-on : (origin : Origin) (given : Option (List ℕ)) (h now : History) → origin.journal ≡ given
    → IsBegun given origin.rows h → Begins origin now.journal → GoesOn h.journal now.journal
begun-on origin None h now at is began =
    subst (λ (x : History). GoesOn x.journal now.journal) (sym is) refl
begun-on origin (Some text) h now at (before, reads, is) began =
    subst (λ (x : History). GoesOn x.journal now.journal) (sym is) (began text before at reads)

-- what is known of the book with which a desk is closed
pub desk_book : (table : TableId) (origin : Origin) (b made : BookModel) → b ≡ made
    → made.fixed.table ≡ table → made.history.opening ≡ origin.rows
    → made.fixed.stock ≡ origin.stock → made.fixed.builders ≡ origin.builders
    → Begins origin made.history.journal
    → Lawful b.history.opening (standing b.history.journal) → IsOfDesk table origin b
desk_book table origin b made same at over stocked staffed began lawful = record {
  at = ap (λ (x : BookModel). x.fixed.table) same ∙ at;
  over = ap (λ (x : BookModel). x.history.opening) same ∙ over;
  stocked = ap (λ (x : BookModel). x.fixed.stock) same ∙ stocked;
  staffed = ap (λ (x : BookModel). x.fixed.builders) same ∙ staffed;
  began = subst (λ (x : BookModel). Begins origin x.history.journal) (sym same) began;
  lawful = lawful;
}

-- a book of the desk is one of the crew's
pub crew_book : (builders : ℕ) (table : TableId) (origin : Origin) (s : Setting) (h : History)
    (b : BookModel) → origin.builders ≡ builders → s.stock ≡ origin.stock
    → IsBegun origin.journal origin.rows h → IsOfDesk table origin b → IsOfCrew builders s h b
crew_book builders table origin s h b staff stock is of = record {
  staffed = of.staffed ∙ staff;
  opening = of.over ∙ sym (opening_begun origin.journal origin.rows h is);
  stocked = of.stocked ∙ sym stock;
  on = begun-on origin origin.journal h b.history refl is of.began;
  lawful = of.lawful;
}

-- a book's changes since the desk's opening are those since the script's start
changes_begun : (builders : ℕ) (origin : Origin) (opened : List Mark) (s : Setting) (h : History)
    (b : BookModel)
    → opened ≡ marks_begun origin.journal → IsShort origin.journal
    → IsBegun origin.journal origin.rows h → IsOfCrew builders s h b
    → changes opened b ≡ changes (map (λ m. m.mark) h.journal) b
changes_begun builders origin opened s h b marks short is of =
    ap (λ (os : List Mark). changes os b) marks
    ∙ changes_told origin.journal origin.rows h b.history.journal short is of.on

-- a book that a clerk with all parts meets has as many changes as the clerk has receipts
crew_book_at : (builders : ℕ) (table : TableId) (origin : Origin) (opened : List Mark) (parts : ℕ)
    (s : Setting) (h : History) (had : List Receipt) (b : BookModel) → parts ≡ 1024
    → opened ≡ marks_begun origin.journal → IsShort origin.journal
    → IsBegun origin.journal origin.rows h → IsOfCrew builders s h b
    → IsMetBy table origin opened parts had b → IsOfCrewAt builders s h had b
crew_book_at builders table origin opened parts s h had b whole marks short is of m = record {
  of_crew = of;
  counted = m.counted whole
      ∙ ap length (changes_begun builders origin opened s h b marks short is of);
}

-- ---- 2. where a crew ends

-- the line `rows` and the rows come after the answers
pub rows_put : (told now : ToldText) (h : History) (front rows : List ℕ)
    → Lawful h.opening (standing h.journal) → string_bytes now.text ≡ front ++ rows
    → front ≡ string_bytes told.text ++ ended (codes "rows") → rows ≡ state_text (rows_of h)
    → now.refused ≡ told.refused → HasRows told h now
rows_put told now h front rows lawful text begins is same = record {
  text = text ∙ ap₂ (λ (a b : List ℕ). a ++ b) begins is
      ∙ append_assoc (string_bytes told.text) (ended (codes "rows")) (state_text (rows_of h));
  lawful = lawful;
  refused = same;
}

-- the rows of the book with which a desk is closed
pub rows_closed : (table : TableId) (origin : Origin) (opened : List Mark)
    (receipts : List Receipt) (told mid now : ToldText) (b : BookModel) (closing : ℕ)
    → IsOfDesk table origin b → still_undone b.history.journal opened ≡ true
    → length receipts ≡ length (changes opened b)
    → IsClosing receipts (changes opened b) closing → string_bytes mid.text ≡ string_bytes told.text
    → mid.refused ≡ told.refused + closing → HasRows mid b.history now
    → IsClosed table origin opened receipts told now
rows_closed table origin opened receipts told mid now b closing of still counted closed same more
    rows =
    record {
      book = b;
      of_desk = of;
      still = still;
      counted = counted;
      text = rows.text ∙ ap (λ (l : List ℕ). l ++ rows_told (rows_of b.history)) same;
      closing = closing;
      closed = closed;
      refused = rows.refused ∙ more;
    }

-- answers to the lines, missing builders and the closing are what a crew may answer
pub ends_closed : (builders : ℕ) (table : TableId) (origin : Origin) (s : Setting)
    (opened : List Mark) (script : List ℕ) (receipts : List Receipt) (told now : ToldText)
    (parts missing : ℕ) → parts ≡ 1024 → origin.builders ≡ builders → s.stock ≡ origin.stock
    → opened ≡ marks_begun origin.journal → IsShort origin.journal
    → IsShift table origin opened parts s script builders missing receipts told
    → IsClosed table origin opened receipts told now
    → EndsFrom builders s origin.journal origin.rows script now
ends_closed builders table origin s opened script receipts told now parts missing whole staff stock
    marks short shift closed = λ h is.
    let of =
    λ (b : BookModel) (o : IsOfDesk table origin b).
    crew_book builders table origin s h b staff stock is o in
    let met = λ (had : List Receipt) (b : BookModel) (m : IsMetBy table origin opened parts had b).
    crew_book_at builders table origin opened parts s h had b whole marks short is
    (of b m.of_desk) m in
    let last = of closed.book closed.of_desk in
    let ms = closed.book.history.journal in
    let begun = map (λ m. m.mark) h.journal in
    let same = changes_begun builders origin opened s h closed.book marks short is last in
    record {
      told = told_with shift.lines receipts;
      lines = told_more (IsMetBy table origin opened parts) (IsOfCrewAt builders s h) met s
          (lines_of script) untold (told_with shift.lines receipts) shift.are;
      book = closed.book;
      of_crew = last;
      still = still_told origin.journal origin.rows h ms short is last.on
          (ap (still_undone ms) (sym marks) ∙ closed.still);
      counted = closed.counted ∙ ap length same;
      text_is = closed.text
          ∙ ap (λ (l : List ℕ). l ++ rows_told (rows_of closed.book.history)) shift.text_is;
      missing = missing;
      few = shift.few;
      home = λ some. ∥∥₁_map (shift.home some) (λ end. (end.0, of end.0 end.1, end.2));
      closing = closed.closing;
      closed = subst (λ (found : List Receipt). IsClosing receipts found closed.closing) same
          closed.closed;
      refused_is = closed.refused ∙ ap (λ (n : ℕ). n + closed.closing) shift.refused_is;
    }

pub told_ok : (builders : ℕ) (s : Setting) (given : Option (List ℕ)) (rows : Table) (lines : List ℕ)
    (r : Result ToldText ReadError) → OnOk r (HasBegun given rows)
    → IfOk r (EndsFrom builders s given rows lines)
    → IfOk r (IsToldFrom (crew_tells builders) s given rows lines)
told_ok builders s given rows lines (Ok told) begun ends =
    (begun.0, begun.1, ends begun.0 begun.1)
told_ok builders s given rows lines (Err e) begun ends = tt

-- ---- 3. no desk is begun

-- what holds of what was begun holds if there are answers
pub told_begun : {A B : Type 0} (P : Type 0) (begun : Result A ReadError)
    (r : Result B ReadError) → OnOk begun P → IfErr begun (λ e. r ≡ Err e) → OnOk r P
told_begun P (Ok a) (Ok told) is same = is
told_begun P (Ok a) (Err e) is same = tt
told_begun P (Err e) (Ok told) is same = absurd (let h = same in cc)
told_begun P (Err e) (Err f) is same = tt

-- if there are no answers, no desk was begun, or memory ran out
pub untold_begun : {A B : Type 0} (P : ReadError → Type 0) (begun : Result A ReadError)
    (r : Result B ReadError) → P NoMemory → IfErr begun P
    → IfErr begun (λ e. r ≡ Err e) → OnOk begun (IfErr r (λ e. e ≡ NoMemory)) → IfErr r P
untold_begun P begun (Ok told) none is same memory = tt
untold_begun P (Ok a) (Err e) none is same memory = subst P (sym memory) none
untold_begun P (Err f) (Err e) none is same memory =
    let h : f ≡ e = (let k = same in cc) in subst P h is

-- ---- 4. what is taken out of a telling

-- what holds of what is told in a telling holds once it is taken out
pub taken_ok : {A B : Type 0} (t : Result A ReadError) (r : Result B ReadError) (told : A → B)
    (P : B → Type 0) → MatchResult t (λ a. r ≡ Ok (told a)) (λ e. r ≡ Err e)
    → IfOk t (λ a. P (told a)) → IfOk r P
taken_ok (Ok a) r told P is h = subst (λ x. IfOk x P) (sym is) h
taken_ok (Err e) r told P is h = subst (λ x. IfOk x P) (sym is) tt

-- what holds if there is a telling holds if there is what is told
pub taken_on : {A B : Type 0} (t : Result A ReadError) (r : Result B ReadError) (told : A → B)
    (P : Type 0) → MatchResult t (λ a. r ≡ Ok (told a)) (λ e. r ≡ Err e)
    → OnOk t P → OnOk r P
taken_on (Ok a) r told P is h = subst (λ x. OnOk x P) (sym is) h
taken_on (Err e) r told P is h = subst (λ x. OnOk x P) (sym is) tt

-- a fault stays what it is
pub taken_err : {A B : Type 0} (t : Result A ReadError) (r : Result B ReadError) (told : A → B)
    (P : ReadError → Type 0) → MatchResult t (λ a. r ≡ Ok (told a)) (λ e. r ≡ Err e)
    → IfErr t P → IfErr r P
taken_err (Ok a) r told P is h = subst (λ x. IfErr x P) (sym is) tt
taken_err (Err e) r told P is h = subst (λ x. IfErr x P) (sym is) h
