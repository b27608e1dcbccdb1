-- The answers to a script by a clerk who works while builders build. This project's own.
use Rattle.std.specs.Prelude.{◌≡◌, ◌⊎◌, ℕ, ◌+◌, ◌≤◌, false, true, List, [], ◌∷◌, ◌++◌, Option}
use Rattle.std.specs.Prelude.{Some, None, ◌<◌, ◌^◌, IfSome, IsPermutation, codes, length}
use Rattle.std.specs.Prelude.{if◌then◌else◌, map}
use Rattle.std.specs.Prelude.{string_bytes, zero}
use Rattle.atomic_table.specs.Seated.{TableId}
use Rattle.td_text.specs.Lines.{lines_of}
use Rattle.td_rows.specs.StateWriting.{state_text}
use Rattle.td_rows.specs.Table.{Table}
use Rattle.td_journal.specs.Entries.{standing}
use Rattle.td_journal.specs.Replay.{Lawful}
use Rattle.td_core.specs.History.{History, rows_of}
use Rattle.td_journal.specs.declared.entry.Mark.{Mark}
use Rattle.td_book.specs.Desk.{BookModel}
use Rattle.td_book.specs.Ready.{is_any_queued}
use Rattle.td_desk.specs.declared.receipt.Receipt.{Receipt}
use Rattle.td_desk.specs.Calls.{IsAtEnd, IsMetBy, IsOfDesk}
use Rattle.td_desk.specs.Changes.{changes, still_undone}
use Rattle.td_desk.specs.GoingOn.{GoesOn}
use Rattle.td_desk.specs.Marks.{marks_in}
use Rattle.td_desk.specs.Names.{Origin}
use Rattle.td_script.specs.declared.told.Told.{Told as ToldText}
use Rattle.td_script.specs.Openings.{IsBegun}
use Rattle.td_script.specs.Replies.{Setting, ended}
use Rattle.td_script.specs.Telling.{Telling}
use Rattle.td_crew.specs.Replies.{DeskReply, MayReply}

-- ---- 1. the lines

-- the answers to lines: the text, how many were refused, and the receipts that the clerk got
pub record Told : Type 0 where
  pub text : List ℕ
  pub refused : ℕ
  pub receipts : List Receipt

-- the answers to no line
abbrev pub untold : Told
untold = record { text = []; refused = zero; receipts = [] }

-- a reply more
abbrev pub with_reply : Told → DeskReply → Told
with_reply t r =
    record {
      text = t.text ++ r.text;
      refused = t.refused + (if r.refused then 1 else 0);
      receipts = t.receipts ++ r.receipts;
    }

-- lines are answered in their order, each by a reply that may be made to it by a clerk who has the
-- receipts of those before it
abbrev pub AreTold : (List Receipt → List ℕ → DeskReply → Type 0) → List (List ℕ) → Told → Told
    → Type 0
AreTold May [] t last = last ≡ t
AreTold May (line ∷ lines) t last =
    (r : DeskReply) × May t.receipts line r × AreTold May lines (with_reply t r) last

-- ---- 2. the whole

-- a book that may lie under the lock of the crew's desk: it has the crew's builders, its history
-- goes on with the one from which the script starts, over the same offers, and each standing entry
-- applies at its place
pub record IsOfCrew (builders : ℕ) (s : Setting) (begun : History) (book : BookModel)
    : Type 0 where
  pub staffed : book.fixed.builders ≡ builders
  pub opening : book.history.opening ≡ begun.opening
  pub stocked : book.fixed.stock ≡ s.stock
  pub on : GoesOn begun.journal book.history.journal
  pub lawful : Lawful book.history.opening (standing book.history.journal)

-- a crew's book with as many changes since the script's start as these receipts of lines
pub record IsOfCrewAt (builders : ℕ) (s : Setting) (begun : History) (receipts : List Receipt)
    (book : BookModel) : Type 0 where
  pub of_crew : IsOfCrew builders s begun book
  pub counted : length receipts ≡ length (changes (map (λ m. m.mark) begun.journal) book)

-- a book of the crew's was seen in which no row waits for a builder
abbrev pub IsHome : ℕ → Setting → History → Type 0
IsHome builders s begun =
    (book : BookModel) × IsOfCrew builders s begun book
    × (is_any_queued (rows_of book.history) ≡ false)

-- the line `rows`, and the lines of the rows
abbrev pub rows_told : Table → List ℕ
rows_told rows = ended (codes "rows") ++ state_text rows

-- closing a desk is a refusal if the receipts aren't the changes, each once
abbrev pub IsClosing : List Receipt → List Receipt → ℕ → Type 0
IsClosing receipts found refusals =
    ((refusals ≡ 0) × IsPermutation receipts found)
    ⊎ ((refusals ≡ 1) × (IsPermutation receipts found → ⊥))

-- the text has the answers to the lines, each what some book of the crew's answers that has the
-- changes of the lines before it, and then the rows of a book of the crew's. What was undone when
-- the script started is undone in it still, and it has as many changes as the lines have receipts:
-- none was made that no line asks for. A refusal is a line that is refused, a builder who is
-- missing, and a closing if the receipts of the lines aren't the changes of the book. Builders who
-- aren't missing went home when no row waited for one
pub record EndsWithRows (builders : ℕ) (s : Setting) (begun : History) (script text : List ℕ)
    (refused : ℕ) : Type 0 where
  pub told : Told
  pub lines : AreTold (MayReply (IsOfCrewAt builders s begun) s) (lines_of script) untold told
  pub book : BookModel
  pub of_crew : IsOfCrew builders s begun book
  pub still : still_undone book.history.journal (map (λ m. m.mark) begun.journal) ≡ true
  pub counted : length told.receipts
      ≡ length (changes (map (λ m. m.mark) begun.journal) book)
  pub text_is : text ≡ told.text ++ rows_told (rows_of book.history)
  pub missing : ℕ
  pub few : missing ≤ builders
  pub home : missing < builders → ∥ IsHome builders s begun ∥₁
  pub closing : ℕ
  pub closed : IsClosing told.receipts (changes (map (λ m. m.mark) begun.journal) book) closing
  pub refused_is : refused ≡ told.refused + missing + closing

-- what a crew of this many builders may answer to a script from this history
abbrev pub crew_tells : ℕ → Telling
crew_tells builders s h script text refused = EndsWithRows builders s h script text refused

-- ---- as the code has it

-- there is a history from which a script over these rows starts
abbrev pub HasBegun : Option (List ℕ) → Table → Type 0
HasBegun given rows = (h : History) × IsBegun given rows h

-- a crew answers so from whatever history a script over these rows starts
abbrev pub EndsFrom : ℕ → Setting → Option (List ℕ) → Table → List ℕ → ToldText → Type 0
EndsFrom builders s given rows script told =
    (h : History) → IsBegun given rows h
    → EndsWithRows builders s h script (string_bytes told.text) told.refused

-- the marks of the journal that is gone on with
abbrev pub marks_begun : Option (List ℕ) → List Mark
marks_begun None = []
marks_begun (Some text) = marks_in text

-- the journal that is gone on with, if there is one, has a text that can be counted
abbrev pub IsShort : Option (List ℕ) → Type 0
IsShort given = IfSome given (λ text. length text < 2 ^ 64)

-- the answers, with the receipts of the clerk
abbrev pub told_with : ToldText → List Receipt → Told
told_with t receipts =
    record { text = string_bytes t.text; refused = t.refused; receipts = receipts }

-- a reply more, which a book of the desk may make to a clerk of this many parts
abbrev pub IsReplied : TableId → Origin → List Mark → ℕ → Setting → List ℕ → Told → Told → Type 0
IsReplied table origin opened parts s line old new =
    (r : DeskReply) × MayReply (IsMetBy table origin opened parts) s old.receipts line r
    × (new ≡ with_reply old r)

-- a clerk of this many parts, who has no receipts before, answers the lines so
abbrev pub AreAnswered : TableId → Origin → List Mark → ℕ → Setting → List ℕ → List Receipt
    → ToldText → Type 0
AreAnswered table origin opened parts s script receipts told =
    AreTold (MayReply (IsMetBy table origin opened parts) s) (lines_of script) untold
    (told_with told receipts)

-- the lines are answered so, and this many of the builders are missing
pub record IsShift (table : TableId) (origin : Origin) (opened : List Mark) (parts : ℕ)
    (s : Setting) (script : List ℕ) (builders missing : ℕ) (receipts : List Receipt)
    (told : ToldText) : Type 0 where
  pub lines : ToldText
  pub are : AreAnswered table origin opened parts s script receipts lines
  pub text_is : string_bytes told.text ≡ string_bytes lines.text
  pub few : missing ≤ builders
  pub home : missing < builders → ∥ IsAtEnd table origin ∥₁
  pub refused_is : told.refused ≡ lines.refused + missing

-- the rows of a history are put after the answers
pub record HasRows (told : ToldText) (h : History) (now : ToldText) : Type 0 where
  pub text : string_bytes now.text ≡ string_bytes told.text ++ rows_told (rows_of h)
  pub lawful : Lawful h.opening (standing h.journal)
  pub refused : now.refused ≡ told.refused

-- the rows of the book with which the desk is closed, and a refusal if the receipts differ
pub record IsClosed (table : TableId) (origin : Origin) (opened : List Mark)
    (receipts : List Receipt) (told now : ToldText) : Type 0 where
  pub book : BookModel
  pub of_desk : IsOfDesk table origin book
  pub still : still_undone book.history.journal opened ≡ true
  pub counted : length receipts ≡ length (changes opened book)
  pub text : string_bytes now.text ≡ string_bytes told.text ++ rows_told (rows_of book.history)
  pub closing : ℕ
  pub closed : IsClosing receipts (changes opened book) closing
  pub refused : now.refused ≡ told.refused + closing
