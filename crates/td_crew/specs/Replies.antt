-- What a clerk says to a line while builders build: what a book of the desk answers, in the words
-- of scripts. This project's own.
use Rattle.std.specs.Prelude.{◌≡◌, ℕ, Bool, true, false, List, [], ◌∷◌, ◌++◌, Option, Some, None}
use Rattle.std.specs.Prelude.{Result, Ok, Err, codes, decimal, string_bytes}
use Rattle.std.specs.List.{flat_map}
use Rattle.td_rows.specs.declared.key.Key.{Key}
use Rattle.td_rows.specs.StateWord.{state_word}
use Rattle.td_rows.specs.Table.{Table, row_of}
use Rattle.td_journal.specs.declared.entry.Marked.{Marked}
use Rattle.td_journal.specs.Entries.{entry_at}
use Rattle.td_journal.specs.JournalText.{journal_text}
use Rattle.td_core.specs.History.{History, rows_of}
use Rattle.td_wbread.specs.declared.fault.CommandFault.{CommandFault}
use Rattle.td_wbread.specs.Command.{CommandParts, command_at}
use Rattle.td_book.specs.declared.arriving.ArriveRefusal.{ArriveRefusal}
use Rattle.td_book.specs.declared.arriving.ArriveRefusal.TheVariants as arrivals
use Rattle.td_book.specs.declared.commanding.CommandRefusal.{CommandRefusal}
use Rattle.td_book.specs.declared.commanding.CommandRefusal.TheVariants as commands
use Rattle.td_book.specs.declared.commanding.Taken.{Taken}
use Rattle.td_book.specs.declared.undoing.UndoRefusal.{UndoRefusal}
use Rattle.td_book.specs.declared.undoing.UndoRefusal.TheVariants as undos
use Rattle.td_book.specs.Arriving.{ArriveOutcome, SweepOutcome}
use Rattle.td_book.specs.Commands.{IsDone, named_by}
use Rattle.td_book.specs.Desk.{BookModel}
use Rattle.td_desk.specs.declared.receipt.Receipt.{Receipt}
use Rattle.td_desk.specs.declared.receipt.Receipt.TheVariants.{Swept, Undid}
use Rattle.td_desk.specs.Calls.{UndoTold, arrival_receipt, command_receipt, without}
use Rattle.td_script.specs.declared.request.Request.{Request}
use Rattle.td_script.specs.declared.request.Request.TheVariants.{Undo, Arrive, Sweep}
use Rattle.td_script.specs.declared.request.Request.TheVariants as requests
use Rattle.td_script.specs.declared.line.Said.{Said}
use Rattle.td_script.specs.declared.line.Said.TheVariants.{Skipped, Asked, Bad, Typed}
use Rattle.td_script.specs.Reading.{said_at}
use Rattle.td_script.specs.Replies.{Reply, Setting, asks, ended, entry_made, fault_name}
use Rattle.td_script.specs.Replies.{refusal_line, reports, says, shows_entry, shows_row}
use Rattle.td_script.specs.Replies.{skip_line, undo_name}
use Rattle.td_script.specs.Replying.{IsArrivalRefused, IsCommandRefused, IsPut}
use Rattle.td_crew.specs.declared.shown.Shown.{Shown}
use Rattle.td_crew.specs.declared.shown.View.{View}
use Rattle.td_crew.specs.declared.shown.View.TheVariants as views

-- what a clerk says to a line: a text, whether the line is refused, and the receipts that it got
pub record DeskReply : Type 0 where
  pub text : List ℕ
  pub refused : Bool
  pub receipts : List Receipt

-- ---- 1. replies in general

-- the clerk says this, and nothing is changed
abbrev pub tells : List ℕ → DeskReply
tells text = record { text = text; refused = false; receipts = [] }

-- the refusal is named, with what follows it
abbrev pub declines : List ℕ → List ℕ → DeskReply
declines name behind =
    record { text = refusal_line name ++ behind; refused = true; receipts = [] }

-- the entry is made, and the answer is its line with what follows it
abbrev pub makes : ℕ → List Key → List ℕ → Receipt → DeskReply
makes n keys behind receipt =
    record { text = entry_made n keys ++ behind; refused = false; receipts = receipt ∷ [] }

-- ---- 2. what a book answers, in words. Missing memory is no answer

-- a book's answer to an undo, in words
abbrev pub IsOfUndo : ℕ → Result (Unit {0}) UndoRefusal → DeskReply → Type 0
IsOfUndo n (Ok u) r =
    r ≡ record {
      text = ended (codes "undone " ++ decimal n);
      refused = false;
      receipts = Undid n ∷ [];
    }
IsOfUndo n (Err undos.NoMemory) r = ⊥
IsOfUndo n (Err e) r = r ≡ declines (undo_name e) []

-- a book's answer to an arrival, in words
abbrev pub IsOfArrival : Key → Result ℕ ArriveRefusal → DeskReply → Type 0
IsOfArrival k (Ok n) r = r ≡ makes n (k ∷ []) [] (arrival_receipt k n)
IsOfArrival k (Err arrivals.NoSuchRow) r = r ≡ declines (codes "NoSuchRow") []
IsOfArrival k (Err (arrivals.DoesNotApply s)) r =
    r ≡ declines (codes "DoesNotApply " ++ state_word s) []
IsOfArrival k (Err arrivals.NoMemory) r = ⊥

-- the keys of the entry with a number, if a journal has it
abbrev pub keys_at : List Marked → ℕ → List Key
keys_at ms n =
    elim (entry_at ms n) [
      | Some m ↦ m.entry.keys
      | None ↦ []
    ]

-- a book's answer to a sweep, in words: the keys are those of its entry in a book seen after it
abbrev pub IsOfSweep : (ℕ → BookModel → Type 0) → Option ℕ → DeskReply → Type 0
IsOfSweep Behind None r = r ≡ tells (ended (codes "nothing to sweep"))
IsOfSweep Behind (Some n) r =
    (b : BookModel) × Behind n b × (r ≡ makes n (keys_at b.history.journal n) [] (Swept n))

-- a book's answer to a command, in words: its entry is on the rows that it names and doesn't skip
abbrev pub IsOfCommand : CommandParts → BookModel → Result Taken CommandRefusal → DeskReply → Type 0
IsOfCommand c b (Ok t) r =
    r ≡ makes t.number (without (named_by c b) t.skips) (flat_map skip_line t.skips)
    (command_receipt c b t)
IsOfCommand c b (Err (commands.NothingApplies skips)) r =
    r ≡ declines (codes "NothingApplies") (flat_map skip_line skips)
IsOfCommand c b (Err commands.NoMemory) r = ⊥

-- ---- 3. what may be said, if some books may lie under the desk's lock. Which ones depends on the
-- receipts that the clerk has, since the book has as many changes

-- what may be said to an undo of entry n
abbrev pub MayUndo : (BookModel → Type 0) → ℕ → DeskReply → Type 0
MayUndo Of n r =
    (old : BookModel) × (new : BookModel) × (answer : Result (Unit {0}) UndoRefusal) × Of old
    × UndoTold n old new answer × IsOfUndo n answer r

-- what may be said to the arrival of a key's build
abbrev pub MayArrive : (BookModel → Type 0) → Key → DeskReply → Type 0
MayArrive Of k r =
    (old : BookModel) × (new : BookModel) × (answer : Result ℕ ArriveRefusal) × Of old
    × ArriveOutcome k old new answer × IsOfArrival k answer r

-- what may be said to a sweep: after it the clerk has its receipt, too
abbrev pub MaySweep : (List Receipt → BookModel → Type 0) → List Receipt → DeskReply → Type 0
MaySweep Of had r =
    (old : BookModel) × (new : BookModel) × (swept : Option ℕ) × Of had old
    × SweepOutcome old new (Ok swept) × IsOfSweep (λ n. Of (had ++ Swept n ∷ [])) swept r

-- what may be said to a command
abbrev pub MayCommand : (BookModel → Type 0) → CommandParts → DeskReply → Type 0
MayCommand Of c r =
    (old : BookModel) × (new : BookModel) × (answer : Result Taken CommandRefusal) × Of old
    × IsDone c old new answer × IsOfCommand c old answer r

-- what may be said to what changes nothing: what a clerk without builders says over the book
abbrev pub MayShow : (BookModel → Type 0) → (History → Reply) → DeskReply → Type 0
MayShow Of reply r =
    (b : BookModel) × Of b
    × (r ≡ record {
      text = (reply b.history).text;
      refused = (reply b.history).refused;
      receipts = [];
    })

-- what may be said to a request
abbrev pub MayAnswer : (List Receipt → BookModel → Type 0) → Setting → List Receipt → Request
    → DeskReply → Type 0
MayAnswer Of s had (Undo n) r = MayUndo (Of had) n r
MayAnswer Of s had (Arrive k) r = MayArrive (Of had) k r
MayAnswer Of s had Sweep r = MaySweep Of had r
MayAnswer Of s had q r = MayShow (Of had) (λ h. asks s h q) r

-- what may be said to what is typed: to the command that it is, or its first fault
abbrev pub MayType : (BookModel → Type 0) → Result CommandParts CommandFault → DeskReply → Type 0
MayType Of (Ok c) r = MayCommand Of c r
MayType Of (Err fault) r = r ≡ declines (fault_name fault) []

-- what may be said to a line, by what it is
abbrev pub MaySay : (List Receipt → BookModel → Type 0) → Setting → List Receipt → List ℕ → Said
    → DeskReply → Type 0
MaySay Of s had line Skipped r = r ≡ tells []
MaySay Of s had line (Asked q) r = MayAnswer Of s had q r
MaySay Of s had line Bad r = r ≡ declines (codes "BadLine") []
MaySay Of s had line Typed r = MayType (Of had) (command_at s.stock.table s.suites line) r

-- what may be said to a line by a clerk who has these receipts of the lines before it
abbrev pub MayReply : (List Receipt → BookModel → Type 0) → Setting → List Receipt → List ℕ
    → DeskReply → Type 0
MayReply Of s had line r = MaySay Of s had line (said_at line) r

-- ---- as the code has it

-- the request of a line that asks to see this of a book
abbrev pub request_of : View → Request
request_of (views.Row k) = requests.Row k.now
request_of (views.Entry n) = requests.Entry n
request_of views.Report = requests.Report
request_of views.Journal = requests.Journal

-- what a history shows of that, with what makes the report, if there is a tracker
abbrev pub shown_by : Option (Table → List ℕ) → History → View → Reply
shown_by report h (views.Row k) = shows_row h k.now (row_of (rows_of h) k.now)
shown_by report h (views.Entry n) = shows_entry h n
shown_by report h views.Report = reports h report
shown_by report h views.Journal = says h (journal_text h.journal)

-- what is written of the answer to a command, with these as the keys of its entry
abbrev pub IsCommandTold : Result Taken CommandRefusal → List Key → List ℕ → List ℕ → Bool → Type 0
IsCommandTold (Ok t) keys before now refused =
    IsPut (entry_made t.number keys ++ flat_map skip_line t.skips) false before now refused
IsCommandTold (Err e) keys before now refused = IsCommandRefused e before now refused

-- what is written of the answer to an arrival, with these as the keys of its entry
abbrev pub IsArrivalTold : Result ℕ ArriveRefusal → List Key → List ℕ → List ℕ → Bool → Type 0
IsArrivalTold (Ok n) keys before now refused = IsPut (entry_made n keys) false before now refused
IsArrivalTold (Err e) keys before now refused = IsArrivalRefused e before now refused

-- a book shows this of a reply that changes nothing
abbrev pub IsShown : Reply → Shown → Type 0
IsShown reply shown = (string_bytes shown.text ≡ reply.text) × (shown.refused ≡ reply.refused)

-- a reply is appended, and its receipts are the clerk's
pub record IsSaid (r : DeskReply) (before now : List ℕ) (old new : List Receipt)
    (refused : Bool) : Type 0 where
  pub text_is : now ≡ before ++ r.text
  pub receipts_are : new ≡ old ++ r.receipts
  pub refusal : refused ≡ r.refused

-- a reply that may be, is
abbrev pub Says : (DeskReply → Type 0) → List ℕ → List ℕ → List Receipt → List Receipt → Bool
    → Type 0
Says May before now old new refused = (r : DeskReply) × May r × IsSaid r before now old new refused
