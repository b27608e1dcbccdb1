-- How a session at a desk in a file ends, and what it leaves. This project's own.
use Rattle.std.specs.Prelude.{◌≡◌, ◌≢◌, ℕ, Bool, true, List, Option, Some, None, Result, Ok, Err}
use Rattle.std.specs.Prelude.{IsTrue}
use Rattle.std.specs.Io.KnownBytes.{Keeps}
use Rattle.td_rows.specs.Table.{Table}
use Rattle.td_indices.specs.Archive.{Contents}
use Rattle.td_inputs.specs.Inputs.{IsRefused, Texts}
use Rattle.td_inputs.specs.Opened.{IsPatternOf}
use Rattle.td_ledger.specs.Calls.{Known}
use Rattle.td_script.specs.Replies.{Setting}
use Rattle.td_lasting.specs.Basis.{header_of}
use Rattle.td_lasting.specs.DeskView.{DeskView}
use Rattle.td_lasting.specs.Opened.{IsFaultOf, IsOpened, LosesNothing}
use Rattle.td_lasting.specs.Sessions.{IsServed, IsTurn}
use Rattle.td_lasting.specs.declared.file_fault.FileFault.{FileFault}
use Rattle.td_lasting.specs.declared.file_fault.FileFault.TheVariants as file
use Rattle.td_lasting.specs.declared.serving.ServeEnd.{ServeEnd}
use Rattle.td_lasting.specs.declared.serving.ServeFault.{ServeFault}
use Rattle.td_lasting.specs.declared.serving.ServeFault.TheVariants.{CannotRead, CannotTell}
use Rattle.td_session.specs.declared.desk_file.OpenRefusal.{OpenRefusal}
use Rattle.td_session.specs.declared.fault.SessionFault.{SessionFault}
use Rattle.td_session.specs.declared.fault.SessionFault.TheVariants.{Input, NoMemory, Unopened}
use Rattle.td_session.specs.declared.fault.SessionFault.TheVariants.{File, Serve}
use Rattle.td_session.specs.Grounds.{IsGround}

-- ---- 1. at one desk

-- nothing was read, and nothing was written
abbrev pub IsIdle : Option (List ℕ) → Option (List ℕ) → Option (List ℕ) → Option (List ℕ) → Type 0
IsIdle known left old new = Keeps known left × Keeps old new

-- The file is opened, and lines are answered from the history that it tells; then it is the desk's
-- as it was left. Whatever stops meanwhile, nothing that was answered is lost.
pub record IsAnswered (header : List ℕ) (rows : Table) (s : Setting) (found last : Known)
    (known old new : Option (List ℕ)) (result : Result ServeEnd ServeFault) : Type 0 where
  pub opened : DeskView
  pub ended : DeskView
  pub opens : IsOpened header rows s.stock found opened
  pub keeps : IsTrue found.honest → LosesNothing header rows found opened.device
  pub served : IsServed s known old new opened ended result
  pub last_is : last ≡ ended.device

-- The file is refused, for this, and stays as it was. Only one that couldn't be written may have
-- changed, and then nothing that was answered is lost.
pub record IsFileRefused (header : List ℕ) (rows : Table) (found last : Known)
    (fault : FileFault) : Type 0 where
  pub due : IsFaultOf header rows found fault
  pub untouched : fault ≢ file.CannotWrite → last ≡ found
  pub keeps : IsTrue found.honest → LosesNothing header rows found last

-- there is a file, and of what is known of it this holds
abbrev pub IsLeft : Option Known → (Known → Type 0) → Type 0
IsLeft last P = (device : Known) × (last ≡ Some device) × P device

-- a session at the desk with this header, over these rows and in this setting, ends so, if this is
-- known of the file that is found: the file isn't opened, or is refused, or lines are answered
abbrev pub EndsAt : List ℕ → Table → Setting → Known → Option Known → Option (List ℕ)
    → Option (List ℕ) → Option (List ℕ) → Option (List ℕ) → Result ServeEnd SessionFault → Type 0
EndsAt header rows s found last known left old new (Ok end) =
    IsLeft last (λ d. IsAnswered header rows s found d known old new (Ok end))
EndsAt header rows s found last known left old new (Err (Input e)) = ⊥
EndsAt header rows s found last known left old new (Err NoMemory) = ⊥
EndsAt header rows s found last known left old new (Err (Unopened e)) =
    (last ≡ None) × IsIdle known left old new
EndsAt header rows s found last known left old new (Err (File e)) =
    IsLeft last (λ d. IsFileRefused header rows found d e) × IsIdle known left old new
EndsAt header rows s found last known left old new (Err (Serve e)) =
    IsLeft last (λ d. IsAnswered header rows s found d known old new (Err e))

-- at the desk of a file that opens so, more may be read: all that was read is answered
pub record IsTurnAt (header : List ℕ) (rows : Table) (s : Setting) (found : Known)
    (known left old new : Option (List ℕ)) : Type 0 where
  pub opened : DeskView
  pub opens : IsOpened header rows s.stock found opened
  pub turn : IsTurn s opened.history known left old new

-- ---- 2. over texts

-- a session over what the texts say ends so
abbrev pub EndsOver : Texts → Known → Option Known → Option (List ℕ) → Option (List ℕ)
    → Option (List ℕ) → Option (List ℕ) → Result ServeEnd SessionFault → Type 0
EndsOver x found last known left old new result =
    (c : Contents) × (rows : Table) × (s : Setting) × IsGround x c rows s
    × EndsAt (header_of c rows) rows s found last known left old new result

-- a session ends so: its texts are refused, or memory runs out, before the file is looked at; or
-- none of them is
abbrev pub Ends : Texts → Known → Option Known → Option (List ℕ) → Option (List ℕ)
    → Option (List ℕ) → Option (List ℕ) → Result ServeEnd SessionFault → Type 0
Ends x found last known left old new (Ok end) =
    EndsOver x found last known left old new (Ok end)
Ends x found last known left old new (Err (Input e)) =
    IsRefused x e × (last ≡ None) × IsIdle known left old new
Ends x found last known left old new (Err NoMemory) = (last ≡ None) × IsIdle known left old new
Ends x found last known left old new (Err (Unopened e)) =
    EndsOver x found last known left old new (Err (Unopened e))
Ends x found last known left old new (Err (File e)) =
    EndsOver x found last known left old new (Err (File e))
Ends x found last known left old new (Err (Serve e)) =
    EndsOver x found last known left old new (Err (Serve e))

-- over what the texts say, more may be read
abbrev pub IsTurnOver : Texts → Known → Option (List ℕ) → Option (List ℕ) → Option (List ℕ)
    → Option (List ℕ) → Type 0
IsTurnOver x found known left old new =
    (c : Contents) × (rows : Table) × (s : Setting) × IsGround x c rows s
    × IsTurnAt (header_of c rows) rows s found known left old new

-- the place of the desk's file isn't touched before this fault
abbrev pub ComesFirst : SessionFault → Type 0
ComesFirst (Input e) = Unit {0}
ComesFirst NoMemory = Unit {0}
ComesFirst e = ⊥

-- a session tells of a failure only if what fails may fail: the place of its file, which may refuse
-- it for this, its reader, or its writer
abbrev pub IsDue : (OpenRefusal → Bool) → Bool → Bool → Result ServeEnd SessionFault → Type 0
IsDue refuses reads writes (Err (Unopened e)) = refuses e ≡ true
IsDue refuses reads writes (Err (Serve CannotRead)) = reads ≡ true
IsDue refuses reads writes (Err (Serve CannotTell)) = writes ≡ true
IsDue refuses reads writes result = Unit {0}

-- readable texts aren't refused for this, but for a pattern that `regex` refuses
abbrev pub MayRefuse : Texts → SessionFault → Type 0
MayRefuse x (Input e) = IsPatternOf x.tracker e
MayRefuse x e = Unit {0}
