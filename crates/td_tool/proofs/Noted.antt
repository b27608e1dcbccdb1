-- A run whose script is read beforehand ends as one that reads it, and its notes are of what it
-- read.
use Rattle.std.proofs.Common.{◌≡◌, ℕ, ◌≤◌, ◌<◌, Bool, true, false, List, [], length, Option, Some}
use Rattle.std.proofs.Common.{None}
use Rattle.std.proofs.Common.{IfOk, IfSome, Result, Ok, Err, String, string_bytes, option_map}
use Rattle.std.proofs.Common.{refl, sym, ap, subst, ◌∙◌, arith}
use Rattle.std.specs.Prelude.{IsErrOf, IsUtf8, MatchResult}
use Rattle.std.specs.declared.alloc.Global.{Global}
use Rattle.std.proofs.lemmas.Str.{IsUtf8-nil}
use Rattle.std.specs.Io.KnownBytes.{Appends, Keeps}
use Rattle.td_bytes.specs.declared.text.TextFault.{TextFault}
use Rattle.td_bytes.specs.declared.text.TextFault.TheVariants as text
use Rattle.td_inputs.specs.Inputs.{Texts as ScriptTexts}
use Rattle.td_script.specs.declared.inputs.Inputs.{Inputs}
use Rattle.td_script.specs.declared.running.RunFault.{RunFault}
use Rattle.td_script.specs.declared.running.RunFault.TheVariants as stop
use Rattle.td_script.specs.declared.running.ScriptEnd.{ScriptEnd}
use Rattle.td_script.specs.Ends.{IsAnswered, IsScript, IsScriptText, MayStop, Only}
use Rattle.td_script.specs.Ends.{Plays as PlaysScript, Says, SaysBy}
use Rattle.td_script.specs.Limits.{script_limit}
use Rattle.td_script.specs.Openings.{texts_of}
use Rattle.td_script.specs.Telling.{Telling}
use Rattle.td_inputs.specs.declared.role.Role.TheVariants.{Input, Archs, Packages, Sources, State}
use Rattle.td_inputs.specs.declared.role.Role.TheVariants.{Tracker, Outcomes, Journal}
use Rattle.td_tool.specs.declared.ending.Ending.{Ending}
use Rattle.td_tool.specs.declared.ending.Ending.TheVariants.{Done, Refused, BadInput, NoMemory}
use Rattle.td_tool.specs.declared.ending.Ending.TheVariants.{CannotRead, CannotWrite}
use Rattle.td_tool.specs.declared.ending.Ending.TheVariants.{Locked, CannotKeep}
use Rattle.td_tool.specs.Runs.{AreNotes, RunFiles, ending_of_script}
use Rattle.td_tool.specs.RunInside.{AreInputsFor, IsFaultOf, IsNotedOver, IsStopped, PlaysInputs}
use Rattle.td_tool.specs.RunInside.{PlaysUnread, stopped_of}
use Rattle.td_tool.specs.Streams.{IsDue}
use Rattle.td_tool.proofs.SureRuns.{plays_alone}

-- what is left as it was is kept
kept : (old : Option (List ℕ)) → Keeps old old
kept None = tt
kept (Some xs) = refl

-- ---- what was read of a reader of which less may be known

module _ (May : Telling) (x : ScriptTexts) (t : List ℕ) where
  plays_unknown : (So : List ℕ → ℕ → Type 0) → PlaysScript May x (Some t) So
      → PlaysScript May x None So
  plays_unknown So (s, h, set, (lines, script, told)) =
      (s, h, set, (lines, record { whole = tt; fits = script.fits }, told))

  pub plays_known : (known : Option (List ℕ)) (So : List ℕ → ℕ → Type 0)
      → IfSome known (λ all. t ≡ all) → PlaysScript May x (Some t) So
      → PlaysScript May x known So
  plays_known None So same plays = plays_unknown So plays
  plays_known (Some all) So same plays =
      subst (λ l. PlaysScript May x (Some l) So) same plays

  says_unknown : (old new : Option (List ℕ)) (r : Result ScriptEnd RunFault)
      → SaysBy May x (Some t) old new r → SaysBy May x None old new r
  says_unknown old new (Ok end) says = plays_unknown _ says
  says_unknown old new (Err (stop.Input e)) says = says
  says_unknown old new (Err stop.Read) says = says
  says_unknown old new (Err stop.TooLong) says = (says.0, tt, says.2)
  says_unknown old new (Err stop.NotText) says = (says.0, tt, says.2)
  says_unknown old new (Err stop.Write) says = plays_unknown _ says
  says_unknown old new (Err stop.NoMemory) says = says

-- a script that was read ends the run as the reader that had it
pub played_known : (inputs : Inputs) (t : List ℕ) (known old new : Option (List ℕ))
    (ending : Ending) → IfSome known (λ all. t ≡ all)
    → PlaysInputs 0 inputs (Some t) old new ending → PlaysInputs 0 inputs known old new ending
played_known inputs t None old new ending same plays = λ x suite are.
    let p = plays x suite are in
    let (r, says, is) = p.says in
    record {
      says = (r, says_unknown IsAnswered _ t old new r says, is);
      only = λ l other fits readable. absurd cc;
    }
played_known inputs t (Some all) old new ending same plays =
    subst (λ l. PlaysInputs 0 inputs (Some l) old new ending) same plays

pub noted_known : (x : ScriptTexts) (t : List ℕ) (known : Option (List ℕ))
    (notes : Option (String Global)) → IfSome known (λ all. t ≡ all)
    → IfSome notes (IsNotedOver x (Some t)) → IfSome notes (IsNotedOver x known)
noted_known x t known None same noted = tt
noted_known x t known (Some n) same noted = plays_known _ x t known _ same noted

-- ---- no script is read

empty_fits : IsScriptText []
empty_fits = (omega arith, IsUtf8-nil)

module _ (x : ScriptTexts) (read old new : Option (List ℕ)) (empty : read ≡ Some []) where
  -- the files are fine if an empty script is answered
  stops_for : (known kept_bytes : Option (List ℕ)) (why : TextFault) (end : ScriptEnd)
      → Says x read old new (Ok end) → IsFaultOf known why
      → Says x known kept_bytes kept_bytes (stopped_of (Ok end) why)
      × Only x known (stopped_of (Ok end) why)
  stops_for known same text.CannotRead end (s, h, set, rest) fault =
      (((s, h, set), kept same), λ l is fits readable. tt)
  stops_for known same text.TooLong end (s, h, set, rest) fault = (
    ((s, h, set), fault, kept same),
    λ l is fits readable.
        let long : script_limit < length l =
        subst (λ k. IfSome k (λ all. script_limit < length all)) is fault in
        absurd (omega (arith, long, fits.0)),
  )
  stops_for known same text.NotText end (s, h, set, rest) fault = (
    ((s, h, set), fault, kept same),
    λ l is fits readable.
        let bad =
        subst (λ k. IfSome k (λ all. (length all ≤ script_limit) × ¬ IsUtf8 all)) is fault in
        absurd (bad.1 fits.1),
  )
  stops_for known same text.NoMemory end (s, h, set, rest) fault =
      (kept same, λ l is fits readable. tt)

  pub stops : (judged : Result ScriptEnd RunFault) (why : TextFault) → Says x read old new judged
      → Only x read judged → IsStopped x why (stopped_of judged why)
  stops (Ok end) why says only = λ known same fault. stops_for known same why end says fault
  stops (Err (stop.Input e)) why says only = λ known same fault. (
    (says.0, kept same),
    λ l is fits readable. only [] empty empty_fits readable,
  )
  stops (Err stop.Read) why says only = λ known same fault.
      (kept same, λ l is fits readable. tt)
  stops (Err stop.TooLong) why says only = λ known same fault.
      (kept same, λ l is fits readable. tt)
  stops (Err stop.NotText) why says only = λ known same fault.
      (kept same, λ l is fits readable. tt)
  stops (Err stop.Write) why says only = λ known same fault.
      (kept same, λ l is fits readable. tt)
  stops (Err stop.NoMemory) why says only = λ known same fault.
      (kept same, λ l is fits readable. tt)

-- it tells of a failed read only if that is why no script was read
pub stopped_read : (judged : Result ScriptEnd RunFault) (why : TextFault)
    → IsErrOf (stopped_of judged why) stop.Read → why ≡ text.CannotRead
stopped_read (Ok end) text.CannotRead is = refl
stopped_read (Ok end) text.TooLong is = absurd cc
stopped_read (Ok end) text.NotText is = absurd cc
stopped_read (Ok end) text.NoMemory is = absurd cc
stopped_read (Err (stop.Input e)) why is = absurd cc
stopped_read (Err stop.Read) why is = absurd cc
stopped_read (Err stop.TooLong) why is = absurd cc
stopped_read (Err stop.NotText) why is = absurd cc
stopped_read (Err stop.Write) why is = absurd cc
stopped_read (Err stop.NoMemory) why is = absurd cc

-- and of no failed write
pub stopped_write : (judged : Result ScriptEnd RunFault) (why : TextFault)
    → IsErrOf (stopped_of judged why) stop.Write → false ≡ true
stopped_write (Ok end) text.CannotRead is = absurd cc
stopped_write (Ok end) text.TooLong is = absurd cc
stopped_write (Ok end) text.NotText is = absurd cc
stopped_write (Ok end) text.NoMemory is = absurd cc
stopped_write (Err (stop.Input e)) why is = absurd cc
stopped_write (Err stop.Read) why is = absurd cc
stopped_write (Err stop.TooLong) why is = absurd cc
stopped_write (Err stop.NotText) why is = absurd cc
stopped_write (Err stop.Write) why is = absurd cc
stopped_write (Err stop.NoMemory) why is = absurd cc

-- why no script was read is a fault of what the reader had
pub read_fault : (known : Option (List ℕ)) (why : TextFault)
    → (why ≡ text.TooLong → IfSome known (λ all. script_limit < length all))
    → (why ≡ text.NotText → IfSome known (λ all. (length all ≤ script_limit) × ¬ IsUtf8 all))
    → IsFaultOf known why
read_fault known text.CannotRead long other = tt
read_fault known text.TooLong long other = long refl
read_fault known text.NotText long other = other refl
read_fault known text.NoMemory long other = tt

-- a run that is stopped so ends as one that reads
pub stopped_plays : (inputs : Inputs) (old : Option (List ℕ)) (why : TextFault)
    (r : Result ScriptEnd RunFault) (ending : Ending) → IsStopped (texts_of inputs) why r
    → ending ≡ ending_of_script r → PlaysUnread inputs why old old ending
stopped_plays inputs old why r ending stopped is = λ known fault x suite are.
    let held = stopped known old fault in
    plays_alone 0 x suite inputs known old old r ending refl are held.0 held.1 is

-- ---- by what was read

abbrev Read : Type 0
Read = Result (String Global) TextFault

pub played_read : (inputs : Inputs) (known old new : Option (List ℕ)) (read : Read)
    (ending : Ending)
    → IfOk read (λ t. IfSome known (λ all. string_bytes t ≡ all))
    → (IsErrOf read text.TooLong → IfSome known (λ all. script_limit < length all))
    → (IsErrOf read text.NotText
    → IfSome known (λ all. (length all ≤ script_limit) × ¬ IsUtf8 all))
    → MatchResult read (λ t. PlaysInputs 0 inputs (Some (string_bytes t)) old new ending)
    (λ why. PlaysUnread inputs why old new ending)
    → PlaysInputs 0 inputs known old new ending
played_read inputs known old new (Ok t) ending same long other plays =
    played_known inputs (string_bytes t) known old new ending same plays
played_read inputs known old new (Err why) ending same long other plays =
    plays known (read_fault known why
    (λ is. long (ap (λ (e : TextFault). Err e) is))
    (λ is. other (ap (λ (e : TextFault). Err e) is)))

pub noted_read : (x : ScriptTexts) (known : Option (List ℕ)) (read : Read)
    (notes : Option (String Global))
    → IfOk read (λ t. IfSome known (λ all. string_bytes t ≡ all))
    → MatchResult read (λ t. IfSome notes (IsNotedOver x (Some (string_bytes t))))
    (λ why. notes ≡ None)
    → IfSome notes (IsNotedOver x known)
noted_read x known (Ok t) notes same noted =
    noted_known x (string_bytes t) known notes same noted
noted_read x known (Err why) notes same noted =
    subst (λ (o : Option (String Global)). IfSome o (IsNotedOver x known)) (sym noted) tt

-- a stream that can't fail is no cause, whatever another can
any_input : (input output : Bool) (ending : Ending) → IsDue false output ending
    → IsDue input output ending
any_input input output Done due = tt
any_input input output Refused due = tt
any_input input output (BadInput role e) due = tt
any_input input output NoMemory due = tt
any_input input output (CannotRead Input) due = (let other : false ≡ true = due in absurd cc)
any_input input output (CannotRead Archs) due = tt
any_input input output (CannotRead Packages) due = tt
any_input input output (CannotRead Sources) due = tt
any_input input output (CannotRead State) due = tt
any_input input output (CannotRead Tracker) due = tt
any_input input output (CannotRead Outcomes) due = tt
any_input input output (CannotRead Journal) due = tt
any_input input output CannotWrite due = due
any_input input output Locked due = tt
any_input input output CannotKeep due = tt

pub due_read : (input output : Bool) (read : Read) (ending : Ending)
    → (IsErrOf read text.CannotRead → input ≡ true)
    → MatchResult read (λ t. IsDue false output ending)
    (λ why. (i o : Bool) → (why ≡ text.CannotRead → i ≡ true) → IsDue i o ending)
    → IsDue input output ending
due_read input output (Ok t) ending failed due = any_input input output ending due
due_read input output (Err why) ending failed due =
    due input output (λ is. failed (ap (λ (e : TextFault). Err e) is))

-- ---- over the files

-- notes over the inputs are notes over the texts that the files hold
pub notes_over : (files : RunFiles) (suite : List ℕ) (inputs : Inputs) (known : Option (List ℕ))
    (notes : Option (String Global)) → AreInputsFor files suite inputs
    → IfSome notes (IsNotedOver (texts_of inputs) known)
    → IfSome (option_map string_bytes notes) (AreNotes files suite known)
notes_over files suite inputs known None are noted = tt
notes_over files suite inputs known (Some n) (x, texts, are) noted =
    (x, texts, subst (λ y. IsNotedOver y known n) are.texts noted)
