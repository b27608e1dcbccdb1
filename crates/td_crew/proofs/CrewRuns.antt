-- How a crew's run ends: one that is refused, and one whose outcomes are read.
use Rattle.std.proofs.Common.{◌≡◌, ℕ, List, Option, Result, Ok, Err, inl, inr, subst, sym}
use Rattle.std.specs.Prelude.{IfErr, IsErrOf, MatchResult}
use Rattle.std.specs.Io.KnownBytes.{Keeps}
use Rattle.td_text.proofs.SpelledLines.{AreSpelled-other}
use Rattle.td_builder.specs.declared.fault.OutcomesFault.{OutcomesFault}
use Rattle.td_builder.specs.declared.fault.OutcomesFault.TheVariants as bad
use Rattle.td_builder.specs.OutcomeLines.{FaultOf, IsFirstBad, OutcomeFits, outcome_line}
use Rattle.td_script.specs.declared.running.RunFault.{RunFault}
use Rattle.td_script.specs.declared.running.RunFault.TheVariants as fault
use Rattle.td_script.specs.declared.running.ScriptEnd.{ScriptEnd}
use Rattle.td_script.specs.Ends.{AreFine, Only, SaysBy}
use Rattle.td_script.specs.OpeningInside.{IsRefusedBy, Stops}
use Rattle.td_inputs.specs.Inputs.{AreReadable, Texts, without_journal}
use Rattle.td_script.specs.Telling.{Telling}
use Rattle.td_script.proofs.OnlyLaws.{stops_run}
use Rattle.td_script.proofs.WithoutJournal.{readable_without, refused_too}
use Rattle.td_crew.specs.declared.running.CrewFault.{CrewFault}
use Rattle.td_crew.specs.declared.running.CrewFault.TheVariants.{BadOutcome, Run}
use Rattle.td_crew.specs.CrewEnds.{AreRead, CrewMayStop, CrewOnly, CrewSays, IsNoOutcomes}
use Rattle.td_crew.specs.CrewEnds.{StopsSo, UnreadMayStop, crew_end, unread_fault}

-- nothing is written if a text is refused
untouched : (May : Telling) (x : Texts) (known old new : Option (List ℕ)) (e : RunFault)
    → IsRefusedBy x e → Keeps old new → SaysBy May x known old new (Err e)
untouched May x known old new (fault.Input i) refused keeps = (refused, keeps)
untouched May x known old new fault.Read refused keeps = absurd refused
untouched May x known old new fault.TooLong refused keeps = absurd refused
untouched May x known old new fault.NotText refused keeps = absurd refused
untouched May x known old new fault.Write refused keeps = absurd refused
untouched May x known old new fault.NoMemory refused keeps = keeps

-- how a run ends whose outcomes aren't read
pub unread_says : (May : Telling) (x : Texts) (lines : List (List ℕ))
    (known old new : Option (List ℕ)) (f : CrewFault)
    → IsNoOutcomes x lines f → Keeps old new → CrewSays May x lines known old new (Err f)
unread_says May x lines known old new (BadOutcome n) is keeps = (is.0, is.1, keeps)
unread_says May x lines known old new (Run e) is keeps =
    (inr is, untouched May x known old new e (refused_too x e is) keeps)

pub unread_stops : (x : Texts) (f : CrewFault) → StopsSo x f → CrewMayStop x f
unread_stops x (BadOutcome n) stops = stops
unread_stops x (Run e) stops = stops_run x e stops

-- lines that are read have no first bad one
pub bad_unread : (lines : List (List ℕ)) (n : ℕ) → IsFirstBad lines n → AreRead lines → ⊥
bad_unread lines n bad read =
    AreSpelled-other outcome_line OutcomeFits 1 n lines read.0 read.1 bad

-- no stream is to blame if the outcomes aren't read
pub unread_calm : (x : Texts) (lines : List (List ℕ)) (f : CrewFault) → IsNoOutcomes x lines f
    → f ≡ Run fault.Read → ⊥
unread_calm x lines f is same = subst (IsNoOutcomes x lines) same is

pub unwritten_calm : (x : Texts) (lines : List (List ℕ)) (f : CrewFault) → IsNoOutcomes x lines f
    → f ≡ Run fault.Write → ⊥
unwritten_calm x lines f is same = subst (IsNoOutcomes x lines) same is

-- the fault of outcomes that aren't read: that of a file before them, or their own
pub unread_is : (x : Texts) (lines : List (List ℕ)) (judged : Result (Unit {0}) RunFault)
    (f : OutcomesFault) (told : CrewFault) → FaultOf lines f
    → MatchResult judged (λ _. AreFine (without_journal x)) (IsRefusedBy (without_journal x))
    → told ≡ unread_fault judged f → IsNoOutcomes x lines told
unread_is x lines (Err e) f told first is same = subst (IsNoOutcomes x lines) (sym same) is
unread_is x lines (Ok u) (bad.BadLine n) told first is same =
    subst (IsNoOutcomes x lines) (sym same) (first, is)
unread_is x lines (Ok u) bad.NoMemory told first is same =
    subst (IsNoOutcomes x lines) (sym same) tt

-- a run whose texts and outcomes can be read stops only for memory or a pattern
pub unread_only : (x : Texts) (lines : List (List ℕ)) (judged : Result (Unit {0}) RunFault)
    (f : OutcomesFault) (told : CrewFault) → FaultOf lines f
    → IfErr judged (λ e. AreReadable (without_journal x) → Stops (without_journal x) e)
    → told ≡ unread_fault judged f → AreRead lines → AreReadable x → StopsSo x told
unread_only x lines (Err e) f told first only same read fits =
    subst (StopsSo x) (sym same) (only (readable_without x fits))
unread_only x lines (Ok u) (bad.BadLine n) told first only same read fits =
    absurd (bad_unread lines n first read)
unread_only x lines (Ok u) bad.NoMemory told first only same read fits =
    subst (StopsSo x) (sym same) tt

-- why a run may stop if the files before the outcomes can be read
pub unread_may : (x : Texts) (judged : Result (Unit {0}) RunFault) (f : OutcomesFault)
    (told : CrewFault) → IfErr judged (λ e. AreReadable x → Stops x e)
    → told ≡ unread_fault judged f → AreReadable x → UnreadMayStop x told
unread_may x (Err e) f told only same fits = subst (UnreadMayStop x) (sym same) (only fits)
unread_may x (Ok u) (bad.BadLine n) told only same fits = subst (UnreadMayStop x) (sym same) tt
unread_may x (Ok u) bad.NoMemory told only same fits = subst (UnreadMayStop x) (sym same) tt

-- ---- the outcomes are read

pub says_read : (May : Telling) (x : Texts) (lines : List (List ℕ))
    (known old new : Option (List ℕ)) (end : Result ScriptEnd RunFault)
    (told : Result ScriptEnd CrewFault) → AreRead lines → SaysBy May x known old new end
    → told ≡ crew_end end → CrewSays May x lines known old new told
says_read May x lines known old new (Ok end) told read says same =
    subst (CrewSays May x lines known old new) (sym same) (read, says)
says_read May x lines known old new (Err e) told read says same =
    subst (CrewSays May x lines known old new) (sym same) (inl read, says)

pub only_read : (x : Texts) (lines : List (List ℕ)) (known : Option (List ℕ))
    (end : Result ScriptEnd RunFault) (told : Result ScriptEnd CrewFault) → AreRead lines
    → Only x known end → told ≡ crew_end end → CrewOnly x lines known told
only_read x lines known (Ok end) told read only same =
    subst (CrewOnly x lines known) (sym same) (record {
      read = λ text is fits all readable. tt;
      unread = λ unread readable. tt;
    })
only_read x lines known (Err e) told read only same =
    subst (CrewOnly x lines known) (sym same) (record {
      read = λ text is fits all readable. only text is fits readable;
      unread = λ unread readable. absurd (unread read);
    })

-- a crew's run stops for what its script's run stops for
pub stops_read : (end : Result ScriptEnd RunFault) (told : Result ScriptEnd CrewFault)
    (e : RunFault) → told ≡ crew_end end → IsErrOf told (Run e) → IsErrOf end e
stops_read (Ok end) told e same is = absurd (let h = same in cc)
stops_read (Err f) told e same is = let h = same in cc
