-- A text that was read ends the run as it says.
use Rattle.std.proofs.Common.{◌≡◌, ℕ, ◌≤◌, ◌<◌, List, length, Option, Some, None}
use Rattle.std.proofs.Common.{IfSome, Result, Ok, Err, IfOk, IfErr, IsErrOf, IsUtf8, MatchResult}
use Rattle.std.proofs.Common.{String, string_bytes, refl, sym, subst, ◌∙◌}
use Rattle.std.specs.declared.alloc.Global.{Global}
use Rattle.std.proofs.lemmas.Str.{IsUtf8-string_bytes}
use Rattle.std.specs.Io.KnownBytes.{Appends, Keeps}
use Rattle.td_bytes.specs.Pieces.{AppendsPrefix}
use Rattle.td_bytes.specs.declared.text.TextFault.{TextFault}
use Rattle.td_bytes.specs.declared.text.TextFault.TheVariants as text_fault
use Rattle.td_rows.specs.Table.{Table}
use Rattle.td_core.specs.declared.step.Step.{Step}
use Rattle.td_simulate.specs.declared.fault.SimulationFault.{SimulationFault}
use Rattle.td_simulate.specs.declared.fault.SimulationFault.TheVariants as fault
use Rattle.td_simulate.specs.declared.simulation.Simulated.{Simulated}
use Rattle.td_simulate.specs.Output.{Tells}
use Rattle.td_simulate.specs.SimulationText.{IsSimulation, FaultOf}
use Rattle.td_script.proofs.RunLaws.{all_read}
use Rattle.td_tool.specs.declared.input_fault.InputFault.{InputFault}
use Rattle.td_tool.specs.declared.input_fault.InputFault.TheVariants.{TooLong, NotText, Simulation}
use Rattle.td_tool.specs.declared.input_fault.InputFault.TheVariants as refused
use Rattle.td_tool.specs.declared.ending.Ending.{Ending}
use Rattle.td_tool.specs.declared.ending.Ending.TheVariants.{Done, Refused, BadInput, NoMemory}
use Rattle.td_tool.specs.declared.ending.Ending.TheVariants.{CannotRead, CannotWrite}
use Rattle.td_tool.specs.declared.ending.Ending.TheVariants.{Locked, CannotKeep}
use Rattle.td_tool.specs.Ending.{ending_of_simulation, ending_of_text}
use Rattle.td_tool.specs.Ends.{IsText, HasFault, EndsAs, Plays, Says, Ends}
use Rattle.td_tool.specs.Explained.{IsTextKept}
use Rattle.td_tool.specs.Limits.{input_limit}
use Rattle.td_tool.specs.Played.{TellsSo, IsUntold, PlaysText, IsNoSimulation, TextSays, TextEnds}
use Rattle.td_tool.specs.Played.{IsUnread, kept_of}
use Rattle.td_tool.proofs.Stops.{ends_unread}

-- ---- how a text ends

tells_as : (rows : Table) (steps : List Step) (told : Simulated) (old new : Option (List ℕ))
    (ending : Ending) → Tells rows steps told → TellsSo told old new ending
    → EndsAs rows steps old new ending
tells_as rows steps told old new Done tells so =
    (sym tells.refused ∙ so.0, subst (Appends old new) tells.text so.1)
tells_as rows steps told old new Refused tells so =
    (sym tells.refused ∙ so.0, subst (Appends old new) tells.text so.1)
tells_as rows steps told old new (BadInput role e) tells so = absurd so
tells_as rows steps told old new NoMemory tells so = absurd so
tells_as rows steps told old new (CannotRead role) tells so = absurd so
tells_as rows steps told old new CannotWrite tells so = subst (AppendsPrefix old new) tells.text so
tells_as rows steps told old new Locked tells so = absurd so
tells_as rows steps told old new CannotKeep tells so = absurd so

told_says : (text : List ℕ) (told : Simulated) (old new : Option (List ℕ)) (ending : Ending)
    → TellsSo told old new ending → PlaysText text old new ending → TextSays text old new ending
told_says text told old new Done so plays = plays
told_says text told old new Refused so plays = plays
told_says text told old new (BadInput role e) so plays = absurd so
told_says text told old new NoMemory so plays = absurd so
told_says text told old new (CannotRead role) so plays = absurd so
told_says text told old new CannotWrite so plays = plays
told_says text told old new Locked so plays = absurd so
told_says text told old new CannotKeep so plays = absurd so

untold : (text : List ℕ) (old new : Option (List ℕ)) (e : SimulationFault) → FaultOf text e
    → ((rows : Table) (steps : List Step) → IsSimulation text rows steps → e ≡ fault.NoMemory)
    → Keeps old new → TextEnds text old new (ending_of_simulation e)
untold text old new (fault.Opening s) bad only kept =
    record {
      says = (refl, bad, kept);
      only = λ rows steps is.
          (let other : fault.Opening s ≡ fault.NoMemory = only rows steps is in cc);
    }
untold text old new (fault.BadStep n) bad only kept =
    record {
      says = (refl, bad, kept);
      only = λ rows steps is.
          (let other : fault.BadStep n ≡ fault.NoMemory = only rows steps is in cc);
    }
untold text old new fault.NoMemory bad only kept =
    record { says = kept; only = λ rows steps is. kept }

pub text_ends : (text : List ℕ) (old new : Option (List ℕ)) (r : Result Simulated SimulationFault)
    (ending : Ending)
    → IfOk r (λ told.
    (rows : Table) × (steps : List Step) × IsSimulation text rows steps × Tells rows steps told)
    → ((rows : Table) (steps : List Step) → IsSimulation text rows steps
    → MatchResult r (Tells rows steps) (λ e. e ≡ fault.NoMemory))
    → IfErr r (FaultOf text) → IfOk r (λ told. TellsSo told old new ending)
    → IfErr r (λ e. IsUntold e old new ending) → TextEnds text old new ending
text_ends text old new (Ok told) ending found only bad so none =
    let (rows, steps, is, tells) = found in
    record {
      says = told_says text told old new ending so
          (rows, steps, is, tells_as rows steps told old new ending tells so);
      only = λ rows steps is. tells_as rows steps told old new ending (only rows steps is) so;
    }
text_ends text old new (Err e) ending found only bad so none =
    subst (TextEnds text old new) (sym none.ends) (untold text old new e bad only none.kept)

-- ---- what was read

played : (known old new : Option (List ℕ)) (text : List ℕ) (ending : Ending)
    → IfSome known (λ all. text ≡ all) → IsText text → PlaysText text old new ending
    → Plays known old new ending
played known old new text ending same read plays =
    let (rows, steps, is, ends) = plays in (
      rows,
      steps,
      record { input = text; whole = all_read known text same; text = read; simulation = is },
      ends,
    )

fault_of : (text : List ℕ) (e : InputFault) → IsText text → IsNoSimulation text e → HasFault text e
fault_of text TooLong read is = absurd is
fault_of text NotText read is = absurd is
fault_of text (Simulation (fault.Opening s)) read is = (read, is)
fault_of text (Simulation (fault.BadStep n)) read is = (read, is)
fault_of text (Simulation fault.NoMemory) read is = absurd is
fault_of text (refused.BadOutcome n) read is = absurd is
fault_of text (refused.Form e) read is = absurd is
fault_of text (refused.DeskFile e) read is = absurd is

has_fault : (known : Option (List ℕ)) (text : List ℕ) (e : InputFault)
    → IfSome known (λ all. text ≡ all) → IsText text → IsNoSimulation text e
    → IfSome known (λ input. HasFault input e)
has_fault None text e same read is = tt
has_fault (Some all) text e same read is = subst (λ t. HasFault t e) same (fault_of text e read is)

says : (known old new : Option (List ℕ)) (text : List ℕ) (ending : Ending)
    → IfSome known (λ all. text ≡ all) → IsText text → TextSays text old new ending
    → Says known old new ending
says known old new text Done same read s = played known old new text Done same read s
says known old new text Refused same read s = played known old new text Refused same read s
says known old new text (BadInput role e) same read s =
    (s.0, has_fault known text e same read s.1, s.2)
says known old new text NoMemory same read s = s
says known old new text (CannotRead role) same read s = absurd s
says known old new text CannotWrite same read s = played known old new text CannotWrite same read s
says known old new text Locked same read s = s
says known old new text CannotKeep same read s = s

only_so : (known old new : Option (List ℕ)) (text : List ℕ) (ending : Ending)
    → IfSome known (λ all. text ≡ all)
    → ((rows : Table) (steps : List Step) → IsSimulation text rows steps
    → EndsAs rows steps old new ending)
    → (rows : Table) (steps : List Step)
    → IfSome known (λ input.
    IsText input → IsSimulation input rows steps → EndsAs rows steps old new ending)
only_so None old new text ending same only rows steps = tt
only_so (Some all) old new text ending same only rows steps =
    λ read is. only rows steps (subst (λ t. IsSimulation t rows steps) (sym same) is)

ends_read : (known old new : Option (List ℕ)) (text : List ℕ) (ending : Ending)
    → IfSome known (λ all. text ≡ all) → IsText text → TextEnds text old new ending
    → Ends known old new ending
ends_read known old new text ending same read ends =
    record {
      says = says known old new text ending same read ends.says;
      only = only_so known old new text ending same ends.only;
    }

pub ends : (known old new : Option (List ℕ)) (r : Result (String Global) TextFault)
    (ending : Ending)
    → IfOk r (λ t. IfSome known (λ all. string_bytes t ≡ all))
    → IfOk r (λ t. length (string_bytes t) ≤ input_limit)
    → (IsErrOf r text_fault.TooLong → IfSome known (λ all. input_limit < length all))
    → (IsErrOf r text_fault.NotText
    → IfSome known (λ all. (length all ≤ input_limit) × ¬ IsUtf8 all))
    → IfOk r (λ t. TextEnds (string_bytes t) old new ending)
    → IfErr r (λ e. IsUnread e old new ending) → Ends known old new ending
ends known old new (Ok t) ending same within long other so unread =
    ends_read known old new (string_bytes t) ending same (within, IsUtf8-string_bytes t) so
ends known old new (Err e) ending same within long other so unread =
    ends_unread {T = String Global} known old new e ending long other unread

-- ---- the text that is kept

pub kept_is : (known : Option (List ℕ)) (read : Result (String Global) TextFault)
    (input : Option (String Global)) → input ≡ kept_of read
    → IfOk read (λ text. IfSome known (λ all. string_bytes text ≡ all))
    → IfSome input (λ kept. IfSome known (λ all. all ≡ string_bytes kept))
kept_is known (Ok text) input is same =
    subst (λ o. IfSome o (λ kept. IfSome known (λ all. all ≡ string_bytes kept))) (sym is)
    (all_read known (string_bytes text) same)
kept_is known (Err fault) input is same =
    subst (λ o. IfSome o (λ kept. IfSome known (λ all. all ≡ string_bytes kept))) (sym is) tt

pub kept_within : (limit : ℕ) (read : Result (String Global) TextFault)
    (input : Option (String Global)) → input ≡ kept_of read
    → IfOk read (λ text. length (string_bytes text) ≤ limit)
    → IfSome input (λ kept. length (string_bytes kept) ≤ limit)
kept_within limit (Ok text) input is within =
    subst (λ o. IfSome o (λ kept. length (string_bytes kept) ≤ limit)) (sym is) within
kept_within limit (Err fault) input is within =
    subst (λ o. IfSome o (λ kept. length (string_bytes kept) ≤ limit)) (sym is) tt

-- if a text is refused as a simulation, it was read
some_kept : (ending : Ending) (text : String Global) → IsTextKept ending (Some text)
some_kept Done text = tt
some_kept Refused text = tt
some_kept (BadInput role TooLong) text = tt
some_kept (BadInput role NotText) text = tt
some_kept (BadInput role (Simulation e)) text = refl
some_kept (BadInput role (refused.BadOutcome n)) text = tt
some_kept (BadInput role (refused.Form e)) text = tt
some_kept (BadInput role (refused.DeskFile e)) text = tt
some_kept NoMemory text = tt
some_kept (CannotRead role) text = tt
some_kept CannotWrite text = tt
some_kept Locked text = tt
some_kept CannotKeep text = tt

unread_kept : (fault : TextFault) (input : Option (String Global))
    → IsTextKept (ending_of_text fault) input
unread_kept text_fault.CannotRead input = tt
unread_kept text_fault.TooLong input = tt
unread_kept text_fault.NotText input = tt
unread_kept text_fault.NoMemory input = tt

pub text_kept : (read : Result (String Global) TextFault) (input : Option (String Global))
    (old new : Option (List ℕ)) (ending : Ending) → input ≡ kept_of read
    → IfErr read (λ e. IsUnread e old new ending) → IsTextKept ending input
text_kept (Ok text) input old new ending is none =
    subst (IsTextKept ending) (sym is) (some_kept ending text)
text_kept (Err fault) input old new ending is none =
    subst (λ e. IsTextKept e input) (sym none.ends) (unread_kept fault input)
