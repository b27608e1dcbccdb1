-- Runs for which no text was read end as they say.
use Rattle.std.proofs.Common.{ℕ, ◌≤◌, ◌<◌, List, length, Option, Some, None, IfSome, Err}
use Rattle.std.proofs.Common.{IsErrOf, IsUtf8, refl, subst, sym, arith}
use Rattle.std.specs.Io.KnownBytes.{Keeps}
use Rattle.td_bytes.specs.declared.text.TextFault.{TextFault}
use Rattle.td_bytes.specs.declared.text.TextFault.TheVariants as text
use Rattle.td_rows.specs.Table.{Table}
use Rattle.td_core.specs.declared.step.Step.{Step}
use Rattle.td_simulate.specs.SimulationText.{IsSimulation}
use Rattle.td_tool.specs.declared.ending.Ending.{Ending}
use Rattle.td_tool.specs.Ending.{ending_of_text}
use Rattle.td_tool.specs.Limits.{input_limit}
use Rattle.td_tool.specs.Ends.{IsText, Ends}
use Rattle.td_tool.specs.Played.{IsUnread}

-- what was read is no text, so no simulation
abbrev NoneRead : Option (List ℕ) → Type 0
NoneRead known =
    (rows : Table) (steps : List Step)
    → IfSome known (λ input. IsText input → IsSimulation input rows steps → ⊥)

-- too long a text is none that is read
too_long : (known : Option (List ℕ)) → IfSome known (λ all. input_limit < length all)
    → NoneRead known
too_long None long rows steps = tt
too_long (Some all) long rows steps =
    λ read simulation. let within : length all ≤ input_limit = read.0 in absurd (omega arith)

not_text : (known : Option (List ℕ))
    → IfSome known (λ all. (length all ≤ input_limit) × ¬ IsUtf8 all) → NoneRead known
not_text None other rows steps = tt
not_text (Some all) other rows steps = λ read simulation. other.1 read.1

-- if nothing is written, nothing is written for a simulation
pub kept_only : (known old new : Option (List ℕ)) → Keeps old new
    → (rows : Table) (steps : List Step)
    → IfSome known (λ input. IsText input → IsSimulation input rows steps → Keeps old new)
kept_only None old new kept rows steps = tt
kept_only (Some input) old new kept rows steps = λ read simulation. kept

ends_by : {T : Type 0} (known old new : Option (List ℕ)) (e : TextFault)
    → (IsErrOf {T = T} (Err e) text.TooLong → IfSome known (λ all. input_limit < length all))
    → (IsErrOf {T = T} (Err e) text.NotText
    → IfSome known (λ all. (length all ≤ input_limit) × ¬ IsUtf8 all))
    → Keeps old new → Ends known old new (ending_of_text e)
ends_by known old new text.CannotRead long other kept =
    record { says = (refl, kept); only = kept_only known old new kept }
ends_by known old new text.TooLong long other kept =
    record { says = (refl, long refl, kept); only = too_long known (long refl) }
ends_by known old new text.NotText long other kept =
    record { says = (refl, other refl, kept); only = not_text known (other refl) }
ends_by known old new text.NoMemory long other kept =
    record { says = kept; only = kept_only known old new kept }

pub ends_unread : {T : Type 0} (known old new : Option (List ℕ)) (e : TextFault) (ending : Ending)
    → (IsErrOf {T = T} (Err e) text.TooLong → IfSome known (λ all. input_limit < length all))
    → (IsErrOf {T = T} (Err e) text.NotText
    → IfSome known (λ all. (length all ≤ input_limit) × ¬ IsUtf8 all))
    → IsUnread e old new ending → Ends known old new ending
ends_unread {T} known old new e ending long other unread =
    subst (Ends known old new) (sym unread.ends)
    (ends_by {T = T} known old new e long other unread.kept)
