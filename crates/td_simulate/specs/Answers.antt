-- The lines of answers. This project's own.
use Rattle.std.specs.Prelude.{ℕ, Bool, true, false, List, [], ◌∷◌, ◌++◌, Some, codes, decimal}
use Rattle.td_rows.specs.KeyText.{key_text}
use Rattle.td_core.specs.declared.step.Refusal.{Refusal}
use Rattle.td_core.specs.declared.step.Refusal.TheVariants.{NoSuchRow, NotClosed, NotQueued}
use Rattle.td_core.specs.declared.step.Refusal.TheVariants.{NotOpen, NoSuchBuilder, NotFree}
use Rattle.td_core.specs.declared.step.Refusal.TheVariants.{NotHeld, NotACommand, NoKeys}
use Rattle.td_core.specs.declared.step.Refusal.TheVariants.{DoesNotApply, NotPinned, NoSuchEntry}
use Rattle.td_core.specs.declared.step.Refusal.TheVariants.{AlreadyUndone, Blocked, NothingHeld}
use Rattle.td_core.specs.declared.step.Refusal.TheVariants.{NotNoted, NotDone, NotFinished}
use Rattle.td_core.specs.declared.step.Refusal.TheVariants.{NotSettled, NoMemory}
use Rattle.td_core.specs.declared.step.Answer.{Answer}
use Rattle.td_core.specs.declared.step.Answer.TheVariants.{Done, Entry, Undone, Nothing, Refused}

-- the name of a refusal
abbrev pub refusal_name : Refusal → List ℕ
refusal_name (NoSuchRow k) = codes "NoSuchRow"
refusal_name NotClosed = codes "NotClosed"
refusal_name NotQueued = codes "NotQueued"
refusal_name NotOpen = codes "NotOpen"
refusal_name NoSuchBuilder = codes "NoSuchBuilder"
refusal_name NotFree = codes "NotFree"
refusal_name NotHeld = codes "NotHeld"
refusal_name NotACommand = codes "NotACommand"
refusal_name NoKeys = codes "NoKeys"
refusal_name (DoesNotApply k) = codes "DoesNotApply"
refusal_name (NotPinned k) = codes "NotPinned"
refusal_name NoSuchEntry = codes "NoSuchEntry"
refusal_name AlreadyUndone = codes "AlreadyUndone"
refusal_name (Blocked n) = codes "Blocked"
refusal_name NothingHeld = codes "NothingHeld"
refusal_name NotNoted = codes "NotNoted"
refusal_name NotDone = codes "NotDone"
refusal_name NotFinished = codes "NotFinished"
refusal_name NotSettled = codes "NotSettled"
refusal_name NoMemory = codes "NoMemory"

-- what a refusal names: the first key of a command or an arrival that fails, or the entry that
-- blocks
abbrev pub refusal_place : Refusal → List ℕ
refusal_place (NoSuchRow (Some k)) = 32 ∷ key_text k
refusal_place (DoesNotApply k) = 32 ∷ key_text k
refusal_place (NotPinned (Some k)) = 32 ∷ key_text k
refusal_place (Blocked n) = 32 ∷ decimal n
refusal_place r = []

-- the line of an answer
abbrev pub answer_line : Answer → List ℕ
answer_line Done = codes "done"
answer_line (Entry n) = codes "entry " ++ decimal n
answer_line (Undone n) = codes "undone " ++ decimal n
answer_line Nothing = codes "nothing to sweep"
answer_line (Refused r) = codes "refused: " ++ (refusal_name r ++ refusal_place r)

-- whether an answer is a refusal
abbrev pub is_refused : Answer → Bool
is_refused (Refused r) = true
is_refused answer = false
