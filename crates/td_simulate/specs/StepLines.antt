-- The lines that stand for steps. This project's own.
use Rattle.std.specs.Prelude.{◌≡◌, ℕ, ◌<◌, ◌^◌, true, List, ◌∷◌, ◌++◌, length, codes, decimal}
use Rattle.std.specs.List.{AllByRecursion}
use Rattle.td_rows.specs.declared.key.Key.{Key}
use Rattle.td_rows.specs.declared.kind.Kind.{Kind}
use Rattle.td_rows.specs.KeyText.{key_text, KeyFits}
use Rattle.td_rows.specs.Notes.{notes, NotesFit}
use Rattle.td_journal.specs.Commands.{is_command}
use Rattle.td_journal.specs.Endings.{ending_text}
use Rattle.td_journal.specs.EntryFits.{KindFits}
use Rattle.td_journal.specs.JournalText.{kind_word, kind_notes, spaced_keys}
use Rattle.td_core.specs.declared.step.Step.{Step}
use Rattle.td_core.specs.declared.step.Step.TheVariants.{Offer, Withdraw, Claim, Note, Commit, Undo}
use Rattle.td_core.specs.declared.step.Step.TheVariants.{Finish, Settle, Release, Arrive, Sweep}

-- the line of a step; that of a command is its entry's in a journal, without number and mark
abbrev pub step_line : Step → List ℕ
step_line (Offer k) = codes "offer " ++ key_text k
step_line (Withdraw k) = codes "withdraw " ++ key_text k
step_line (Claim b k) = codes "claim " ++ (decimal b ++ 32 ∷ key_text k)
step_line (Note k) = codes "note " ++ key_text k
step_line (Commit kind keys) = kind_word kind ++ (spaced_keys keys ++ notes (kind_notes kind))
step_line (Undo n) = codes "undo " ++ decimal n
step_line (Finish b o) = codes "finish "
    ++ (decimal b ++ 32 ∷ ending_text o)
step_line (Settle k) = codes "settle " ++ key_text k
step_line (Release b) = codes "release " ++ decimal b
step_line (Arrive k) = codes "arrive " ++ key_text k
step_line Sweep = codes "sweep"

-- a command that can be written: it names a key at least, and its keys may be in any order
pub record CommandFits (k : Kind) (ks : List Key) : Type 0 where
  pub command : is_command k ≡ true
  pub kind : KindFits k
  pub some : 0 < length ks
  pub keys : AllByRecursion KeyFits ks
  pub texts : NotesFit (kind_notes k)

-- a step that can be written: the numbers of builders and entries have 64 bits
abbrev pub StepFits : Step → Type 0
StepFits (Offer k) = KeyFits k
StepFits (Withdraw k) = KeyFits k
StepFits (Claim b k) = (b < 2 ^ 64) × KeyFits k
StepFits (Note k) = KeyFits k
StepFits (Commit kind keys) = CommandFits kind keys
StepFits (Undo n) = n < 2 ^ 64
StepFits (Finish b o) = b < 2 ^ 64
StepFits (Settle k) = KeyFits k
StepFits (Release b) = b < 2 ^ 64
StepFits (Arrive k) = KeyFits k
StepFits Sweep = Unit {0}
