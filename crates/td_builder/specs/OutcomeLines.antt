-- The lines that say how builds end: `KEY WORD`, and ` : TEXT` after the word `waits`. This
-- project's own.
use Rattle.std.specs.Prelude.{ℕ, List, ◌∷◌, ◌++◌}
use Rattle.td_text.specs.Spelled.{AreSpelled, IsFirstOther}
use Rattle.td_rows.specs.declared.key.Key.{Key}
use Rattle.td_rows.specs.declared.outcome.Outcome.{Outcome}
use Rattle.td_rows.specs.KeyText.{key_text, KeyFits}
use Rattle.td_journal.specs.Endings.{ending_text}
use Rattle.td_builder.specs.declared.fault.OutcomesFault.{OutcomesFault}
use Rattle.td_builder.specs.declared.fault.OutcomesFault.TheVariants.{BadLine, NoMemory}

-- the line of a build's end
abbrev pub outcome_line : Key × Outcome → List ℕ
outcome_line p = key_text p.0 ++ 32 ∷ ending_text p.1

-- a build's end that can be written: its key has its form
abbrev pub OutcomeFits : Key × Outcome → Type 0
OutcomeFits p = KeyFits p.0

-- the lines are those of these ends, in this order
abbrev pub AreOutcomes : List (List ℕ) → List (Key × Outcome) → Type 0
AreOutcomes lines os = AreSpelled outcome_line OutcomeFits lines os

-- the first of the lines that isn't one of a build's end; the lines count from 1
abbrev pub IsFirstBad : List (List ℕ) → ℕ → Type 0
IsFirstBad lines number = IsFirstOther outcome_line OutcomeFits 1 lines number

-- a fault is that of the first faulty line; missing memory may be answered instead of anything
abbrev pub FaultOf : List (List ℕ) → OutcomesFault → Type 0
FaultOf lines (BadLine number) = IsFirstBad lines number
FaultOf lines NoMemory = Unit {0}
