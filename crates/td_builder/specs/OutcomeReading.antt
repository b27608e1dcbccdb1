-- How an outcome line is read, and what is answered then. This project's own.
use Rattle.std.specs.Prelude.{ℕ, List, Option, Some, None, Result, Ok, Err}
use Rattle.std.specs.declared.alloc.AllocError.{AllocError}
use Rattle.td_text.specs.Chain.{◌>>=◌}
use Rattle.td_text.specs.Cut.{cut}
use Rattle.td_rows.specs.declared.key.Key.{Key}
use Rattle.td_rows.specs.declared.outcome.Outcome.{Outcome}
use Rattle.td_rows.specs.KeyText.{key_at}
use Rattle.td_journal.specs.Endings.{ending_at}
use Rattle.td_builder.specs.declared.fault.OutcomesFault.{OutcomesFault}
use Rattle.td_builder.specs.declared.fault.OutcomesFault.TheVariants.{BadLine, NoMemory}

-- the key and the outcome whose line this is
unfoldable pub outcome_line_at : List ℕ → Option (Key × Outcome)
outcome_line_at line = do
  p ← cut 32 line
  key ← key_at p.0
  outcome ← ending_at p.1
  Some (key, outcome)

-- what is answered of the line with a number: what was read, that it is none, or missing memory
abbrev pub line_told : Result (Option (Key × Outcome)) AllocError → ℕ
    → Result (Key × Outcome) OutcomesFault
line_told (Ok (Some p)) number = Ok p
line_told (Ok None) number = Err (BadLine number)
line_told (Err e) number = Err NoMemory
