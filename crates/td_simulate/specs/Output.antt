-- What a simulation writes: a line for each answer, the word `rows`,
-- and a line for each row as it is then. This project's own.
use Rattle.std.specs.Prelude.{◌≡◌, ℕ, Bool, List, ◌∷◌, ◌++◌, map, codes, string_bytes}
use Rattle.std.specs.List.{list_any}
use Rattle.td_rows.specs.Limits.{max_builders}
use Rattle.td_text.specs.Lines.{text_of}
use Rattle.td_rows.specs.RowLine.{row_line}
use Rattle.td_rows.specs.Table.{Table}
use Rattle.td_core.specs.declared.step.Step.{Step}
use Rattle.td_core.specs.declared.step.Answer.{Answer}
use Rattle.td_supply.specs.Supply.{nothing}
use Rattle.td_core.specs.History.{rows_of}
use Rattle.td_core.specs.Worlds.{world_of}
use Rattle.td_core.specs.Steps.{answers_to, after_all}
use Rattle.td_simulate.specs.declared.simulation.Simulated.{Simulated}
use Rattle.td_simulate.specs.Answers.{answer_line, is_refused}

-- the answers to the steps, from these rows, without offers, and with 64 builders
abbrev pub answers : Table → List Step → List Answer
answers rows steps = answers_to (world_of rows nothing max_builders) steps

-- the rows after the last step
abbrev pub last_rows : Table → List Step → Table
last_rows rows steps = rows_of (after_all (world_of rows nothing max_builders) steps).history

-- all lines
abbrev pub output : Table → List Step → List ℕ
output rows steps = text_of (map answer_line (answers rows steps))
    ++ text_of (codes "rows" ∷ map row_line (last_rows rows steps))

-- whether a step is refused
abbrev pub any_refused : Table → List Step → Bool
any_refused rows steps = list_any is_refused (answers rows steps)

-- the answer to a simulation: its text, and whether a step was refused
pub record Tells (rows : Table) (steps : List Step) (told : Simulated) : Type 0 where
  pub text : string_bytes told.text ≡ output rows steps
  pub refused : told.refused ≡ any_refused rows steps
