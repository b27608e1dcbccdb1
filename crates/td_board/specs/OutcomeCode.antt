-- The numbers by which a word shows how a build ended. This project's own.
use Rattle.std.specs.Prelude.{ℕ}
use Rattle.td_board.specs.declared.outcome.OutcomeCode.{OutcomeCode}
use Rattle.td_board.specs.declared.outcome.OutcomeCode.TheVariants.{Built, Attempted, GivenBack}
use Rattle.td_board.specs.declared.outcome.OutcomeCode.TheVariants.{Waits}

-- the number of an outcome
abbrev pub code_of : OutcomeCode → ℕ
code_of Built = 0
code_of Attempted = 1
code_of GivenBack = 2
code_of Waits = 3
