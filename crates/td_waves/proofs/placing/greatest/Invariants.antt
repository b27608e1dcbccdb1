-- What the loop of `greatest` keeps.
use Rattle.std.proofs.Common.{◌<◌, ◌≤◌, ℕ, get_or}
use Rattle.td_waves.specs.Levelling.{HasNumber}
use Rattle.td_waves.proofs.placing.greatest.Given as goal

-- the greatest of the numbers so far
abbrev pub invariant-loop-number : goal.invariant-loop-number
invariant-loop-number l = record {
  within : (i : ℕ) → i < l.number-index → get_or l.numbers i 0 ≤ l.greatest;
  reached : 0 < l.greatest → HasNumber l.numbers l.greatest;
}
