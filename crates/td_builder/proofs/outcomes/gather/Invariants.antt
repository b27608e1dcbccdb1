-- What the loop of `gather` keeps, and what gets less.
use Rattle.std.proofs.Common.{◌≡◌, ◌+◌, ◌≤◌, List, length, map}
use denote.Text.{Utf8}
use denote.Shadow.{shadow}
use Rattle.td_text.specs.Lines.{lines_of, ended}
use Rattle.td_text.proofs.SpelledLines.{AreRead}
use Rattle.td_rows.specs.declared.key.Key.{Key}
use Rattle.td_rows.specs.declared.outcome.Outcome.{Outcome}
use Rattle.td_journal.specs.Endings.{outcome_text}
use Rattle.td_builder.specs.OutcomeLines.{OutcomeFits, outcome_line}
use Rattle.td_builder.specs.Unused.{lines_of_key, numbered}
use Rattle.td_builder.proofs.outcomes.gather.Given as goal

-- the outcomes so far, before the lines of what is left
abbrev pub invariant-loop-rest : goal.invariant-loop-rest
invariant-loop-rest l = record {
  os : List (Key × Outcome);
  read : AreRead outcome_line OutcomeFits (ended (lines_of l.fn.text)) os
      (ended (lines_of l.rest));
  texts : l.gathered.texts.items ≡ map (λ (p : Key × Outcome). outcome_text p.1) os;
  lines : (k : Key) → lines_of_key l.gathered.lines.entries k ≡ numbered k 0 os;
  small : length os + length l.rest ≤ length l.fn.text;
  utf8 : shadow (Utf8 l.rest);
}

abbrev pub decreases-loop-rest : goal.decreases-loop-rest
decreases-loop-rest l = length l.rest
