-- What the loop of `tell_lines` keeps, and what gets less.
use Rattle.std.specs.Prelude.{◌≡◌}
use Rattle.td_text.specs.Lines.{left_len}
use Rattle.td_script.specs.Settings.{setting_lent}
use Rattle.td_crew.proofs.ToldSoFar.{IsSoFar}
use Rattle.td_crew.proofs.told.tell_lines.Given as goal

-- the answers so far, with those to the rest, are the whole; the clerk has its parts; and the
-- words are of this script
abbrev pub invariant-loop-line : goal.invariant-loop-line
invariant-loop-line g l =
    IsSoFar g.N.Named.table g.N.Named.origin g.N.Named.opened l.fn.clerk.parts
    (setting_lent g.T.Reports.text g.N.Named.origin.stock l.fn.lines.suites.now l.fn.lines.reports)
    l.fn.lines.script.now l.clerk.receipts (record { text = l.told.answers.text; refused = l.told.refused })
    l.told.answers.turn.rest
    × (l.clerk.parts ≡ l.fn.clerk.parts) × (l.told.answers.turn.script ≡ l.fn.lines.script)

abbrev pub decreases-loop-line : goal.decreases-loop-line
decreases-loop-line g l = left_len l.told.answers.turn.rest
