-- What the loop of `tell` keeps, and what gets less.
use Rattle.std.proofs.Common.{map, option_map, List, ℕ, Bor}
use Rattle.td_text.specs.Lines.{left_len}
use Rattle.td_script.proofs.ScriptLaws.{IsSoFar}
use Rattle.td_script.proofs.told.tell.Given as goal

-- the answers so far, with those to the lines that are left, are those to the whole script
abbrev pub invariant-loop-rest : goal.invariant-loop-rest
invariant-loop-rest g l =
    IsSoFar (map (λ (s : Bor (List ℕ)). s.now) l.fn.lent.suites.now)
    (option_map (λ r. g.R.Reports.text r.now) l.fn.lent.reports) l.fn.script l.fn.book l.book
    l.told l.rest

abbrev pub decreases-loop-rest : goal.decreases-loop-rest
decreases-loop-rest g l = left_len l.rest
