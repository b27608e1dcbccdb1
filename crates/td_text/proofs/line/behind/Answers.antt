-- `behind`: the clause `lines`.
use Rattle.std.proofs.Common.{List, ℕ, Option, ap, sym, ◌∙◌}
use Rattle.std.specs.Borrow.{Bor}
use Rattle.td_text.specs.Lines.{lines_left, ended}
use Rattle.td_text.proofs.Ended.{ended-none}
use Rattle.td_text.proofs.line.behind.Goals as goal

pub returns-in-None-clause-lines : goal.returns-in-None-clause-lines
returns-in-None-clause-lines c =
    ended-none ∙ ap (λ (o : Option (Bor (List ℕ))). ended (lines_left o)) (sym c.in-None.is)
