-- `judge`: the clause `fine`.
use Rattle.std.proofs.Common.{subst}
use Rattle.std.specs.Prelude.{MatchResult}
use Rattle.td_script.specs.Ends.{AreFine}
use Rattle.td_script.specs.OpeningInside.{IsRefusedBy}
use Rattle.td_inputs.specs.Inputs.{Texts}
use Rattle.td_script.proofs.running.judge.Goals as goal

pub returns-clause-fine : goal.returns-clause-fine
returns-clause-fine g c =
    subst (λ (x : Texts). MatchResult c.judge_lent.result (λ u. AreFine x) (IsRefusedBy x))
    c.of.ensures c.judge_lent.ensures.fine
