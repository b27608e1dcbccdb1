-- `judge_files`: the clause `fine`.
use Rattle.std.proofs.Common.{ap, subst, ◌∙◌}
use Rattle.std.specs.Prelude.{MatchResult}
use Rattle.td_script.specs.Ends.{AreFine}
use Rattle.td_script.specs.OpeningInside.{IsRefusedBy}
use Rattle.td_inputs.specs.Inputs.{Texts, without_journal}
use Rattle.td_script.proofs.running.judge_files.Goals as goal

pub returns-clause-fine : goal.returns-clause-fine
returns-clause-fine g c =
    subst (λ (x : Texts). MatchResult c.judge_lent.result (λ u. AreFine x) (IsRefusedBy x))
    (c.without_journal.ensures ∙ ap without_journal c.of.ensures) c.judge_lent.ensures.fine
