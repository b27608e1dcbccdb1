-- `with_report`: the clause `app`.
use Rattle.std.proofs.Common.{ap, subst, ◌≡◌, ◌∙◌}
use Rattle.std.specs.Result.{IfOk}
use Rattle.std.specs.Prelude.{codes}
use Rattle.clap.specs.Simple.{app_of, with_rule}
use Rattle.td_words.specs.CommandLine.{flag_of, option_of}
use Rattle.td_words.proofs.command.with_report.Goals as goal

pub returns-clause-app : goal.returns-clause-app
returns-clause-app c =
    subst (λ a. IfOk c.with_option-3.result
    (λ r. app_of r ≡ with_rule a (option_of (codes "chunk"))))
    (c.in_ok-command-4.ensures.app
    ∙ ap (λ a. with_rule a (flag_of (codes "summary")))
    (c.in_ok-command-3.ensures.app
    ∙ ap (λ a. with_rule a (option_of (codes "only")))
    (c.in_ok-command-2.ensures.app
    ∙ ap (λ a. with_rule a (option_of (codes "state"))) c.in_ok-command.ensures.app)))
    c.with_option-3.ensures.app
