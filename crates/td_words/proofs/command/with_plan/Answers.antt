-- `with_plan`: the clause `app`.
use Rattle.std.proofs.Common.{ap, subst, ◌≡◌, ◌∙◌}
use Rattle.std.specs.Result.{IfOk}
use Rattle.std.specs.Prelude.{codes}
use Rattle.clap.specs.Simple.{app_of, with_rule}
use Rattle.td_words.specs.CommandLine.{needed_option, option_of}
use Rattle.td_words.proofs.command.with_plan.Goals as goal

pub returns-clause-app : goal.returns-clause-app
returns-clause-app c =
    subst (λ a. IfOk c.with_option-2.result
    (λ r. app_of r ≡ with_rule a (option_of (codes "suite"))))
    (c.in_ok-command-3.ensures.app
    ∙ ap (λ a. with_rule a (option_of (codes "state")))
    (c.in_ok-command-2.ensures.app
    ∙ ap (λ a. with_rule a (needed_option c.args.strict (codes "message")))
    c.in_ok-command.ensures.app))
    c.with_option-2.ensures.app
