-- `with_lasting`: the clause `app`.
use Rattle.std.proofs.Common.{ap, subst, ◌≡◌, ◌∙◌}
use Rattle.std.specs.Result.{IfOk}
use Rattle.std.specs.Prelude.{codes}
use Rattle.clap.specs.Simple.{app_of, with_rule}
use Rattle.td_words.specs.CommandLine.{flag_of, with_archive_rules, with_desk_rules}
use Rattle.td_words.proofs.command.with_lasting.Goals as goal

pub returns-clause-app : goal.returns-clause-app
returns-clause-app c =
    subst (λ a. IfOk c.with_flag.result (λ r. app_of r ≡ with_rule a (flag_of (codes "wait"))))
    (c.in_ok-command-3.ensures.app
    ∙ ap with_desk_rules
    (c.in_ok-command-2.ensures.app
    ∙ ap (with_archive_rules c.args.strict) c.in_ok-command.ensures.app))
    c.with_flag.ensures.app
