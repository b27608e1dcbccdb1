-- `with_tracker`: the clause `app`.
use Rattle.std.proofs.Common.{subst, ◌≡◌}
use Rattle.std.specs.Result.{IfOk}
use Rattle.std.specs.Prelude.{codes}
use Rattle.clap.specs.Simple.{app_of, with_rule}
use Rattle.td_words.specs.CommandLine.{needed_option}
use Rattle.td_words.proofs.command.with_tracker.Goals as goal

pub returns-clause-app : goal.returns-clause-app
returns-clause-app c =
    subst (λ a. IfOk c.with_file.result
    (λ r. app_of r ≡ with_rule a (needed_option c.args.strict (codes "tracker"))))
    c.in_ok-command.ensures.app c.with_file.ensures.app
