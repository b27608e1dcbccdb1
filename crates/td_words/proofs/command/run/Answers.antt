-- `run`: the clause `shape`.
use Rattle.std.proofs.Common.{ap, ◌≡◌, ◌∙◌, codes, rules}
use Rattle.std.proofs.lemmas.Result.{IfOk-weaker}
use Rattle.clap.specs.Simple.{app_of, new_app, shape_of}
use Rattle.td_words.specs.CommandLine.{run_shape, with_archive_rules, with_crew_rules}
use Rattle.td_words.specs.CommandLine.{with_desk_rules, with_explanation}
use Rattle.td_words.proofs.command.run.Goals as goal

pub returns-clause-shape : goal.returns-clause-shape
returns-clause-shape c =
    let start : app_of c.after_help-command.result ≡ new_app (codes "run") = search rules in
    IfOk-weaker c.explained.result _ (λ r. shape_of r ≡ run_shape c.args.strict)
    (λ r e. ap (λ a. a.top)
    (e ∙ ap with_explanation
    (c.in_ok-command-3.ensures.app ∙ ap with_crew_rules
    (c.in_ok-command-2.ensures.app ∙ ap with_desk_rules
    (c.in_ok-command.ensures.app ∙ ap (with_archive_rules c.args.strict) start)))))
    c.explained.ensures.app
