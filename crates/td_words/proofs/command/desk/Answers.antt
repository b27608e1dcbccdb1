-- `desk`: the clause `shape`.
use Rattle.std.proofs.Common.{ap, ◌≡◌, ◌∙◌, codes, rules}
use Rattle.std.proofs.lemmas.Result.{IfOk-weaker}
use Rattle.clap.specs.Simple.{app_of, new_app, shape_of}
use Rattle.td_words.specs.CommandLine.{desk_shape, with_explanation, with_lasting_rules}
use Rattle.td_words.proofs.command.desk.Goals as goal

pub returns-clause-shape : goal.returns-clause-shape
returns-clause-shape c =
    let start : app_of c.after_help-command.result ≡ new_app (codes "desk") = search rules in
    IfOk-weaker c.explained.result _ (λ r. shape_of r ≡ desk_shape c.args.strict)
    (λ r e. ap (λ a. a.top)
    (e ∙ ap with_explanation
    (c.in_ok-command.ensures.app ∙ ap (with_lasting_rules c.args.strict) start)))
    c.explained.ensures.app
