-- `Inputs::status`: what it answers.
use Rattle.std.proofs.Common.{◌∙◌, ap, subst, sym}
use Rattle.td_query.specs.Marks.{AreMarks}
use Rattle.td_query.specs.Statuses.{status_at}
use Rattle.td_indices.specs.Archive.{Contents}
use Rattle.td_plan.proofs.inputs.Inputs.status.Goals as goal

pub returns : goal.returns
returns c = λ p of.
    let x = c.args.self.now in
    c.status.ensures.status p.tracker
    (subst (λ (a : Contents). AreMarks a p.tracker x.marks.now) (sym of.archive) of.marks)
    ∙ ap (λ (a : Contents). status_at a p.tracker c.args.source c.args.place) of.archive
