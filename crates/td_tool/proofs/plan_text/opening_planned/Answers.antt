-- `opening_planned`: what it answers; a plan can be made of the rows.
use Rattle.std.proofs.Common.{◌∙◌, refl, sym}
use Rattle.std.proofs.lemmas.Result.{IfOk-weaker}
use Rattle.td_indices.specs.Choosing.{flagged}
use Rattle.td_plan.specs.inner.Writing.{seen_words}
use Rattle.td_plan.proofs.SoundArchives.{chosen-rows}
use Rattle.td_query.specs.Tracking.{tracking}
use Rattle.td_tool.specs.Tracks.{premises_of}
use Rattle.td_tool.proofs.Plans.{opening_says}
use Rattle.td_tool.proofs.plan_text.opening_planned.Goals as goal

pub returns : goal.returns
returns g c =
    let a = c.args.archive.now in
    let t = tracking c.args.tracker.now in
    let flags = c.deref.result.now in
    let p = premises_of a t c.in_ok-rows.rows in
    let marks = c.in_ok-marks.ensures.marks in
    IfOk-weaker c.lines_of-said.result _ _
    (λ said is. opening_says (seen_words c.args.words.now) a t flags c.in_ok-rows.rows _
    (c.deref.ensures.value ∙ c.in_ok-flags.ensures.flags t marks) c.in_ok-rows.ensures
    (is p (record { archive = refl; marks = marks; rows = refl })
    (chosen-rows p (flagged flags a.sources) c.requires.read c.in_ok-rows.ensures)
    (sym c.title.ensures.title)))
    c.lines_of-said.ensures
