-- `ordered`: what it answers.
use Rattle.std.proofs.Common.{◌≡◌, true, false, IfOk, string_bytes, subst, sym}
use Rattle.std.proofs.lemmas.Result.{IfOk-weaker}
use Rattle.td_indices.specs.Archive.{Contents}
use Rattle.td_query.specs.Tracking.{tracking}
use Rattle.td_rows.specs.Table.{Table}
use Rattle.td_plan.specs.Steps.{IsSteps, IsStepsWhy}
use Rattle.td_tool.specs.TrackInside.{ordered_of}
use Rattle.td_tool.proofs.Ordered.{steps_told}
use Rattle.td_tool.proofs.steps_text.ordered.Goals as goal

pub returns-in-Steps : goal.returns-in-Steps
returns-in-Steps g c =
    let t = tracking c.args.tracker.now in
    let a = c.args.archive.now in
    let why = c.in-Steps.why in
    let of = c.in_ok-steps.ensures.of t c.in_ok-marks.ensures.marks c.requires.apart in
    let at = c.in_ok-steps.ensures.archive in
    subst (λ order. IfOk c.text.result (λ said. (rows : Table)
    → ordered_of order a t rows (string_bytes said))) (sym c.in-Steps.is)
    (steps_told c.text.result a t why
    (IfOk-weaker c.text.result _ (λ said. why ≡ false → IsSteps a t (string_bytes said))
    (λ said is.
    subst (λ (x : Contents). why ≡ false → IsSteps x t (string_bytes said)) at (is t of))
    c.text.ensures.parts)
    (IfOk-weaker c.text.result _ (λ said. why ≡ true → IsStepsWhy a t (string_bytes said))
    (λ said is. subst (λ (x : Contents). why ≡ true → IsStepsWhy x t (string_bytes said)) at
    (is t of))
    c.text.ensures.reasons))
