-- `opened_order`: no source stands twice, and what it answers.
use Rattle.std.proofs.Common.{IfOk, IfSome, string_bytes, subst, sym}
use Rattle.std.proofs.lemmas.Result.{IfOk-weaker}
use Rattle.td_query.specs.Tracking.{tracking}
use Rattle.td_tool.specs.TrackInside.{GivenSays, ordered_of}
use Rattle.td_tool.proofs.Plans.{opened_planned}
use Rattle.td_tool.proofs.Told.{looked_at_says}
use Rattle.td_tool.proofs.steps_text.opened_order.Goals as goal

pub ordered-said-requires-clause-apart : goal.ordered-said-requires-clause-apart
ordered-said-requires-clause-apart g c = λ k within.
    (opened_planned c.args.opened (tracking c.in-Some.given.now.tracker)
    c.in_ok-rows_stand.ensures.0
    c.requires.opened c.in_ok-rows_stand.ensures.1).sound.numbered

pub returns : goal.returns
returns g c =
    let o = c.args.opened in
    let Says = ordered_of c.args.order in
    let looked = c.in_ok-rows_stand.ensures in
    subst (λ tracker. IfOk c.ordered-said.result (λ said. IfSome tracker (λ given.
    GivenSays Says o.archive.now o.rows (tracking given.now.tracker) (string_bytes said))))
    (sym c.in-Some.is)
    (IfOk-weaker c.ordered-said.result _ _
    (λ said is. looked_at_says Says o.archive.now o.rows looked.0
    (tracking c.in-Some.given.now.tracker) (string_bytes said) looked.1 (is looked.0))
    c.ordered-said.ensures)
