-- `opened_plan`: a plan can be made of the rows, and what it answers.
use Rattle.std.proofs.Common.{IfOk, IfSome, Option, refl, string_bytes, subst, sym}
use Rattle.td_rows.specs.Table.{Table}
use Rattle.td_plan.specs.inner.Writing.{seen_words}
use Rattle.td_query.specs.Tracking.{tracking}
use Rattle.td_tool.specs.TrackInside.{AreLookedAt, GivenSays}
use Rattle.td_tool.specs.Tracks.{IsPlanWith}
use Rattle.td_tool.proofs.Plans.{opened_planned, opened_read}
use Rattle.td_tool.proofs.plan_text.opened_plan.Goals as goal

pub opening_planned-requires-clause-read : goal.opening_planned-requires-clause-read
opening_planned-requires-clause-read g c = λ k within.
    opened_read c.args.opened c.requires.opened

pub planned-said-requires-clause-planned : goal.planned-said-requires-clause-planned
planned-said-requires-clause-planned g c = λ k within.
    opened_planned c.args.opened (tracking c.in-Some.given.now.tracker) c.in-Some-rows.rows
    c.requires.opened
    (subst (λ (given : Option Table). AreLookedAt c.args.opened.archive.now given
    c.in-Some-rows.rows) (sym c.in-Some-rows.is) refl)

pub returns-in-None : goal.returns-in-None
returns-in-None g c =
    let o = c.args.opened in
    let Says = IsPlanWith (seen_words c.args.words.now) in
    subst (λ tracker. IfOk c.opening_planned.result (λ said. IfSome tracker (λ given.
    GivenSays Says o.archive.now o.rows (tracking given.now.tracker) (string_bytes said))))
    (sym c.in-Some.is)
    (subst (λ (rows : Option Table). IfOk c.opening_planned.result (λ said.
    GivenSays Says o.archive.now rows (tracking c.in-Some.given.now.tracker) (string_bytes said)))
    (sym c.in-None.is) c.opening_planned.ensures)

pub returns-in-Some-rows : goal.returns-in-Some-rows
returns-in-Some-rows g c =
    let o = c.args.opened in
    let Says = IsPlanWith (seen_words c.args.words.now) in
    subst (λ tracker. IfOk c.planned-said.result (λ said. IfSome tracker (λ given.
    GivenSays Says o.archive.now o.rows (tracking given.now.tracker) (string_bytes said))))
    (sym c.in-Some.is)
    (subst (λ (rows : Option Table). IfOk c.planned-said.result (λ said.
    GivenSays Says o.archive.now rows (tracking c.in-Some.given.now.tracker) (string_bytes said)))
    (sym c.in-Some-rows.is) c.planned-said.ensures)
