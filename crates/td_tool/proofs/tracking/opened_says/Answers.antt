-- `opened_says`: what it answers.
use Rattle.std.proofs.Common.{IfOk, IfSome, string_bytes, subst, sym}
use Rattle.td_query.specs.Tracking.{tracking}
use Rattle.td_tool.specs.TrackInside.{GivenSays, saying_of}
use Rattle.td_tool.proofs.tracking.opened_says.Goals as goal

pub returns-in-Listed : goal.returns-in-Listed
returns-in-Listed g c =
    let o = c.args.opened in
    subst (λ a. IfOk c.opened_list.result (λ said. IfSome o.tracker (λ given.
    GivenSays (saying_of a) o.archive.now o.rows (tracking given.now.tracker)
    (string_bytes said)))) (sym c.in-Listed.is) c.opened_list.ensures

pub returns-in-Planned : goal.returns-in-Planned
returns-in-Planned g c =
    let o = c.args.opened in
    subst (λ a. IfOk c.opened_plan.result (λ said. IfSome o.tracker (λ given.
    GivenSays (saying_of a) o.archive.now o.rows (tracking given.now.tracker)
    (string_bytes said)))) (sym c.in-Planned.is) c.opened_plan.ensures

pub returns-in-Detailed : goal.returns-in-Detailed
returns-in-Detailed g c =
    let o = c.args.opened in
    subst (λ a. IfOk c.opened_details.result (λ said. IfSome o.tracker (λ given.
    GivenSays (saying_of a) o.archive.now o.rows (tracking given.now.tracker)
    (string_bytes said)))) (sym c.in-Detailed.is) c.opened_details.ensures

pub returns-in-Ordered : goal.returns-in-Ordered
returns-in-Ordered g c =
    let o = c.args.opened in
    subst (λ a. IfOk c.opened_order.result (λ said. IfSome o.tracker (λ given.
    GivenSays (saying_of a) o.archive.now o.rows (tracking given.now.tracker)
    (string_bytes said)))) (sym c.in-Ordered.is) c.opened_order.ensures
