-- `opened_details`: what it answers.
use Rattle.std.proofs.Common.{IfOk, IfSome, string_bytes, subst, sym}
use Rattle.std.proofs.lemmas.Result.{IfOk-weaker}
use Rattle.td_query.specs.Tracking.{tracking}
use Rattle.td_tool.specs.TrackInside.{GivenSays}
use Rattle.td_tool.specs.Tracks.{details_says}
use Rattle.td_tool.proofs.Told.{looked_at_says}
use Rattle.td_tool.proofs.details_text.opened_details.Goals as goal

pub returns : goal.returns
returns c =
    let o = c.args.opened in
    let looked = c.in_ok-rows_stand.ensures in
    subst (λ tracker. IfOk c.detailed-said.result (λ said. IfSome tracker (λ given.
    GivenSays (details_says c.args.cut) o.archive.now o.rows (tracking given.now.tracker)
    (string_bytes said))))
    (sym c.in-Some.is)
    (IfOk-weaker c.detailed-said.result _ _
    (λ said is. looked_at_says (details_says c.args.cut) o.archive.now o.rows looked.0
    (tracking c.in-Some.given.now.tracker) (string_bytes said) looked.1 is)
    c.detailed-said.ensures)
