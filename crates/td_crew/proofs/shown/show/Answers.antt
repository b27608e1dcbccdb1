-- What is shown is what a book of the desk shows.
use Rattle.std.proofs.Common.{option_map}
use Rattle.std.proofs.lemmas.Result.{IfOk-weaker}
use Rattle.td_desk.specs.Calls.{IsMetBy}
use Rattle.td_crew.specs.Replies.{shown_by}
use Rattle.td_crew.proofs.Replied.{shown_said}
use Rattle.td_crew.proofs.shown.show.Goals as goal

pub returns-clause-says : goal.returns-clause-says
returns-clause-says g c =
    let report = option_map (λ r. g.T.Reports.text r.now) c.args.lines.now.reports in
    IfOk-weaker c.shown.result _ _
    (λ refused put. shown_said (IsMetBy g.N.Named.table g.N.Named.origin g.N.Named.opened
    c.args.clerk.now.parts c.args.clerk.now.receipts) (λ h. shown_by report h c.args.view)
    c.show_as.result.answer _ _ c.args.clerk.now.receipts refused c.show_as.ensures.seen put)
    c.shown.ensures.ok
