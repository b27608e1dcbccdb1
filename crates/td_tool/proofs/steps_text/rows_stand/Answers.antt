-- `rows_stand`: what it answers.
use Rattle.td_tool.proofs.Ordered.{looked_at}
use Rattle.td_tool.proofs.steps_text.rows_stand.Goals as goal

pub returns : goal.returns
returns c =
    let of = c.in_ok-_none.ensures in
    looked_at c.args.archive.now c.args.given.now of.all
    (record { same = of.opened; rising = of.rising })
