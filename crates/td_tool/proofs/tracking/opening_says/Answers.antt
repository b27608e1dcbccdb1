-- `opening_says`: what it answers.
use Rattle.td_query.specs.Tracking.{tracking}
use Rattle.td_tool.proofs.Told.{opening_is_said}
use Rattle.td_tool.proofs.tracking.opening_says.Goals as goal

pub returns : goal.returns
returns g c =
    opening_is_said c.args.listing c.in_ok-transition.transition c.args.archive.now
    (tracking c.args.tracker.now) c.in_ok-transition.rows c.listed.result
    c.in_ok-transition.ensures.archive c.in_ok-transition.ensures.tracking
    c.in_ok-transition.ensures.rows c.listed.ensures
