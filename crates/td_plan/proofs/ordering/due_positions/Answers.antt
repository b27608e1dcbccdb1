-- `due_positions`: its loop, and what it answers.
use Rattle.std.proofs.Common.{◌∙◌, List, ap, arith, map}
use Rattle.std.proofs.lemmas.List.{take_all}
use Rattle.td_indices.specs.Archive.{places_from}
use Rattle.td_plan.specs.declared.movers.Mover.{Mover}
use Rattle.td_plan.specs.inner.Movers.{has_due_motion}
use Rattle.td_plan.specs.inner.Ordering.{position_of}
use Rattle.td_plan.proofs.Positions.{mapped-next}
use Rattle.td_plan.proofs.ordering.due_positions.Goals as goal

pub loop-number-preserved : goal.loop-number-preserved
loop-number-preserved c = λ sized.
    mapped-next (position_of c.args.parts.now) has_due_motion c.args.movers.now c.loop-number.number
    _ _ (omega arith) (c.loop-number.invariant sized) (c.in_ok-push_position.ensures sized)

pub returns : goal.returns
returns c = λ sized.
    let ms = c.args.movers.now in
    c.loop-number.invariant sized
    ∙ ap (λ (l : List Mover). map (position_of c.args.parts.now) (places_from has_due_motion 0 l))
    (take_all c.loop-number.number ms (omega arith))
