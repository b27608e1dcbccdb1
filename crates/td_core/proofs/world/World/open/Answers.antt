-- `World::open`: its type's invariant.
use Rattle.std.proofs.Common.{replicate, ap, sym, subst, ◌∙◌}
use Rattle.td_core.specs.declared.step.Phase.TheVariants.{Closed}
use Rattle.td_supply.specs.Supply.{stock_of}
use Rattle.td_core.specs.Worlds.{WorldView, IsWorld}
use Rattle.td_core.proofs.WorldSteps.{IsWorld-open}
use Rattle.td_core.proofs.world.World.open.Goals as goal

pub invariant_of-result : goal.invariant_of-result
invariant_of-result c =
    let phases = c.in_ok-phases.ensures ∙ ap (λ n. replicate n Closed) c.len.ensures.len in
    subst (λ (w : WorldView). IsWorld w)
    (λ j. record {
      history = sym c.in_ok-kept.ensures.history j;
      supply = sym c.in_ok-kept.ensures.stock j;
      phases = sym phases j;
      hands = sym c.in_ok-hands.ensures j;
    })
    (IsWorld-open c.args.rows (stock_of c.args.supply) c.args.builders c.len.ensures.rising
    c.requires.idle)
