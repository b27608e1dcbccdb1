-- `World::offer`: its type's invariant.
use Rattle.std.proofs.Common.{◌≡◌, List, None, sym, subst, ◌∙◌}
use Rattle.td_core.specs.declared.step.Phase.{Phase}
use Rattle.td_core.specs.declared.step.Step.TheVariants.{Offer}
use Rattle.td_core.specs.declared.world.World.TheView.{view}
use Rattle.td_core.specs.Worlds.{WorldView, IsWorld}
use Rattle.td_core.specs.Steps.{refusal}
use Rattle.td_core.proofs.WorldSteps.{IsWorld-accepted}
use Rattle.td_core.proofs.world.World.offer.Goals as goal

pub invariant_of-self : goal.invariant_of-self
invariant_of-self c =
    let w : WorldView = view c.self.inside in
    let none = subst (λ (v : WorldView). refusal v (Offer c.args.key.now) ≡ None)
    (sym c.self.view_is) (sym c.offer_refusal.ensures ∙ c.in_default.is) in
    subst (λ (ps : List Phase). IsWorld (record w { phases = ps })) (sym c.put_phase.ensures)
    (IsWorld-accepted w (Offer c.args.key.now) c.self.invariant none)
