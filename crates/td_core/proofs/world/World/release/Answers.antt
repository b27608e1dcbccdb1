-- `World::release`: its type's invariant.
use Rattle.std.proofs.Common.{◌≡◌, List, None, sym, subst, ◌∙◌}
use Rattle.td_core.specs.declared.step.Hand.{Hand}
use Rattle.td_core.specs.declared.step.Step.TheVariants.{Release}
use Rattle.td_core.specs.declared.world.World.TheView.{view}
use Rattle.td_core.specs.Worlds.{WorldView, IsWorld}
use Rattle.td_core.specs.Steps.{refusal}
use Rattle.td_core.proofs.WorldSteps.{IsWorld-accepted}
use Rattle.td_core.proofs.world.World.release.Goals as goal

pub invariant_of-self : goal.invariant_of-self
invariant_of-self c =
    let w : WorldView = view c.self.inside in
    let none = subst (λ (v : WorldView). refusal v (Release c.args.builder) ≡ None)
    (sym c.self.view_is) (sym c.release_refusal.ensures ∙ c.in_default.is) in
    subst (λ (hs : List Hand). IsWorld (record w { hands = hs })) (sym c.put_hand.ensures)
    (IsWorld-accepted w (Release c.args.builder) c.self.invariant none)
