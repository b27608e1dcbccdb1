-- `World::claim`: its type's invariant.
use Rattle.std.proofs.Common.{◌≡◌, None, sym, subst, ◌∙◌}
use Rattle.td_core.specs.declared.step.Step.TheVariants.{Claim}
use Rattle.td_core.specs.declared.world.World.TheView.{view}
use Rattle.td_core.specs.Worlds.{WorldView, IsWorld}
use Rattle.td_core.specs.Steps.{refusal}
use Rattle.td_core.proofs.WorldSteps.{IsWorld-accepted}
use Rattle.td_core.proofs.world.World.claim.Goals as goal

pub invariant_of-self : goal.invariant_of-self
invariant_of-self c =
    let w : WorldView = view c.self.inside in
    let none = subst (λ (v : WorldView). refusal v (Claim c.args.builder c.args.key) ≡ None)
    (sym c.self.view_is) (sym c.claim_refusal.ensures ∙ c.in_default.is) in
    subst (λ (v : WorldView). IsWorld v)
    (λ j. record {
      history = w.history;
      supply = w.supply;
      phases = sym c.put_phase.ensures j;
      hands = sym c.put_hand.ensures j;
    })
    (IsWorld-accepted w (Claim c.args.builder c.args.key) c.self.invariant none)
