-- `World::undo`: the call of `undo` and its type's invariant.
use Rattle.std.proofs.Common.{◌≡◌, ℕ, None, sym, subst, ◌∙◌}
use Rattle.td_core.specs.declared.step.Step.TheVariants.{Undo}
use Rattle.td_core.specs.declared.world.World.TheView.{view}
use Rattle.td_core.specs.Worlds.{WorldView, IsWorld}
use Rattle.td_core.specs.Steps.{refusal}
use Rattle.td_core.proofs.Refusing.{Undoes, undoes}
use Rattle.td_core.proofs.Worlds.{IsWorld-undo}
use Rattle.td_core.proofs.world.World.undo.Goals as goal

-- what the tests say of the world that is kept
tested : (v w : WorldView) (n : ℕ) → v ≡ w → refusal w (Undo n) ≡ None → Undoes v n
tested v w n same none =
    undoes v n (subst (λ (x : WorldView). refusal x (Undo n) ≡ None) (sym same) none)

pub undo-requires-clause-stands : goal.undo-requires-clause-stands
undo-requires-clause-stands c =
    (tested _ c.args.self.now c.args.n c.self.view_is
    (sym c.undo_refusal.ensures ∙ c.in_default.is)).stands

pub undo-requires-clause-free : goal.undo-requires-clause-free
undo-requires-clause-free c =
    (tested _ c.args.self.now c.args.n c.self.view_is
    (sym c.undo_refusal.ensures ∙ c.in_default.is)).free

pub invariant_of-self : goal.invariant_of-self
invariant_of-self c =
    let w : WorldView = view c.self.inside in
    let u = tested w c.args.self.now c.args.n c.self.view_is
    (sym c.undo_refusal.ensures ∙ c.in_default.is) in
    subst (λ (v : WorldView). IsWorld v)
    (λ j. record w { history = sym c.undo.ensures.history j; supply = sym c.undo.ensures.stock j })
    (IsWorld-undo w c.args.n c.self.invariant u)
