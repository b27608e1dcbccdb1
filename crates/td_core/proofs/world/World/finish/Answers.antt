-- `World::finish`: the clause `ok` and its type's invariant.
use Rattle.std.proofs.Common.{◌≡◌, ◌-◌, List, Some, None, set, set-set, ap, sym, subst, ◌∙◌}
use Rattle.td_rows.specs.declared.key.Key.{Key}
use Rattle.td_change.specs.Saved.{number_of}
use Rattle.td_core.specs.declared.step.Phase.TheVariants.{Done}
use Rattle.td_core.specs.declared.step.Hand.{Hand}
use Rattle.td_core.specs.declared.step.Hand.TheVariants.{Free, Holding, Finished}
use Rattle.td_core.specs.declared.step.Step.TheVariants.{Finish}
use Rattle.td_core.specs.declared.world.World.TheView.{view}
use Rattle.td_core.specs.Worlds.{WorldView, held_in, hand_of, IsWorld}
use Rattle.td_core.specs.Steps.{refusal}
use Rattle.td_core.proofs.Phases.{slice_get-hand_of}
use Rattle.td_core.proofs.WorldSteps.{finishes, after-finish, IsWorld-finished}
use Rattle.td_core.proofs.world.World.finish.Goals as goal
use Rattle.td_core.proofs.world.World.finish.Goals.{in-Some-take_held}
use Rattle.td_core.proofs.world.World.finish.Goals.{in_default-take_held+in-Waits-1}
use Rattle.td_core.proofs.world.World.finish.Goals.{in_default-take_held+in-Built-1}

pub invariant_of-self : goal.invariant_of-self
invariant_of-self c =
    let w : WorldView = view c.self.inside in
    let b = c.args.builder in
    let o = c.args.outcome in
    let none = subst (λ (v : WorldView). refusal v (Finish b o) ≡ None) (sym c.self.view_is)
    (sym c.finish_refusal.ensures ∙ c.in_default.is) in
    let f = finishes w b (hand_of w b) none in
    let held : c.take_held.result ≡ Some f.0 =
    c.take_held.ensures.key ∙ ap held_in (slice_get-hand_of w b (Holding f.0) f.1.0) in
    let same : c.in-Some-take_held.key ≡ f.0 = let is = sym c.in-Some-take_held.is ∙ held in cc in
    let phases : c.put_phase.new.phases.items
    ≡ set w.phases (number_of w.history.opening f.0) (Done b o) =
    c.put_phase.ensures ∙ (λ j.
    set w.phases (number_of w.history.opening (same j)) (Done b (c.in_ok-told.ensures j))) in
    let hands : c.put_hand.new.hands.items ≡ set w.hands (b - 1) (Finished f.0 o) =
    c.put_hand.ensures ∙ ap
    (λ (hs : List Hand). set hs (b - 1) (Finished c.in-Some-take_held.key o))
    c.in-Some-take_held.ensures.free
    ∙ set-set w.hands (b - 1) Free (Finished c.in-Some-take_held.key o)
    ∙ ap (λ (k : Key). set w.hands (b - 1) (Finished k o)) same in
    subst (λ (v : WorldView). IsWorld v)
    (λ j. record {
      history = w.history;
      supply = w.supply;
      phases = sym phases j;
      hands = sym hands j;
    }) (IsWorld-finished w b o f.0 c.self.invariant f.1.0 f.1.1)

pub returns-clause-ok : goal.returns-clause-ok
returns-clause-ok c =
    let w : WorldView = view c.self.inside in
    let b = c.args.builder in
    let o = c.args.outcome in
    let none = subst (λ (v : WorldView). refusal v (Finish b o) ≡ None) (sym c.self.view_is)
    (sym c.finish_refusal.ensures ∙ c.in_default.is) in
    let f = finishes w b (hand_of w b) none in
    let held : c.take_held.result ≡ Some f.0 =
    c.take_held.ensures.key ∙ ap held_in (slice_get-hand_of w b (Holding f.0) f.1.0) in
    elim c.match-take_held.branch [
      | in-Some-take_held x ↦
          let same : x.in-Some-take_held.key ≡ f.0 = let is = sym x.in-Some-take_held.is ∙ held in
          cc in
          let phases : x.put_phase.new.phases.items
          ≡ set w.phases (number_of w.history.opening f.0) (Done b o) =
          x.put_phase.ensures ∙ (λ j.
          set w.phases (number_of w.history.opening (same j)) (Done b (c.in_ok-told.ensures j))) in
          let hands : x.put_hand.new.hands.items ≡ set w.hands (b - 1) (Finished f.0 o) =
          x.put_hand.ensures ∙ ap
          (λ (hs : List Hand). set hs (b - 1) (Finished x.in-Some-take_held.key o))
          x.in-Some-take_held.ensures.free
          ∙ set-set w.hands (b - 1) Free (Finished x.in-Some-take_held.key o)
          ∙ ap (λ (k : Key). set w.hands (b - 1) (Finished k o)) same in
          x.self-is ∙ (λ j.
          record { history = w.history; supply = w.supply; phases = phases j; hands = hands j })
          ∙ after-finish w c.args.self.now b o f.0 c.self.view_is
          (sym c.finish_refusal.ensures ∙ c.in_default.is) f.1.0
      | in_default-take_held+in-Waits-1 x ↦
          absurd (let is = sym held ∙ x.in_default-take_held.is in cc)
      | in_default-take_held+in-Built-1 x ↦
          absurd (let is = sym held ∙ x.in_default-take_held.is in cc)
    ]
