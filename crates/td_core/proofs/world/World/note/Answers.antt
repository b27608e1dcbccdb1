-- `World::note`: the call of `append` and its type's invariant.
use Rattle.std.proofs.Common.{◌≡◌, List, [], ◌∷◌, Some, set, ap, refl, sym, subst, ◌∙◌}
use Rattle.td_rows.specs.declared.key.Key.{Key}
use Rattle.td_rows.specs.declared.kind.Kind.TheVariants.{Claim}
use Rattle.td_rows.specs.Table.{AppliesOn}
use Rattle.td_change.specs.Saved.{number_of}
use Rattle.td_core.specs.declared.step.Phase.TheVariants.{Held, Noted}
use Rattle.td_core.specs.declared.world.World.TheView.{view}
use Rattle.td_core.specs.History.{History, rows_of, with_entry}
use Rattle.td_core.specs.Worlds.{WorldView, phase_of, IsWorld}
use Rattle.td_core.proofs.WorldSteps.{IsWorld-noted}
use Rattle.td_core.proofs.world.World.note.Goals as goal

pub append-requires : goal.append-requires
append-requires c =
    let w : WorldView = view c.self.inside in
    let b = c.in-Some-Held.builder in
    let phase : phase_of w c.args.key.now ≡ Some (Held b) =
    ap (λ (v : WorldView). phase_of v c.args.key.now) c.self.view_is ∙ sym c.in-Some-Held.ensures
    ∙ ap (λ p. Some p) c.in-Some-Held.field-0-is in
    record {
      applies = subst (λ (ks : List Key). AppliesOn (rows_of w.history) (Claim b) ks)
          (sym c.in_ok-keys.ensures) (IsWorld-noted w c.args.key.now b c.self.invariant phase).0;
      other = refl;
    }

pub invariant_of-self-2 : goal.invariant_of-self-2
invariant_of-self-2 c =
    let w : WorldView = view c.self.inside in
    let b = c.in-Some-Held.builder in
    let phase : phase_of w c.args.key.now ≡ Some (Held b) =
    ap (λ (v : WorldView). phase_of v c.args.key.now) c.self.view_is ∙ sym c.in-Some-Held.ensures
    ∙ ap (λ p. Some p) c.in-Some-Held.field-0-is in
    let history : c.append.new.self.history
    ≡ with_entry w.history (record { kind = Claim b; keys = c.args.key.now ∷ [] }) =
    c.in_ok-n.ensures.ok.history ∙ ap
    (λ (ks : List Key). with_entry w.history (record { kind = Claim b; keys = ks }))
    c.in_ok-keys.ensures in
    let phases = c.put_phase.ensures
    ∙ ap (λ (h : History). set w.phases (number_of h.opening c.args.key.now) (Noted b)) history in
    subst (λ (v : WorldView). IsWorld v)
    (λ j. record {
      history = sym history j;
      supply = sym c.append.ensures.stock j;
      phases = sym phases j;
      hands = w.hands;
    })
    (IsWorld-noted w c.args.key.now b c.self.invariant phase).1
