-- `World::settle`: the call of `append` and its type's invariant.
use Rattle.std.proofs.Common.{◌≡◌, List, [], ◌∷◌, Some, set, ap, refl, sym, subst, ◌∙◌}
use Rattle.td_rows.specs.declared.key.Key.{Key}
use Rattle.td_rows.specs.declared.kind.Kind.TheVariants.{Outcome as Ended}
use Rattle.td_rows.specs.Table.{AppliesOn}
use Rattle.td_change.specs.Saved.{number_of}
use Rattle.td_core.specs.declared.step.Phase.TheVariants.{Closed, Done}
use Rattle.td_core.specs.declared.world.World.TheView.{view}
use Rattle.td_core.specs.History.{History, rows_of, with_entry}
use Rattle.td_core.specs.Worlds.{WorldView, phase_of, IsWorld}
use Rattle.td_core.proofs.WorldSteps.{IsWorld-settled}
use Rattle.td_core.proofs.world.World.settle.Goals as goal

pub append-requires : goal.append-requires
append-requires c =
    let w : WorldView = view c.self.inside in
    let b = c.in-Some-Done.builder in
    let o = c.in-Some-Done.outcome in
    let phase : phase_of w c.args.key.now ≡ Some (Done b o) =
    ap (λ (v : WorldView). phase_of v c.args.key.now) c.self.view_is ∙ sym c.in-Some-Done.ensures
    ∙ ap (λ p. Some p) c.in-Some-Done.field-0-is in
    let applies = (IsWorld-settled w c.args.key.now b o c.self.invariant phase).0 in
    record {
      applies = subst
          (λ (ks : List Key). AppliesOn (rows_of w.history)
          (Ended b c.in_ok-copy-in-Some-Done.field-0) ks) (sym c.in_ok-keys.ensures)
          (subst (λ x. AppliesOn (rows_of w.history) (Ended b x) (c.args.key.now ∷ []))
          (sym c.in_ok-copy-in-Some-Done.ensures) applies);
      other = refl;
    }

pub invariant_of-self-2 : goal.invariant_of-self-2
invariant_of-self-2 c =
    let w : WorldView = view c.self.inside in
    let b = c.in-Some-Done.builder in
    let o = c.in-Some-Done.outcome in
    let phase : phase_of w c.args.key.now ≡ Some (Done b o) =
    ap (λ (v : WorldView). phase_of v c.args.key.now) c.self.view_is ∙ sym c.in-Some-Done.ensures
    ∙ ap (λ p. Some p) c.in-Some-Done.field-0-is in
    let history : c.append.new.self.history
    ≡ with_entry w.history (record { kind = Ended b o; keys = c.args.key.now ∷ [] }) =
    c.in_ok-n.ensures.ok.history ∙ (λ j.
    with_entry w.history (record {
      kind = Ended b (c.in_ok-copy-in-Some-Done.ensures j);
      keys = c.in_ok-keys.ensures j;
    })) in
    let phases = c.put_phase.ensures
    ∙ ap (λ (h : History). set w.phases (number_of h.opening c.args.key.now) Closed) history in
    subst (λ (v : WorldView). IsWorld v)
    (λ j. record {
      history = sym history j;
      supply = sym c.append.ensures.stock j;
      phases = sym phases j;
      hands = w.hands;
    })
    (IsWorld-settled w c.args.key.now b o c.self.invariant phase).1
