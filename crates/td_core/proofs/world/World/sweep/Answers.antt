-- `World::sweep`: the calls of `new` and `append` and its type's invariant.
use Rattle.std.proofs.Common.{◌<◌, List, length, ap, sym, subst, ◌∙◌, rules}
use Rattle.td_rows.specs.declared.key.Key.{Key}
use Rattle.td_rows.specs.declared.kind.Kind.TheVariants.{Sweep}
use Rattle.td_rows.specs.Keys.{ascending}
use Rattle.td_rows.specs.Table.{AppliesOn}
use Rattle.td_core.specs.declared.world.World.TheView.{view}
use Rattle.td_core.specs.History.{rows_of, with_entry}
use Rattle.td_core.specs.Worlds.{WorldView, IsWorld}
use Rattle.td_core.specs.Steps.{swept_now}
use Rattle.td_core.proofs.WorldSteps.{IsWorld-swept, AppliesOn-swept_now, rising-swept_now}
use Rattle.td_core.proofs.world.World.sweep.Goals as goal

pub new-keys-requires-clause-rising : goal.new-keys-requires-clause-rising
new-keys-requires-clause-rising c =
    let w : WorldView = view c.self.inside in
    ap ascending c.in_ok-keys.ensures ∙ rising-swept_now w c.self.invariant

pub append-requires-clause-applies : goal.append-requires-clause-applies
append-requires-clause-applies c =
    let w : WorldView = view c.self.inside in
    subst (λ (ks : List Key). AppliesOn (rows_of w.history) Sweep ks)
    (sym (c.new-keys.ensures ∙ c.in_ok-keys.ensures)) (AppliesOn-swept_now w c.self.invariant)

pub invariant_of-self-2 : goal.invariant_of-self-2
invariant_of-self-2 c =
    let w : WorldView = view c.self.inside in
    let some : 0 < length c.in_ok-keys.keys.items = search rules in
    let history = c.in_ok-append.ensures.ok.history
    ∙ ap (λ (ks : List Key). with_entry w.history (record { kind = Sweep; keys = ks }))
    (c.new-keys.ensures ∙ c.in_ok-keys.ensures) in
    subst (λ (v : WorldView). IsWorld v)
    (λ j. record w { history = sym history j; supply = sym c.append.ensures.stock j })
    (IsWorld-swept w (swept_now w) c.self.invariant
    (record {
      rising = rising-swept_now w c.self.invariant;
      some = subst (λ (ks : List Key). 0 < length ks) c.in_ok-keys.ensures some;
    }) (AppliesOn-swept_now w c.self.invariant))
