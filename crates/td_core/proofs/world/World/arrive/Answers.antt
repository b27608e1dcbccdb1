-- `World::arrive`: its type's invariant.
use Rattle.std.proofs.Common.{◌≡◌, Some, true, ap, sym, subst, ◌∙◌}
use Rattle.td_rows.specs.declared.kind.Kind.TheVariants.{Arrive}
use Rattle.td_rows.specs.Meaning.{applies}
use Rattle.td_rows.specs.Table.{Table, row_of}
use Rattle.td_core.specs.declared.world.World.TheView.{view}
use Rattle.td_core.specs.History.{rows_of}
use Rattle.td_core.specs.Worlds.{WorldView, IsWorld}
use Rattle.td_core.proofs.WorldSteps.{IsWorld-arrived}
use Rattle.td_core.proofs.world.World.arrive.Goals as goal

pub invariant_of-self-2 : goal.invariant_of-self-2
invariant_of-self-2 c =
    let w : WorldView = view c.self.inside in
    let k = c.args.key in
    let row = c.in-Some.row.now in
    let found : row_of (rows_of w.history) k ≡ Some row =
    ap (λ (t : Table). row_of t k) (sym c.rows.ensures.rows) ∙ sym c.in-Some.ensures in
    let fit : applies Arrive row ≡ true = sym c.applies.ensures ∙ c.if-not-applies.false in
    subst (λ (v : WorldView). IsWorld v)
    (λ j. record w {
      history = sym c.in_ok-arrive.ensures.ok.history j;
      supply = sym c.arrive.ensures.stock j;
    }) (IsWorld-arrived w k row c.self.invariant found fit).1
