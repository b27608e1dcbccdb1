-- `World::phase`: what it answers.
use Rattle.std.proofs.Common.{List, slice_get, ap, sym, subst, ◌∙◌}
use Rattle.std.specs.Option.{option_copied}
use Rattle.td_rows.specs.Table.{Table, IsAt, row_of}
use Rattle.td_core.specs.declared.step.Phase.{Phase}
use Rattle.td_core.specs.declared.world.World.TheView.{view}
use Rattle.td_core.specs.Worlds.{WorldView, phase_of}
use Rattle.td_core.proofs.Phases.{number_of-IsAt, phase_of-absent, copied-at}
use Rattle.td_core.proofs.world.World.phase.Goals as goal

pub returns : goal.returns
returns c =
    let h = c.self.inside.kept.history in
    let at = subst (λ (t : Table). IsAt t c.args.key.now c.in_ok-number.field-0) c.rows.ensures.rows
    c.in_ok-number.ensures.found in
    copied-at c.deref.result.now c.in_ok-number.field-0 c.get.result c.get.ensures.lookup.1
    c.get.ensures.lookup.3
    ∙ ap (λ (ps : List Phase). slice_get ps c.in_ok-number.field-0) c.deref.ensures.value
    ∙ ap (slice_get c.self.inside.phases.items)
    (number_of-IsAt h c.args.key.now c.in_ok-number.field-0 c.self.invariant.rising at)
    ∙ ap (λ (w : WorldView). phase_of w c.args.key.now) c.self.view_is

pub returns-in_err-number : goal.returns-in_err-number
returns-in_err-number c =
    let w : WorldView = view c.self.inside in
    let none = ap (λ (t : Table). row_of t c.args.key.now) (sym c.rows.ensures.rows)
    ∙ c.in_err-number.ensures.absent in
    ap option_copied c.from_residual.ensures
    ∙ sym (phase_of-absent w c.args.key.now c.self.invariant none)
    ∙ ap (λ (v : WorldView). phase_of v c.args.key.now) c.self.view_is
