-- `FileDesk::held`: the hands that it looks into are those of the rows.
use Rattle.std.proofs.Common.{ap, subst, sym, ◌∙◌}
use Rattle.td_rows.specs.Table.{Table}
use Rattle.td_lasting.specs.DeskView.{DeskView}
use Rattle.td_lasting.specs.Hands.{AreInHand}
use Rattle.td_lasting.proofs.desk.FileDesk.held.Goals as goal

pub held-requires-clause-hands : goal.held-requires-clause-hands
held-requires-clause-hands g c =
    subst (λ (t : Table). AreInHand t c.self.inside.hands) (sym c.rows.ensures.rows)
    (c.self.invariant.in_hand (ap (λ (v : DeskView). v.stopped) c.self.view_is
    ∙ c.requires.running))
