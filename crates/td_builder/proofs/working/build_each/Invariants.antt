-- What the loop of `build_each` keeps.
use Rattle.std.specs.Prelude.{◌≤◌, take}
use Rattle.td_builder.specs.Floors.{IsIdle}
use Rattle.td_builder.specs.Rounds.{AreAsked, Claims}
use Rattle.td_builder.specs.Turns.{Worked}
use Rattle.td_builder.proofs.working.build_each.Given as goal

abbrev pub invariant-loop-row : goal.invariant-loop-row
invariant-loop-row g l =
    Worked (g.F.Floor.jobs l.floor) (g.F.Floor.ends l.floor) g.B.Builds.goes_on l.built l.fn.seat
    l.fn.builds l.seat l.builds × (l.built ≤ l.most) × IsIdle l.seat
    × Claims (AreAsked (g.F.Floor.rows l.floor) (take l.row-index l.rows)) l.fn.seat l.seat
