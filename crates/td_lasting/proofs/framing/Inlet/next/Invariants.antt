-- `Inlet::next`: no line is told of yet, and all that was left is left.
use Rattle.std.proofs.Common.{◌≡◌, ◌<◌, length}
use Rattle.td_lasting.specs.inner.Inlets.{StillLeft, StillWaits}
use Rattle.td_lasting.proofs.framing.Inlet.next.Given as goal

abbrev pub invariant-loop : goal.invariant-loop
invariant-loop g l = record {
  left : StillLeft l.initial.self l.self (g.R.Turns.left l.initial.reader)
      (g.R.Turns.left l.reader);
  waits : StillWaits l.initial.self l.self (g.R.Turns.left l.initial.reader)
      (g.R.Turns.left l.reader);
  steady : g.R.Turns.may_fail l.reader ≡ g.R.Turns.may_fail l.initial.reader;
  room : 0 < length l.buffer;
}
