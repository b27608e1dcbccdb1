-- What the loop of `Plan::put_positions` keeps.
use Rattle.std.proofs.Common.{◌≡◌, ◌<◌, ◌++◌, ℕ, None, Some, drop, length, map, option_map, take}
use Rattle.std.proofs.Common.{string_bytes}
use Rattle.td_text.specs.Lines.{text_of}
use Rattle.td_rows.specs.Appending.{Grown}
use Rattle.td_waves.specs.Graph.{lists}
use Rattle.td_plan.specs.Lines.{Words}
use Rattle.td_plan.specs.Plan.{lines_from}
use Rattle.td_plan.specs.Premises.{Premises}
use Rattle.td_plan.specs.inner.Ordering.{AreMembers}
use Rattle.td_plan.specs.inner.Planned.{ArePositions, AreTexts, IsPlanOf, last_at, last_number}
use Rattle.td_plan.specs.inner.Planned.{placing_in, source_if, sources_at}
use Rattle.td_plan.proofs.plan.Plan.put_positions.Given as goal

-- the lines so far, and those to come
abbrev pub invariant-loop-position : goal.invariant-loop-position
invariant-loop-position l = record {
  front : Grown (string_bytes l.fn.out) (string_bytes l.out);
  last : ArePositions l.self.movers.items l.self.parts l.positions → l.last
      ≡ option_map (last_at l.self.parts) (last_number (take l.position-index l.positions));
  low : ArePositions l.self.movers.items l.self.parts l.positions → (n : ℕ)
      → last_number (take l.position-index l.positions) ≡ Some n
      → n < length l.self.movers.items;
  text : (w : Words) (p : Premises) → AreTexts w l.self l.texts → IsPlanOf p l.self
      → AreMembers l.self.parts.firsts.items (lists l.members)
      → ArePositions l.self.movers.items l.self.parts l.positions
      → string_bytes l.out ++ text_of (lines_from w (placing_in l.self) p
      (source_if l.self.movers.items (last_number (take l.position-index l.positions)))
      (sources_at l.self.movers.items (map (λ q. q.2) (drop l.position-index l.positions))))
      ≡ string_bytes l.fn.out ++ text_of (lines_from w (placing_in l.self) p
      None (sources_at l.self.movers.items (map (λ q. q.2) l.positions)));
}
