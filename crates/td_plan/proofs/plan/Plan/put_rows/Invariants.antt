-- What the loop of `Plan::put_rows` keeps.
use Rattle.std.proofs.Common.{◌≡◌, ◌++◌, take, string_bytes}
use Rattle.std.specs.List.{filter_map}
use Rattle.td_text.specs.Lines.{text_of}
use Rattle.td_rows.specs.Appending.{Grown}
use Rattle.td_plan.specs.Plan.{left_of}
use Rattle.td_plan.specs.Premises.{Premises}
use Rattle.td_plan.specs.inner.Planned.{AreNumbers, IsPlanOf}
use Rattle.td_plan.proofs.plan.Plan.put_rows.Given as goal

-- the comments on the rows so far
abbrev pub invariant-loop-number : goal.invariant-loop-number
invariant-loop-number l = record {
  front : Grown (string_bytes l.fn.out) (string_bytes l.out);
  text : (p : Premises) → IsPlanOf p l.self → AreNumbers l.self.movers.items l.numbers
      → string_bytes l.out
      ≡ string_bytes l.fn.out ++ text_of (filter_map (left_of p) (take l.number p.rows));
}
