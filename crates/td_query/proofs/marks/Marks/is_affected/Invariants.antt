-- What the loop of `Marks::is_affected` keeps.
use Rattle.std.proofs.Common.{◌≡◌, false}
use Rattle.std.specs.Prelude.{is_some}
use Rattle.std.specs.List.{list_any, range_with_len}
use Rattle.td_query.specs.Marks.{AreMarks}
use Rattle.td_query.specs.Statuses.{status_at}
use Rattle.td_query.specs.Tracking.{Tracking}
use Rattle.td_query.proofs.marks.Marks.is_affected.Given as goal

-- no row so far is affected
abbrev pub invariant-loop-place : goal.invariant-loop-place
invariant-loop-place l = (t : Tracking) → AreMarks l.archive t l.self
    → list_any (λ place. is_some (status_at l.archive t l.source place)) (range_with_len 0 l.place)
    ≡ false
