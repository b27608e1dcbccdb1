-- The rows that wait for a builder, and their order. This project's own.
use Rattle.std.specs.Prelude.{ℕ, ℤ, pos, Bool, false, List, Some, None, filter, length, slice_get}
use Rattle.std.specs.List.{list_any, range_with_len}
use Rattle.std.specs.List.Sorted.{IsPermutation, IsSortedBy}
use Rattle.std.specs.Ordering.{is_lt, int_cmp, nat_cmp, ordering_then}
use Rattle.td_rows.specs.States.{is_queued}
use Rattle.td_rows.specs.Table.{Table}

-- whether the row with a number needs a build
abbrev pub is_queued_no : Table → ℕ → Bool
is_queued_no t i = elim (slice_get t i) [ Some p ↦ is_queued p.1.state | None ↦ false ]

-- whether any row needs a build
abbrev pub is_any_queued : Table → Bool
is_any_queued t = list_any (λ p. is_queued p.1.state) t

-- the numbers of the rows that need a build, from the first
abbrev pub queued_in : Table → List ℕ
queued_in t = filter (is_queued_no t) (range_with_len 0 (length t))

-- the priority of the row with a number
abbrev pub priority_of : Table → ℕ → ℤ
priority_of t i = elim (slice_get t i) [ Some p ↦ p.1.priority | None ↦ pos 0 ]

-- whether a row is to be built before another: the greater priority first, and of equal ones the
-- smaller number, which goes by the key
abbrev pub is_before : Table → ℕ → ℕ → Bool
is_before t i j = is_lt (ordering_then (int_cmp (priority_of t j) (priority_of t i)) (nat_cmp i j))

-- the rows that need a build, each once, in this order
pub record IsReady (t : Table) (numbers : List ℕ) : Type 0 where
  pub all : IsPermutation (queued_in t) numbers
  pub order : IsSortedBy (is_before t) numbers
