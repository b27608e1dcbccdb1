-- The order of a plan's lines, by the numbers of the affected sources.
use Rattle.std.specs.Prelude.{◌≡◌, ◌<◌, ℕ, ◌==◌, List, length, map, slice_index}
use Rattle.std.specs.Ordering.{nat_cmp, ordering_then}
use Rattle.std.specs.declared.cmp.Ordering.{Ordering}
use Rattle.td_indices.specs.Archive.{places_from}
use Rattle.td_waves.specs.Graph.{bases_of}
use Rattle.td_plan.specs.declared.movers.Mover.{Mover}
use Rattle.td_plan.specs.declared.parts.Parts.{Parts}
use Rattle.td_plan.specs.inner.Movers.{has_due_motion}

-- the parts of this many sources
pub record ArePartsOf (count : ℕ) (parts : Parts) : Type 0 where
  pub firsts : length parts.firsts.items ≡ count
  pub steps : length parts.steps.items ≡ count

-- ---- 1. positions

-- the position of a source: its step, the first source of its part, and its number
abbrev pub position_of : Parts → ℕ → ℕ × ℕ × ℕ
position_of parts number =
    (slice_index parts.steps.items number, slice_index parts.firsts.items number, number)

-- the sources with a due row, by their numbers
abbrev pub due_numbers : List Mover → List ℕ
due_numbers ms = places_from has_due_motion 0 ms

-- the positions of the sources with a due row
abbrev pub due_positions : Parts → List Mover → List (ℕ × ℕ × ℕ)
due_positions parts ms = map (position_of parts) (due_numbers ms)

-- the order of positions: by the step, then by the first source of the part, then by the number
abbrev pub position_cmp : ℕ × ℕ × ℕ → ℕ × ℕ × ℕ → Ordering
position_cmp x y =
    ordering_then (nat_cmp x.0 y.0) (ordering_then (nat_cmp x.1 y.1) (nat_cmp x.2 y.2))

-- ---- 2. the sources of a part

-- the sources whose part has this first source, by their numbers
abbrev pub members_at : List ℕ → ℕ → List ℕ
members_at firsts first = places_from (λ f. f == first) 0 firsts

-- for each source, the members of the part that it is the first of
pub record AreMembers (firsts : List ℕ) (members : List (List ℕ)) : Type 0 where
  pub len : length members ≡ length firsts
  pub at : (first : ℕ) → first < length firsts → bases_of members first ≡ members_at firsts first
