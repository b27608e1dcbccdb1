-- The rows that need a build, in the order in which they are to be built. This project's own.
use Rattle.std.specs.Prelude.{◌≡◌, ℕ, Bool, true, ◌&&◌, List, [], ◌∷◌, Option, Some, None, filter}
use Rattle.std.specs.Prelude.{codes, if◌then◌else◌, is_some}
use Rattle.std.specs.List.Sorted.{IsPermutation, IsSortedBy}
use Rattle.std.specs.Ordering.{int_cmp, is_lt, ordering_then}
use Rattle.std.specs.Str.{bytes_eq}
use Rattle.td_relation.specs.Arch.{ArchWords}
use Rattle.td_relation.specs.Table.{place_of}
use Rattle.td_rows.specs.declared.key.Key.{Key}
use Rattle.td_rows.specs.declared.row.Row.{Row}
use Rattle.td_rows.specs.Keys.{ascending, key_cmp}
use Rattle.td_rows.specs.States.{is_queued}
use Rattle.td_rows.specs.StateWriting.{state_text}
use Rattle.td_rows.specs.Table.{Table, keys_of}

-- the rows that need a build, in the order of their keys
abbrev pub queued : Table → Table
queued t = filter (λ p. is_queued p.1.state) t

-- those of them on an architecture, if one is named
abbrev pub queued_on : Option (List ℕ) → Table → Table
queued_on None t = queued t
queued_on (Some arch) t = filter (λ p. bytes_eq p.0.arch arch) (queued t)

-- whether a row is one of them
abbrev pub is_ready_on : Option (List ℕ) → Key × Row → Bool
is_ready_on None p = is_queued p.1.state
is_ready_on (Some arch) p = bytes_eq p.0.arch arch && is_queued p.1.state

-- a row among rows that are ordered: before the first whose priority isn't greater
abbrev pub placed : Key × Row → Table → Table
placed p [] = p ∷ []
placed p (q ∷ t) =
    if is_lt (int_cmp p.1.priority q.1.priority) then q ∷ placed p t else p ∷ q ∷ t

-- greater priority first; rows of one priority stay in their order
abbrev pub by_priority : Table → Table
by_priority [] = []
by_priority (p ∷ t) = placed p (by_priority t)

-- whether a row is to be built before another: the greater priority first, and of equal ones the
-- lower key
abbrev pub is_first : Key × Row → Key × Row → Bool
is_first p q =
    is_lt (ordering_then (int_cmp q.1.priority p.1.priority) (key_cmp p.0 q.0))

-- whether an architecture is one of the table; so it is where none is named
abbrev pub is_known : List ArchWords → Option (List ℕ) → Bool
is_known table None = true
is_known table (Some arch) = is_some (place_of table arch)

-- the lines of these rows, if there are any
abbrev pub queued_text : Table → List ℕ
queued_text [] = codes "nothing to build\n"
queued_text (p ∷ t) = state_text (p ∷ t)

-- of rows in the order of their keys, these are all of them, in that order
abbrev pub PrioritiesDecide : Type 0
PrioritiesDecide = (t : Table) → ascending (keys_of t) ≡ true
    → IsPermutation t (by_priority t) × IsSortedBy is_first (by_priority t)
