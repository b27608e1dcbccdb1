-- The rows that a command names and doesn't take, each with the reason. This project's own.
use Rattle.std.specs.Prelude.{Bool, true, ◌&&◌, not, List, Some, None, filter, map, if◌then◌else◌}
use Rattle.td_rows.specs.declared.key.Key.{Key}
use Rattle.td_rows.specs.declared.kind.Kind.{Kind}
use Rattle.td_rows.specs.declared.state.State.{State}
use Rattle.td_rows.specs.declared.state.State.TheVariants.{NeedsBuild}
use Rattle.td_rows.specs.Table.{Table, row_of, fits}
use Rattle.td_naming.specs.declared.skips.Skip.{Skip}
use Rattle.td_naming.specs.declared.skips.SkipReason.{SkipReason}
use Rattle.td_naming.specs.declared.skips.SkipReason.TheVariants as why

-- the state of the key's row
abbrev pub state_at : Table → Key → State
state_at t k = elim (row_of t k) [ Some row ↦ row.state | None ↦ NeedsBuild ]

-- the reason why a key is skipped: the version doesn't match, or else the kind doesn't apply to the
-- row, whose state it gives
abbrev pub skip_at : (Key → Bool) → Table → Key → Skip
skip_at matches t k =
    record { key = k; reason = if matches k then why.State (state_at t k) else why.Version }

-- a key isn't taken if its version doesn't match, or the kind doesn't apply on its row
abbrev pub is_skipped : (Key → Bool) → Table → Kind → Key → Bool
is_skipped matches t kind k = not (matches k && fits t kind k)

-- the named keys that aren't taken, in order, with their reasons
abbrev pub skips_of : (Key → Bool) → Kind → List Key → Table → List Skip
skips_of matches kind named t = map (skip_at matches t) (filter (is_skipped matches t kind) named)

-- ---- how they are found: every named key is noted beforehand, and those that are taken are left
-- out

-- a named key before the entry: whether its version matches
abbrev pub doubt : (Key → Bool) → Key → Skip
doubt matches k =
    record { key = k; reason = if matches k then why.State NeedsBuild else why.Version }

-- whether a doubt for this reason is left: where the version doesn't match in any case, else unless
-- the kind applies on the row
abbrev pub is_left_as : SkipReason → Bool → Bool
is_left_as why.Version fit = true
is_left_as (why.State s) fit = not fit

-- whether a doubt is left over the rows as they are now
abbrev pub is_left : Table → Kind → Skip → Bool
is_left t kind s = is_left_as s.reason (fits t kind s.key)

-- a reason with the row's state as it is now; the version stays one
abbrev pub reason_now : SkipReason → State → SkipReason
reason_now why.Version s = why.Version
reason_now (why.State old) s = why.State s

-- a doubt with the state that its row has now
abbrev pub renewed : Table → Skip → Skip
renewed t s = record { key = s.key; reason = reason_now s.reason (state_at t s.key) }

-- the doubts that are left, with the states that their rows have now
abbrev pub left_of : Kind → List Skip → Table → List Skip
left_of kind doubts t = map (renewed t) (filter (is_left t kind) doubts)
