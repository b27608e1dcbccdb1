-- A planned change: the rows that are left to it. This project's own.
use Rattle.std.specs.Prelude.{ℕ, List, [], ◌∷◌, map, if◌then◌else◌}
use Rattle.td_rows.specs.declared.key.Key.{Key}
use Rattle.td_rows.specs.declared.kind.Kind.{Kind}
use Rattle.td_rows.specs.Keys.{same_key}
use Rattle.td_rows.specs.Table.{Table}
use Rattle.td_change.specs.Saved.{number_of}

-- a kind, and the keys that are left to it with the numbers of their rows
pub record Planned : Type 0 where
  pub kind : Kind
  pub rows : List (Key × ℕ)

-- the plan of the kind on the keys, over rows of which only the numbers count
abbrev pub plan_of : Kind → List Key → Table → Planned
plan_of kind keys t = record { kind = kind; rows = map (λ k. (k, number_of t k)) keys }

-- the keys of a plan that are left
abbrev pub left : Planned → List Key
left plan = map (λ p. p.0) plan.rows

-- the keys without the first that is this one
abbrev pub without : Key → List Key → List Key
without k [] = []
without k (q ∷ keys) = if same_key k q then keys else q ∷ without k keys

-- the rows of a plan without the first of this key
abbrev pub without_row : Key → List (Key × ℕ) → List (Key × ℕ)
without_row k [] = []
without_row k (p ∷ rows) = if same_key k p.0 then rows else p ∷ without_row k rows

-- the plan from which a key is left out
abbrev pub left_out : Key → Planned → Planned
left_out k plan = record plan { rows = without_row k plan.rows }
