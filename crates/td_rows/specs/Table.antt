-- Rows as a finite map: the list of its entries, in the order of the keys. This project's own.
use Rattle.std.specs.Prelude.{◌≡◌, ℕ, zero, suc, ◌≤◌, Bool, true, false, List, [], ◌∷◌, map, length}
use Rattle.std.specs.Prelude.{slice_get, Option, Some, None, if◌then◌else◌}
use Rattle.td_rows.specs.Limits.{max_rows}
use Rattle.td_rows.specs.declared.key.Key.{Key}
use Rattle.td_rows.specs.declared.row.Row.{Row}
use Rattle.td_rows.specs.declared.kind.Kind.{Kind}
use Rattle.td_rows.specs.Keys.{same_key, names, ascending}
use Rattle.td_rows.specs.Meaning.{means, applies}

-- keys with their rows
abbrev pub Table : Type 0
Table = List (Key × Row)

-- the row of a key
abbrev pub row_of : Table → Key → Option Row
row_of [] k = None
row_of (p ∷ t) k = if same_key k p.0 then Some p.1 else row_of t k

-- the keys that have a row
abbrev pub keys_of : Table → List Key
keys_of t = map (λ p. p.0) t

-- what holds of every table of `Rows`
pub record IsTable (t : Table) : Type 0 where
  pub rising : ascending (keys_of t) ≡ true
  pub limited : length t ≤ max_rows

-- each row changed by f, which sees its key
abbrev pub each_row : (Key → Row → Row) → Table → Table
each_row f [] = []
each_row f (p ∷ t) = (p.0, f p.0 p.1) ∷ each_row f t

-- f where the row's key is k
abbrev pub at_key : Key → (Row → Row) → Key → Row → Row
at_key k f q row = if same_key q k then f row else row

-- the kind's meaning where the keys name the row
abbrev pub meant : Kind → List Key → Key → Row → Row
meant kind keys k row = if names keys k then means kind row else row

-- the rows after an entry of the kind on the keys
abbrev pub applied : Kind → List Key → Table → Table
applied kind keys t = each_row (meant kind keys) t

-- whether the key has a row and the kind applies on it
abbrev pub fits : Table → Kind → Key → Bool
fits t kind k = elim (row_of t k) [ Some row ↦ applies kind row | None ↦ false ]

-- the kind applies on each of the keys
abbrev pub AppliesOn : Table → Kind → List Key → Type 0
AppliesOn t kind keys = (k : Key) → names keys k ≡ true → fits t kind k ≡ true

-- the key's row is the one with this number, counted from 0
pub record IsAt (t : Table) (k : Key) (number : ℕ) : Type 0 where
  pub row : Row
  pub at : slice_get t number ≡ Some (k, row)

-- the rows, of which the one with this number is changed by f
abbrev pub changed_at : ℕ → (Row → Row) → Table → Table
changed_at number f [] = []
changed_at zero f (p ∷ t) = (p.0, f p.1) ∷ t
changed_at (suc number) f (p ∷ t) = p ∷ changed_at number f t
