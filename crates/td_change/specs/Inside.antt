-- What the private functions of changes and plans promise. This project's own.
use Rattle.std.specs.Prelude.{◌≡◌, ◌≤◌, ℕ, true, List, [], ◌∷◌, length, map}
use Rattle.td_rows.specs.declared.cells.Cells.{Cells}
use Rattle.td_rows.specs.declared.key.Key.{Key}
use Rattle.td_rows.specs.declared.row.Row.{Row}
use Rattle.td_rows.specs.declared.kind.Kind.{Kind}
use Rattle.td_rows.specs.Cells.{restore}
use Rattle.td_rows.specs.Kept.{texts_of}
use Rattle.td_rows.specs.Keys.{ascending}
use Rattle.td_rows.specs.Table.{Table, changed_at}
use Rattle.td_change.specs.Saved.{number_of}

-- the rows, of which those with these numbers get these cells back, the last of them first
abbrev pub put_back : Cells → List (ℕ × Row) → Table → Table
put_back m [] t = t
put_back m (s ∷ kept) t = changed_at s.0 (restore m s.1) (put_back m kept t)

-- a key, the number of its row, and the kind's texts for it
abbrev pub ready : Kind → Table → Key → Key × (ℕ × Row)
ready kind t k = (k, (number_of t k, texts_of kind))

-- only the key and the number, without the row
abbrev pub numbered : Key × (ℕ × Row) → Key × ℕ
numbered e = (e.0, e.1.0)

-- each entry has the kind's texts
abbrev pub HaveTexts : Kind → List (Key × (ℕ × Row)) → Type 0
HaveTexts kind [] = Unit {0}
HaveTexts kind (e ∷ rows) = (e.1.1 ≡ texts_of kind) × HaveTexts kind rows

-- what holds of every plan: its keys rise, it has the texts of each, and room for the kept rows
pub record IsReady (kind : Kind) (rows : List (Key × (ℕ × Row))) (kept : List (ℕ × Row))
    (capacity : ℕ) : Type 0 where
  pub rising : ascending (map (λ e. e.0) rows) ≡ true
  pub texts : HaveTexts kind rows
  pub empty : kept ≡ []
  pub room : length rows ≤ capacity
