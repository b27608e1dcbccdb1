-- Queries, without where they lie in memory. This project's own.
use Rattle.std.specs.Prelude.{ℕ, Bool, true, false, List, [], ◌∷◌}
use Rattle.td_query.specs.declared.query.Joint.{Joint}
use Rattle.td_query.specs.declared.query.Joint.TheVariants.{And, Or}
use Rattle.td_query.specs.declared.query.Query.{Query}
use Rattle.td_query.specs.declared.query.Query.TheOpen.{Query-F}
use Rattle.td_query.specs.declared.query.Query.TheFolds.{fold-Query}

-- a query: `true` or `false`; a text in a field; the pattern of a number in a field; `!`, `&` and
-- `|`
pub data Shape : Type 0 where
  always : Bool → Shape
  text : List ℕ → List ℕ → Shape
  pattern : List ℕ → ℕ → Shape
  negated : Shape → Shape
  both : Shape → Shape → Shape
  either : Shape → Shape → Shape

-- parts with `&` between them
abbrev pub all_from : Shape → List Shape → Shape
all_from x [] = x
all_from x (y ∷ ys) = both x (all_from y ys)

-- what `&` makes of parts; a part by itself stays as it is
abbrev pub all_of : List Shape → Shape
all_of [] = always true
all_of (x ∷ xs) = all_from x xs

-- parts with `|` between them
abbrev pub any_from : Shape → List Shape → Shape
any_from x [] = x
any_from x (y ∷ ys) = either x (any_from y ys)

-- what `|` makes of parts; a part by itself stays as it is
abbrev pub any_of : List Shape → Shape
any_of [] = always false
any_of (x ∷ xs) = any_from x xs

-- what a mark between the parts makes of them
abbrev pub joined : Joint → List Shape → Shape
joined And parts = all_of parts
joined Or parts = any_of parts

-- one level of a query, with the shapes of its parts in their places
abbrev pub shape_step : Query-F Shape → Shape
shape_step (Query-F.Always answer) = always answer
shape_step (Query-F.Text field t) = text field.now t.now
shape_step (Query-F.Pattern field number) = pattern field.now number
shape_step (Query-F.Not part) = negated part.value
shape_step (Query-F.All parts) = all_of parts.items
shape_step (Query-F.Any parts) = any_of parts.items

-- the shape of a query
abbrev pub shape_of : Query → Shape
shape_of = fold-Query Shape shape_step
