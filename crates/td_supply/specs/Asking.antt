-- How a relation is asked: of the items with the numbers under a name. This project's own.
use Rattle.std.specs.Prelude.{ℕ, Bool, false, List, slice_get}
use Rattle.std.specs.Option.{option_map_or}

-- whether the item with a number passes a test; there may be none
abbrev pub passes_at : {A : Type 0} → (A → Bool) → List A → ℕ → Bool
passes_at test items number = option_map_or test (slice_get items number) false
