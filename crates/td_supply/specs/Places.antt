-- Places in the table of architectures, and numbers of items. This project's own.
use Rattle.std.specs.Prelude.{ℕ, ◌+◌, ◌==◌, Bool, false, List, [], ◌∷◌, Option, Some, None}
use Rattle.std.specs.Prelude.{if◌then◌else◌}

-- whether a place is the one given
abbrev pub is_place : ℕ → Option ℕ → Bool
is_place place None = false
is_place place (Some there) = there == place

-- the numbers, from n on, of the items that pass a test
abbrev pub places_from : {A : Type 0} → (A → Bool) → ℕ → List A → List ℕ
places_from test n [] = []
places_from test n (x ∷ xs) = if test x then n ∷ places_from test (n + 1) xs
    else places_from test (n + 1) xs
