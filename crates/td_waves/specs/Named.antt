-- Names, each with a number. This project's own.
use Rattle.std.specs.Prelude.{ℕ, Bool, false, not, List, map, Option, position}
use Rattle.std.specs.Prelude.{slice_get}
use Rattle.std.specs.Borrow.{Bor}
use Rattle.std.specs.List.{list_any}
use Rattle.std.specs.Option.{option_map_or}
use Rattle.std.specs.Str.{bytes_eq}

-- texts, without where they lie in memory
abbrev pub texts : List (Bor (List ℕ)) → List (List ℕ)
texts names = map (λ name. name.now) names

-- whether a text is one of the names
abbrev pub is_among : List (Bor (List ℕ)) → List ℕ → Bool
is_among names q = list_any (λ name. bytes_eq q name.now) names

-- the number of the first that is the text
abbrev pub number_among : List (Bor (List ℕ)) → List ℕ → Option ℕ
number_among names q = position (λ name. bytes_eq q name.now) names

-- whether the name with a number is another than the text
abbrev pub is_other : List (Bor (List ℕ)) → List ℕ → ℕ → Bool
is_other names q number = option_map_or (λ name. not (bytes_eq q name.now))
    (slice_get names number) false
