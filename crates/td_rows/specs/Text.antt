-- Texts of one line. This project's own.
use Rattle.std.specs.Prelude.{ℕ, Bool, List, ◌==◌}
use Rattle.std.specs.List.{list_any}

-- whether a newline stands in the text
abbrev pub has_newline : List ℕ → Bool
has_newline text = list_any (λ c. c == 10) text
