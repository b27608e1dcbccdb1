-- Whether a query holds on a stanza. This project's own.
use Rattle.std.specs.Prelude.{ℕ, ◌&&◌, ◌||◌, not, Bool, false, List, Option, Some, None, is_some}
use Rattle.std.specs.Prelude.{slice_get}
use Rattle.std.specs.Option.{option_map_or}
use Rattle.regex.specs.Patterns.{Re, find_str}
use Rattle.td_stanza.specs.Field.{Entry}
use Rattle.td_indices.specs.Fields.{value_of}
use Rattle.td_query.specs.Query.{Shape, always, text, pattern, negated, both, either}
use Rattle.td_query.specs.Standing.{stands_in}

-- the pattern, if there is one of the number, is found in the value
abbrev pub is_found : Option Re → List ℕ → Bool
is_found None value = false
is_found (Some re) value = is_some (find_str re value 0)

-- the query holds on a stanza's fields, with these patterns; a field that isn't there holds nothing
abbrev pub truth : List Re → List Entry → Shape → Bool
truth patterns fields (always answer) = answer
truth patterns fields (text field t) = option_map_or (λ value. stands_in t value)
    (value_of fields field) false
truth patterns fields (pattern field number) = option_map_or
    (λ value. is_found (slice_get patterns number) value) (value_of fields field) false
truth patterns fields (negated s) = not (truth patterns fields s)
truth patterns fields (both s t) = truth patterns fields s && truth patterns fields t
truth patterns fields (either s t) = truth patterns fields s || truth patterns fields t
