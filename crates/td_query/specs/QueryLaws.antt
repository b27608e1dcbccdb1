-- What queries mean, in the words of logic. This project's own.
use Rattle.std.specs.Prelude.{◌≡◌, ◌⊎◌, ◌↔◌, ◌<◌, ℕ, IsTrue, true, false, List, Some, length}
use Rattle.std.specs.Prelude.{is_some, slice_get}
use Rattle.std.specs.List.{Contains}
use Rattle.regex.specs.Patterns.{Re, find_str}
use Rattle.td_stanza.specs.Field.{Entry, is_same_name}
use Rattle.td_indices.specs.Fields.{value_of}
use Rattle.td_query.specs.Query.{Shape, always, text, pattern, negated, both, either}
use Rattle.td_query.specs.Standing.{StandsAt}
use Rattle.td_query.specs.Truth.{truth}

-- a query holds on a stanza's fields, with these patterns
abbrev pub Holds : List Re → List Entry → Shape → Type 0
Holds patterns fields query = IsTrue (truth patterns fields query)

-- ---- 1. as in logic

-- `true` holds, and `false` doesn't
abbrev pub ConstantsAreTheirNames : Type 0
ConstantsAreTheirNames = (patterns : List Re) (fields : List Entry)
    → Holds patterns fields (always true) × (¬ Holds patterns fields (always false))

-- `!` is not
abbrev pub NegationsAreNot : Type 0
NegationsAreNot = (patterns : List Re) (fields : List Entry) (s : Shape)
    → Holds patterns fields (negated s) ↔ (¬ Holds patterns fields s)

-- `&` is and
abbrev pub ConjunctionsAreAnd : Type 0
ConjunctionsAreAnd = (patterns : List Re) (fields : List Entry) (s t : Shape)
    → Holds patterns fields (both s t) ↔ (Holds patterns fields s × Holds patterns fields t)

-- `|` is or
abbrev pub DisjunctionsAreOr : Type 0
DisjunctionsAreOr = (patterns : List Re) (fields : List Entry) (s t : Shape)
    → Holds patterns fields (either s t) ↔ (Holds patterns fields s ⊎ Holds patterns fields t)

-- ---- 2. fields

-- if no field has the name, in whatever case, no text and no pattern matches
abbrev pub AbsentFieldsNeverMatch : Type 0
AbsentFieldsNeverMatch = (patterns : List Re) (fields : List Entry) (name : List ℕ) →
    ((f : Entry) → Contains fields f → is_same_name name f.name ≡ false) →
    ((t : List ℕ) → ¬ Holds patterns fields (text name t))
    × ((number : ℕ) → ¬ Holds patterns fields (pattern name number))

-- a text matches if and only if it isn't empty and is in the field's value, at some place,
-- bounded on both sides
abbrev pub TextsMatchWhereTheyStand : Type 0
TextsMatchWhereTheyStand = (patterns : List Re) (fields : List Entry) (name t : List ℕ) →
    Holds patterns fields (text name t) ↔ ((value : List ℕ) × (value_of fields name ≡ Some value)
    × (0 < length t) × (i : ℕ) × StandsAt t value i)

-- a pattern matches if and only if `regex` finds it in the field's value
abbrev pub PatternsMatchWhereTheyAreFound : Type 0
PatternsMatchWhereTheyAreFound = (patterns : List Re) (fields : List Entry) (name : List ℕ)
    (number : ℕ) →
    Holds patterns fields (pattern name number)
    ↔ ((value : List ℕ) × (value_of fields name ≡ Some value) × (re : Re)
    × (slice_get patterns number ≡ Some re) × IsTrue (is_some (find_str re value 0)))
