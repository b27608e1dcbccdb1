-- What a tracker asks for: each of its texts and patterns once, and each of their fields once. This
-- project's own.
use Rattle.std.specs.Prelude.{ℕ, ◌&&◌, ◌||◌, ◌==◌, Bool, false, List, [], ◌∷◌, ◌++◌, codes, map}
use Rattle.std.specs.Prelude.{slice_get, if◌then◌else◌}
use Rattle.std.specs.List.{fold, list_any}
use Rattle.std.specs.Option.{option_map_or}
use Rattle.std.specs.Str.{bytes_eq}
use Rattle.td_indices.specs.Archive.{Contents}
use Rattle.td_indices.specs.Stanzas.{package_fields, source_fields}
use Rattle.td_query.specs.Atoms.{tracker_atoms}
use Rattle.td_query.specs.Query.{Shape, always, text, pattern, negated, both, either}
use Rattle.td_query.specs.Tracking.{Tracking}
use Rattle.td_details.specs.Swapped.{has_field}

-- ---- 1. each once

-- the items so far, and this one if none of them is like it
abbrev pub with_new : {A : Type 0} → (A → A → Bool) → List A → A → List A
with_new alike seen x = if list_any (alike x) seen then seen else seen ++ x ∷ []

-- of items that are alike only the first
abbrev pub firsts : {A : Type 0} → (A → A → Bool) → List A → List A
firsts alike xs = fold (with_new alike) [] xs

-- ---- 2. texts and patterns

-- what a text or a pattern is called
abbrev pub word_of : Shape → List ℕ
word_of (text field t) = codes "text"
word_of (pattern field number) = codes "pattern"
word_of (always answer) = []
word_of (negated s) = []
word_of (both s t) = []
word_of (either s t) = []

-- the field in which a text or a pattern is searched
abbrev pub field_of : Shape → List ℕ
field_of (text field t) = field
field_of (pattern field number) = field
field_of (always answer) = []
field_of (negated s) = []
field_of (both s t) = []
field_of (either s t) = []

-- what a text or a pattern of a tracker says
abbrev pub said_by : Tracking → Shape → List ℕ
said_by t (text field x) = x
said_by t (pattern field number) = option_map_or (λ x. x) (slice_get t.sources number) []
said_by t (always answer) = []
said_by t (negated s) = []
said_by t (both s r) = []
said_by t (either s r) = []

-- two texts, or two patterns, that say the same of one field
abbrev pub are_alike : Tracking → Shape → Shape → Bool
are_alike t x y = bytes_eq (word_of x) (word_of y)
    && (bytes_eq (field_of x) (field_of y) && bytes_eq (said_by t x) (said_by t y))

-- the texts and patterns of a tracker, each once
abbrev pub asked : Tracking → List Shape
asked t = firsts (are_alike t) (tracker_atoms t)

-- ---- 3. fields

-- the fields of texts and patterns, each once
abbrev pub fields_in : List Shape → List (List ℕ)
fields_in shapes = firsts bytes_eq (map field_of shapes)

-- whether some stanza that a package, or a source, was kept of has a field
abbrev pub is_anywhere : Contents → List ℕ → Bool
is_anywhere c field = list_any (λ b. has_field (package_fields c b) field) c.binaries
    || list_any (λ s. has_field (source_fields c s) field) c.sources

-- ---- 4. alternatives

-- whether a byte is one of `|`, `^`, `$` and `*`, which ben reads as parts of a pattern, and which
-- no package's name has
abbrev pub is_mark : ℕ → Bool
is_mark b = (b == 124) || ((b == 94) || ((b == 36) || (b == 42)))

-- whether this is a text that has such a byte
abbrev pub has_mark : Shape → Bool
has_mark (text field t) = list_any is_mark t
has_mark (pattern field number) = false
has_mark (always answer) = false
has_mark (negated s) = false
has_mark (both s t) = false
has_mark (either s t) = false
