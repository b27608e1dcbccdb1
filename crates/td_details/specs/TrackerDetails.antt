-- The lines of what a tracker asks of an archive. This project's own.
use Rattle.std.specs.Prelude.{ℕ, List, [], ◌∷◌, ◌++◌, chars, codes, decimal, length, map}
use Rattle.std.specs.Prelude.{if◌then◌else◌}
use Rattle.std.specs.List.{flat_map}
use Rattle.td_explain.specs.Shown.{shown}
use Rattle.td_indices.specs.Archive.{Contents}
use Rattle.td_query.specs.Atoms.{found_in}
use Rattle.td_query.specs.Query.{Shape}
use Rattle.td_query.specs.Tracking.{Tracking}
use Rattle.td_query.specs.declared.finding.Found.{Found}
use Rattle.td_details.specs.Asked.{asked, field_of, fields_in, has_mark, is_anywhere, said_by}
use Rattle.td_details.specs.Asked.{word_of}

-- a text between quotation marks, without control characters. All of it is shown: it has no more
-- characters than bytes
abbrev pub quoted : List ℕ → List ℕ
quoted text = shown (length text) (chars text)

-- ---- 1. texts and patterns

-- the field of a text or a pattern, and what it says
abbrev pub asked_words : Tracking → Shape → List ℕ
asked_words t s = field_of s ++ (codes " " ++ quoted (said_by t s))

-- the line of a text or a pattern: in how many stanzas of each index that count it is found
abbrev pub found_line : Tracking → Shape → Found → List ℕ
found_line t s n =
    codes "tracker " ++ (word_of s ++ (codes " ." ++ (asked_words t s
    ++ (codes " packages " ++ (decimal n.packages
    ++ (codes " sources " ++ decimal n.sources))))))

-- the line of a text or a pattern, over an archive
abbrev pub found_line_in : Contents → Tracking → Shape → List ℕ
found_line_in c t s = found_line t s (found_in c t.patterns s)

-- the lines of all texts and patterns
abbrev pub found_lines : Contents → Tracking → List (List ℕ)
found_lines c t = map (found_line_in c t) (asked t)

-- ---- 2. warnings

-- the warning of a field that no stanza has
abbrev pub no_field_line : List ℕ → List ℕ
no_field_line field = codes "warning: no stanza has the field ." ++ field

-- the warning of a field, if no stanza that counts has it
abbrev pub no_field_at : Contents → List ℕ → List (List ℕ)
no_field_at c field = if is_anywhere c field then [] else no_field_line field ∷ []

-- the warnings of fields that no stanza has
abbrev pub no_field_lines : Contents → Tracking → List (List ℕ)
no_field_lines c t = flat_map (no_field_at c) (fields_in (asked t))

-- the warning of a text that no package can have as its name
abbrev pub no_name_line : Tracking → Shape → List ℕ
no_name_line t s =
    codes "warning: a text is no pattern, and no name has one of | ^ $ *: ." ++ asked_words t s

-- the warning of a text, if it has such a byte
abbrev pub no_name_at : Tracking → Shape → List (List ℕ)
no_name_at t s = if has_mark s then no_name_line t s ∷ [] else []

-- the warnings of texts that no package can have as its name
abbrev pub no_name_lines : Tracking → List (List ℕ)
no_name_lines t = flat_map (no_name_at t) (asked t)

-- the warnings of what a tracker asks for
abbrev pub asked_warnings : Contents → Tracking → List (List ℕ)
asked_warnings c t = no_field_lines c t ++ no_name_lines t

-- ---- 3. all lines

-- the texts and patterns of a tracker, and the warnings
abbrev pub tracker_lines : Contents → Tracking → List (List ℕ)
tracker_lines c t = found_lines c t ++ asked_warnings c t
