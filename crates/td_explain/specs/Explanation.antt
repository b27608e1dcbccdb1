-- The line that explains a refusal. It is for people, and this project's own.
use Rattle.std.specs.Prelude.{◌≡◌, ℕ, ◌+◌, List, [], ◌++◌, Option, Some, None, codes, chars, decimal}
use Rattle.std.specs.Prelude.{drop, if◌then◌else◌}
use Rattle.std.specs.Str.{is_utf8}
use Rattle.td_explain.specs.declared.spot.Place.{Place}
use Rattle.td_explain.specs.declared.spot.Point.{Point}
use Rattle.td_explain.specs.declared.spot.Point.TheVariants.{Line, Stanza, Byte}
use Rattle.td_explain.specs.Shown.{max_path, max_shown, shown}
use Rattle.td_text.specs.Runs.{trimmed}
use Rattle.td_explain.specs.declared.spot.Place.TheVariants as place
use Rattle.td_explain.specs.Spot.{SpotWords, point_of, spot_of}
use Rattle.td_explain.specs.Unread.{IsUnread}

-- the place as it is counted
abbrev pub point_name : Point → List ℕ
point_name (Line number) = codes "line " ++ decimal number
point_name (Stanza number) = codes "stanza " ++ decimal number
point_name (Byte at) = codes "byte " ++ decimal at

-- where a place is found: a stanza by its line, and a byte by its line and column; both count from
-- 1, a column by bytes
abbrev pub found_name : Point → SpotWords → List ℕ
found_name (Line number) spot = []
found_name (Stanza number) spot = codes ", line " ++ decimal spot.number
found_name (Byte at) spot =
    codes ", line " ++ (decimal spot.number ++ (codes ", column " ++ decimal (spot.offset + 1)))

-- the line from the place on; all of it if the place is within a character
abbrev pub text_at : SpotWords → List ℕ
text_at spot =
    if is_utf8 (drop spot.offset spot.line) then drop spot.offset spot.line else spot.line

-- what is at a place
abbrev pub said_of : Point → Option SpotWords → List ℕ
said_of point None = point_name point
said_of point (Some spot) =
    point_name point
    ++ (found_name point spot ++ (codes " has " ++ shown max_shown (chars (text_at spot))))

-- what the line says of a place in the text; nothing of the text as a whole
abbrev pub said_if : Option Point → List ℕ → List ℕ
said_if None text = []
said_if (Some point) text = said_of point (spot_of point text) ++ codes "; "

-- what the line says of any place
abbrev pub place_said : Place → List ℕ → List ℕ
place_said place text = said_if (point_of place) text

-- the line: the text's role, what is at the place, and what is wanted
abbrev pub explanation : List ℕ → Place → List ℕ → List ℕ → List ℕ
explanation role place wanted text =
    role ++ (place_said place text ++ (codes "wanted: " ++ (wanted ++ codes "\n")))

-- the line of a file: the role, the file's path, what is said of it, and what is wanted
abbrev pub path_explanation : List ℕ → List ℕ → List ℕ → List ℕ → List ℕ
path_explanation role path said wanted =
    role ++ (shown max_path (chars path)
    ++ (codes " " ++ (said ++ (codes "; wanted: " ++ (wanted ++ codes "\n")))))

-- what the line says of the relation of a field that can't be read: the relation, without the
-- whitespace at its front; nothing if none was found
abbrev pub relation_said : List ℕ → Option (List ℕ) → List ℕ
relation_said name None = []
relation_said name (Some relation) =
    name ++ (codes " has " ++ (shown max_shown (chars (trimmed relation)) ++ codes "; "))

-- the line of a stanza in which this relation can't be read
abbrev pub relation_explanation : List ℕ → ℕ → List ℕ → Option (List ℕ) → List ℕ → List ℕ → List ℕ
relation_explanation role number name found wanted text =
    role ++ (place_said (place.Stanza number) text
    ++ (relation_said name found ++ (codes "wanted: " ++ (wanted ++ codes "\n"))))

-- the line has the first relation of the stanza's field that can't be read
abbrev pub ExplainsRelation : List ℕ → ℕ → List ℕ → List ℕ → List ℕ → List ℕ → Type 0
ExplainsRelation role number name wanted text line =
    (found : Option (List ℕ)) × IsUnread number name text found
    × (line ≡ relation_explanation role number name found wanted text)
