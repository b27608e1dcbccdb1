-- Which lines stand for which stanzas (Debian Policy 5.1).
use Rattle.std.specs.Prelude.{◌≡◌, ◌≢◌, ℕ, Bool, false, IsTrue, List, [], ◌∷◌, ◌++◌, map}
use Rattle.std.specs.List.{list_any, AllByRecursion}
use Rattle.td_stanza.specs.Line.{is_separator}
use Rattle.td_stanza.specs.Field.{Entry, is_same_name, IsField}

-- these lines are those of the fields, one after the other
abbrev pub AreFields : List Entry → List (List ℕ) → Type 0
AreFields [] lines = lines ≡ []
AreFields (field ∷ fields) lines = (own : List (List ℕ)) × (others : List (List ℕ))
    × (lines ≡ own ++ others) × IsField field own × AreFields fields others

-- the names of the fields, in their order
abbrev pub names_of : List Entry → List (List ℕ)
names_of fields = map (λ field. field.name) fields

-- whether the name is among these, in whatever case
abbrev pub has_name : List (List ℕ) → List ℕ → Bool
has_name names name = list_any (is_same_name name) names

-- each name is none of those seen, and none before it
abbrev pub AreNew : List (List ℕ) → List (List ℕ) → Type 0
AreNew seen [] = Unit {0}
AreNew seen (name ∷ names) = (has_name seen name ≡ false) × AreNew (seen ++ name ∷ []) names

-- no field has the name of an earlier one
abbrev pub IsDistinct : List Entry → Type 0
IsDistinct fields = AreNew [] (names_of fields)

-- these lines are the stanza's: fields, each with a name of its own
pub record IsStanza (stanza : List Entry) (lines : List (List ℕ)) : Type 0 where
  pub filled : stanza ≢ []
  pub fields : AreFields stanza lines
  pub distinct : IsDistinct stanza

-- only separators
abbrev pub AllSeparate : List (List ℕ) → Type 0
AllSeparate lines = AllByRecursion (λ line. IsTrue (is_separator line)) lines

-- no line, or a separator first
abbrev pub BeginsApart : List (List ℕ) → Type 0
BeginsApart [] = Unit {0}
BeginsApart (line ∷ lines) = IsTrue (is_separator line)

-- these lines are the stanzas: separators before the first, one or more between two, any number
-- after the last
abbrev pub AreStanzas : List (List Entry) → List (List ℕ) → Type 0
AreStanzas [] lines = AllSeparate lines
AreStanzas (stanza ∷ stanzas) lines = (separators : List (List ℕ)) × (own : List (List ℕ))
    × (others : List (List ℕ)) × (lines ≡ separators ++ (own ++ others))
    × AllSeparate separators × IsStanza stanza own × BeginsApart others × AreStanzas stanzas others
