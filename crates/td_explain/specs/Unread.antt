-- The relation of a stanza that can't be read. This project's own, over the stanzas of Debian
-- Policy 5.1 and the relations of 7.1.
use Rattle.std.specs.Prelude.{◌≡◌, ◌↔◌, ℕ, ◌-◌, ◌||◌, Bool, List, [], ◌∷◌, Option, Some, None}
use Rattle.std.specs.Prelude.{is_ok, option_and_then, slice_get, if◌then◌else◌}
use Rattle.td_text.specs.Lines.{lines_of, pieces_of}
use Rattle.td_text.specs.Runs.{is_blank}
use Rattle.td_stanza.specs.Field.{Entry}
use Rattle.td_stanza.specs.StanzaGrammar.{AreStanzas}
use Rattle.td_stanza.specs.Table.{HasField}
use Rattle.td_relation.specs.RelationGrammar.{relation_at}

-- a piece between commas can be read: it is only whitespace, or a relation
abbrev pub is_read : List ℕ → Bool
is_read piece = is_blank piece || is_ok (relation_at piece)

-- the first of some pieces that can't be read
unfoldable pub first_unread : List (List ℕ) → Option (List ℕ)
first_unread [] = None
first_unread (piece ∷ pieces) = if is_read piece then first_unread pieces else Some piece

-- the first piece of a field's value that can't be read
abbrev pub unread_in : List ℕ → Option (List ℕ)
unread_in value = first_unread (pieces_of 44 value)

-- In the stanza with this number, from 1 on, the field with this name, in whatever case, has this
-- value.
pub record HasValue (number : ℕ) (name text value : List ℕ) : Type 0 where
  pub stanzas : List (List Entry)
  pub are : AreStanzas stanzas (lines_of text)
  pub fields : List Entry
  pub there : slice_get stanzas (number - 1) ≡ Some fields
  pub has : HasField fields name value

-- the value of that field, if the text is stanzas and there is one
abbrev pub IsValue : ℕ → List ℕ → List ℕ → Option (List ℕ) → Type 0
IsValue number name text answer =
    (value : List ℕ) → (answer ≡ Some value) ↔ HasValue number name text value

-- the first piece of that value that can't be read, if there is one
abbrev pub IsUnread : ℕ → List ℕ → List ℕ → Option (List ℕ) → Type 0
IsUnread number name text found =
    (value : Option (List ℕ)) × IsValue number name text value
    × (found ≡ option_and_then unread_in value)
