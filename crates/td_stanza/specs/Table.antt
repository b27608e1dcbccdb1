-- The stanzas that a flat list of fields has, by where each starts in it. This project's own.
pub use Rattle.td_stanza.specs.Shown.{shown}
use Rattle.std.specs.Prelude.{◌≡◌, ℕ, ◌+◌, ◌-◌, ◌==◌, count_by, List, [], ◌∷◌, length, take, drop}
use Rattle.std.specs.Prelude.{map, slice_get, Option, Some, IsTrue}
use Rattle.std.specs.List.{flat_map, AllByRecursion}
use Rattle.td_stanza.specs.Field.{Entry, is_same_name}
use Rattle.td_stanza.specs.StanzaGrammar.{IsDistinct}
use Rattle.td_stanza.specs.declared.table.Stanza.{Stanza}
use Rattle.td_stanza.specs.declared.entry.Field.{Field}

-- how many newlines a text has
abbrev pub newlines : List ℕ → ℕ
newlines text = count_by (λ b. b == 10) text

-- from each start to the next one; the last piece goes to the end
abbrev pub pieces : List Entry → List ℕ → List (List Entry)
pieces fields [] = []
pieces fields (start ∷ []) = drop start fields ∷ []
pieces fields (start ∷ end ∷ starts) = take (end - start) (drop start fields) ∷ pieces fields
    (end ∷ starts)

-- where each of the stanzas starts, the first of them at a place
abbrev pub starts_from : ℕ → List (List Entry) → List ℕ
starts_from at [] = []
starts_from at (stanza ∷ stanzas) = at ∷ starts_from (at + length stanza) stanzas

-- the fields of all stanzas
abbrev pub joined : List (List Entry) → List Entry
joined stanzas = flat_map (λ stanza. stanza) stanzas

-- the fields and the starts are those of some stanzas, each with a name once
pub record IsTable (fields : List Field) (starts : List ℕ) : Type 0 where
  pub stanzas : List (List Entry)
  pub fields_are : map shown fields ≡ joined stanzas
  pub starts_are : starts ≡ starts_from 0 stanzas
  pub distinct : AllByRecursion IsDistinct stanzas

-- a stanza as the list of its fields
abbrev pub fields_of : Stanza → List Entry
fields_of stanza = map shown stanza.fields.now

-- one of the fields has this name, in whatever case, and this value
abbrev pub HasField : List Entry → List ℕ → List ℕ → Type 0
HasField fields name value = (number : ℕ) × (field : Entry) × (slice_get fields number ≡ Some field)
    × IsTrue (is_same_name name field.name) × (field.value ≡ value)

-- the answer is the value of whichever field has the name
abbrev pub AnswersOnly : List Entry → List ℕ → Option (List ℕ) → Type 0
AnswersOnly fields name answer = (value : List ℕ) → HasField fields name value → answer ≡ Some value
