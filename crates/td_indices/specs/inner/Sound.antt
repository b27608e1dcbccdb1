-- Stanzas of Sources whose relations were read before. This project's own.
use Rattle.std.specs.Prelude.{◌≡◌, ◌<◌, ℕ, List, Some, Ok, length, slice_get}
use Rattle.td_stanza.specs.Field.{Entry}
use Rattle.td_indices.specs.Sources.{SourcePackage, with_build_relations}

-- what the builds of a stanza's source ask for can be read
abbrev pub IsSound : List Entry → Type 0
IsSound fields =
    (number : ℕ) (head : SourcePackage)
    → with_build_relations number fields head ≡ Ok (record { head = head; stanza = number })

-- what those of the stanza with a number ask for can be read
abbrev pub IsSoundAt : List (List Entry) → ℕ → Type 0
IsSoundAt stanzas number =
    (fields : List Entry) → slice_get stanzas number ≡ Some fields → IsSound fields

-- what those of all stanzas ask for can be read
abbrev pub AreSound : List (List Entry) → Type 0
AreSound stanzas = (number : ℕ) → number < length stanzas → IsSoundAt stanzas number
