-- The names of a stanza's fields that are kept for looking them up.
use Rattle.std.specs.Prelude.{◌≡◌, ℕ, List, drop}
use Rattle.std.specs.HashSet.{contains}
use Rattle.std.specs.List.{list_any}
use Rattle.td_stanza.specs.declared.entry.Field.{Field}
use Rattle.td_stanza.specs.declared.folded.FoldedName.{FoldedName}
use Rattle.td_stanza.specs.declared.names.Names.{Names}
use Rattle.td_stanza.specs.Field.{is_same_name}
use Rattle.td_stanza.specs.inner.FoldedNames.{same_folded}

-- how many fields of a stanza are compared with a name one by one
abbrev pub compared : ℕ
compared = 32

-- the names kept are those of the fields after the first 32, in whatever case
abbrev pub AreNoted : Names → List Field → Type 0
AreNoted names fields = (key : FoldedName) →
    contains same_folded names.further key
    ≡ list_any (λ field. is_same_name key.name.now field.name.now) (drop compared fields)
