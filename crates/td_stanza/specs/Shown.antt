-- A field without where its texts lie in memory. This project's own.
use Rattle.td_stanza.specs.declared.entry.Field.{Field}
use Rattle.td_stanza.specs.Field.{Entry}

-- the name and the value of a field
abbrev pub shown : Field → Entry
shown field = record { name = field.name.now; value = field.value.now }
