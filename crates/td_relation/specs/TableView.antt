-- The table that an `Archs` holds. This project's own.
use Rattle.std.specs.Prelude.{List, map}
use Rattle.td_relation.specs.declared.archs.Archs.{Archs}
use Rattle.td_relation.specs.Arch.{ArchWords, words_of}

-- the architectures, in the order of their lines
abbrev pub table : Archs → List ArchWords
table archs = map words_of archs.list.items
