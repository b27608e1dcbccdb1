-- A field's name without the case of its ASCII letters.
use Rattle.std.specs.Prelude.{ℕ, Bool, List, map, nat_eq}
use Rattle.std.specs.Char.{to_ascii_lowercase}
use Rattle.std.specs.Cmp.Lexicographic.{pointwise}
use Rattle.std.specs.Ordering.{on}
use Rattle.td_stanza.specs.declared.folded.FoldedName.{FoldedName}

-- the name in lower case
abbrev pub folded : FoldedName → List ℕ
folded key = map to_ascii_lowercase key.name.now

-- two names are the same, in whatever case
abbrev pub same_folded : FoldedName → FoldedName → Bool
same_folded = on folded (pointwise nat_eq)
