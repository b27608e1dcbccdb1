-- Which words are architectures with a dot or the end after them, said of the whole list. This
-- project's own.
use Rattle.std.specs.Prelude.{◌≡◌, ◌↔◌, ◌&&◌, true, false, Bool, List, [], ◌∷◌, ◌++◌, Option, Some}
use Rattle.std.specs.Prelude.{None, Ok}
use Rattle.std.specs.List.{list_all, list_any}
use Rattle.td_relation.specs.Arch.{ArchWords}
use Rattle.td_wbread.specs.declared.word.Word.{Word}
use Rattle.td_wbread.specs.declared.word.End.{End}
use Rattle.td_wbread.specs.Archs.{archs_at, is_arch_word, is_choice}
use Rattle.td_wbread.specs.Faults.{is_dot}

-- there is a first word, which chooses, and each further one chooses or takes away
abbrev pub are_arch_words : List ArchWords → List Word → Bool
are_arch_words table [] = false
are_arch_words table (word ∷ words) = is_choice table word.text
    && list_all (λ w. is_arch_word table w.text) words

-- after these words comes the end, or a dot and the rest
abbrev pub GoesOn : List Word → List Word → Option (List Word) → Type 0
GoesOn words front None = words ≡ front
GoesOn words front (Some rest) = (dot : Word) × (words ≡ front ++ dot ∷ rest) × (is_dot dot ≡ true)

-- the words are these, which name architectures, and the end, or a dot and the rest
pub record AreArchs (table : List ArchWords) (words front : List Word)
    (behind : Option (List Word)) : Type 0 where
  pub joined : GoesOn words front behind
  pub no_dot : list_any is_dot front ≡ false
  pub archs : are_arch_words table front ≡ true

-- words are read as architectures if and only if they name architectures, and the end, or a dot and
-- the rest, comes after them
abbrev pub ArchsAreExact : Type 0
ArchsAreExact = (table : List ArchWords) (end : End) (words front : List Word)
    (behind : Option (List Word)) →
    (archs_at table end words ≡ Ok (front, behind)) ↔ AreArchs table words front behind
