-- Which architectures words choose, said of the whole list. This project's own.
use Rattle.std.specs.Prelude.{◌≡◌, ◌↔◌, ℕ, ◌&&◌, ◌||◌, not, true, false, Bool, List, ◌∷◌, ◌++◌}
use Rattle.std.specs.Prelude.{codes}
use Rattle.std.specs.List.{list_any}
use Rattle.std.specs.Str.{bytes_eq}
use Rattle.td_text.specs.Cut.{strip}
use Rattle.td_wbread.specs.declared.word.Word.{Word}
use Rattle.td_wbread.specs.Archs.{is_all, is_chosen, passes}

-- a word that chooses the architecture of this name
abbrev pub chooses : List ℕ → List ℕ → Bool
chooses name text = is_all text || bytes_eq text name

-- a word that takes the architecture of this name away
abbrev pub takes_away : List ℕ → List ℕ → Bool
takes_away name text = not (chooses name text)
    && passes (λ t. bytes_eq t name) (strip (codes "-") text)

-- some word chooses the name, and none after it takes it away
pub record LastChooses (words : List Word) (name : List ℕ) : Type 0 where
  pub before : List Word
  pub word : Word
  pub after : List Word
  pub joined : words ≡ before ++ word ∷ after
  pub chosen : chooses name word.text ≡ true
  pub kept : list_any (λ w. takes_away name w.text) after ≡ false

-- a name is chosen if and only if some word chooses it, and none after that takes it away
abbrev pub ChoiceIsExact : Type 0
ChoiceIsExact = (words : List Word) (name : List ℕ)
    → (is_chosen words name ≡ true) ↔ LastChooses words name
