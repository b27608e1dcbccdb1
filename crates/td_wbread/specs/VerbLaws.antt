-- Which words are a verb with its own, said of the whole list, and what they mean.
-- This project's own, in the style of wanna-build.
use Rattle.std.specs.Prelude.{◌≡◌, ◌↔◌, ◌⊎◌, ℕ, ◌<◌, ◌≤◌, true, List, [], ◌∷◌, Some, None, Ok}
use Rattle.std.specs.Prelude.{length, codes, decimal, ℤ, pos}
use Rattle.std.specs.Str.{all_ascii_digits}
use Rattle.std.specs.Str.Parse.{digits_value}
use Rattle.td_text.specs.Limits.{max_rebuild}
use Rattle.td_rows.specs.Limits.{max_priority}
use lib.IntN.{neg_ℤ}
use Rattle.td_wbread.specs.declared.command.Verb.{Verb}
use Rattle.td_wbread.specs.declared.command.Verb.TheVariants.{Gb, Nmu, Bp, Dw}
use Rattle.td_wbread.specs.declared.word.Word.{Word}
use Rattle.td_wbread.specs.declared.word.End.{End}
use Rattle.td_wbread.specs.declared.word.End.TheVariants.{Closed, Open}
use Rattle.td_wbread.specs.Verbs.{verb_at}

-- ---- 1. numbers

-- one digit or more, and nothing else
pub record AreDigits (text : List ℕ) : Type 0 where
  pub some : 0 < length text
  pub digits : all_ascii_digits text ≡ true

-- the digits write this number, of at most 9999, with any number of zeros at the beginning
pub record IsSize (text : List ℕ) (n : ℕ) : Type 0 where
  pub are_digits : AreDigits text
  pub value : digits_value 10 text ≡ n
  pub bounded : n ≤ max_priority

-- the text writes this priority: digits, or a minus and digits
abbrev pub IsPriority : List ℕ → ℤ → Type 0
IsPriority text priority = (size : List ℕ) × (n : ℕ) × IsSize size n
    × (((text ≡ size) × (priority ≡ pos n)) ⊎ ((text ≡ 45 ∷ size) × (priority ≡ neg_ℤ (pos n))))

-- the text writes this rebuild number, in decimal without leading zeros
pub record IsRebuildNumber (text : List ℕ) (n : ℕ) : Type 0 where
  pub written : text ≡ decimal n
  pub positive : 1 ≤ n
  pub bounded : n ≤ max_rebuild

-- ---- 2. what follows `nmu`

-- a dot outside quotes
abbrev pub IsDot : Word → Type 0
IsDot word = (word.is_bare ≡ true) × (word.text ≡ codes ".")

-- another word comes, which isn't the dot, or a quote that isn't closed begins one
abbrev pub GoesOn : End → List Word → Type 0
GoesOn (Closed place) [] = ⊥
GoesOn (Open place) [] = Unit {0}
GoesOn end (word ∷ words) = IsDot word → ⊥

-- the first word is of digits, and another follows it
abbrev pub BeginsWithNumber : End → List Word → Type 0
BeginsWithNumber end [] = ⊥
BeginsWithNumber end (word ∷ words) = AreDigits word.text × GoesOn end words

-- ---- 3. the five shapes

-- the words are this one, whether it is quoted or not, and the rest
abbrev pub Follows : List ℕ → List Word → List Word → Type 0
Follows text words rest = (word : Word) × (words ≡ word ∷ rest) × (word.text ≡ text)

-- the words are those of the verb, and the rest: `gb`; only `nmu`, if no number follows it; `nmu`
-- and a number, after which another word comes; `bp` and a priority; `dw`
abbrev pub IsVerb : End → List Word → Verb → List Word → Type 0
IsVerb end words Gb rest = Follows (codes "gb") words rest
IsVerb end words (Nmu None) rest = Follows (codes "nmu") words rest
    × (BeginsWithNumber end rest → ⊥)
IsVerb end words (Nmu (Some n)) rest = (number : Word) × Follows (codes "nmu") words (number ∷ rest)
    × IsRebuildNumber number.text n × GoesOn end rest
IsVerb end words (Bp priority) rest = (number : Word) × Follows (codes "bp") words (number ∷ rest)
    × IsPriority number.text priority
IsVerb end words Dw rest = Follows (codes "dw") words rest

-- a verb is read if and only if the words have one of its shapes
abbrev pub VerbsAreExact : Type 0
VerbsAreExact = (end : End) (words : List Word) (verb : Verb) (rest : List Word)
    → (verb_at end words ≡ Ok (verb, rest)) ↔ IsVerb end words verb rest
