-- The verb of a command line, and its number. This project's own, in the style of wanna-build.
use Rattle.std.specs.Prelude.{ℕ, ◌==◌, nat_lt, nat_le, ◌&&◌, not, Bool, true, false, List, [], ◌∷◌}
use Rattle.std.specs.Prelude.{Option, Some, None, Result, Ok, Err, length, codes, ℤ, pos}
use Rattle.std.specs.Prelude.{if◌then◌else◌}
use Rattle.std.specs.Char.{is_ascii_digit}
use Rattle.std.specs.List.{list_all}
use Rattle.std.specs.Str.{all_ascii_digits, bytes_eq}
use Rattle.std.specs.Str.Parse.{digits_value}
use Rattle.td_text.specs.Limits.{max_rebuild}
use Rattle.td_rows.specs.Limits.{max_priority}
use lib.IntN.{neg_ℤ}
use Rattle.td_text.specs.Chain.{◌>>=◌}
use Rattle.td_text.specs.Cut.{strip}
use Rattle.td_text.specs.Numbers.{number_at}
use Rattle.td_wbread.specs.declared.command.Verb.{Verb}
use Rattle.td_wbread.specs.declared.command.Verb.TheVariants.{Gb, Nmu, Bp, Dw}
use Rattle.td_wbread.specs.declared.fault.CommandFault.{CommandFault}
use Rattle.td_wbread.specs.declared.fault.CommandFault.TheVariants.{Wrong}
use Rattle.td_wbread.specs.declared.fault.LineFault.TheVariants.{UnknownCommand, BadNumber}
use Rattle.td_wbread.specs.declared.word.Word.{Word}
use Rattle.td_wbread.specs.declared.word.End.{End}
use Rattle.td_wbread.specs.declared.word.End.TheVariants.{Closed, Open}
use Rattle.td_wbread.specs.Faults.{missing, is_dot}

-- one digit or more
abbrev pub is_digits : List ℕ → Bool
is_digits text = nat_lt 0 (length text) && list_all is_ascii_digit text

-- ---- `bp` and a priority

-- one digit or more, of a number of at most 9999; zeros at the beginning don't count
abbrev pub is_size : List ℕ → Bool
is_size text = nat_lt 0 (length text)
    && (all_ascii_digits text && nat_le (digits_value 10 text) max_priority)

-- the number that one digit or more are, if it is at most 9999
abbrev pub size_at : List ℕ → Option ℕ
size_at text = if is_size text then Some (digits_value 10 text) else None

-- the priority of a text by what follows its minus, if there is one
abbrev pub priority_after : List ℕ → Option (List ℕ) → Option ℤ
priority_after text None = size_at text >>= λ n. Some (pos n)
priority_after text (Some digits) = size_at digits >>= λ n. Some (neg_ℤ (pos n))

-- a priority from -9999 to 9999: a minus or none, and digits
unfoldable pub priority_at : List ℕ → Option ℤ
priority_at text = priority_after text (strip (codes "-") text)

-- the priority that this word is
abbrev pub prioritized : Word → List Word → Option ℤ → Result (Verb × List Word) CommandFault
prioritized word words None = Err (Wrong BadNumber word.place)
prioritized word words (Some priority) = Ok (Bp priority, words)

-- what follows `bp`
abbrev pub priority_first : End → List Word → Result (Verb × List Word) CommandFault
priority_first end [] = Err (missing end BadNumber)
priority_first end (word ∷ words) = prioritized word words (priority_at word.text)

-- ---- `nmu`, and a rebuild number or none

-- another word follows, which isn't the dot; a quote that isn't closed begins one
abbrev pub goes_on : End → List Word → Bool
goes_on (Closed place) [] = false
goes_on (Open place) [] = true
goes_on end (word ∷ words) = not (is_dot word)

-- a rebuild number from 1 to 9999
abbrev pub numbered : Word → List Word → Option ℕ → Result (Verb × List Word) CommandFault
numbered word words None = Err (Wrong BadNumber word.place)
numbered word words (Some n) = if n == 0 then Err (Wrong BadNumber word.place)
    else Ok (Nmu (Some n), words)

-- a word of digits is the number where another word than the dot follows it, or an open quote
abbrev pub rebuild_from : End → Word → List Word → Result (Verb × List Word) CommandFault
rebuild_from end word words =
    if is_digits word.text && goes_on end words
    then numbered word words (number_at max_rebuild word.text)
    else Ok (Nmu None, word ∷ words)

-- what follows `nmu`
abbrev pub rebuild_first : End → List Word → Result (Verb × List Word) CommandFault
rebuild_first end [] = Ok (Nmu None, [])
rebuild_first end (word ∷ words) = rebuild_from end word words

-- ---- the verb

-- the verb that this word is, with its number, and the words that follow them
unfoldable pub verb_from : End → Word → List Word → Result (Verb × List Word) CommandFault
verb_from end word words =
    if bytes_eq word.text (codes "gb") then Ok (Gb, words)
    else (if bytes_eq word.text (codes "nmu") then rebuild_first end words
    else (if bytes_eq word.text (codes "bp") then priority_first end words
    else (if bytes_eq word.text (codes "dw") then Ok (Dw, words)
    else Err (Wrong UnknownCommand word.place))))

-- the verb and its number, and the words that follow them
abbrev pub verb_at : End → List Word → Result (Verb × List Word) CommandFault
verb_at end [] = Err (missing end UnknownCommand)
verb_at end (word ∷ words) = verb_from end word words
