-- Faults at a place of a line. This project's own.
use Rattle.std.specs.Prelude.{◌≡◌, ℕ, Bool, not, List, [], ◌∷◌, ◌&&◌, Option, Some, None, Result}
use Rattle.std.specs.Prelude.{Ok, Err, codes, option_map, position, drop, ◌+◌, if◌then◌else◌}
use Rattle.std.specs.List.{before_first, find}
use Rattle.std.specs.Str.{bytes_eq}
use Rattle.td_wbread.specs.declared.fault.CommandFault.{CommandFault}
use Rattle.td_wbread.specs.declared.fault.CommandFault.TheVariants.{Wrong, NoMemory}
use Rattle.td_wbread.specs.declared.fault.LineFault.{LineFault}
use Rattle.td_wbread.specs.declared.fault.LineFault.TheVariants.{UnterminatedQuote}
use Rattle.td_wbread.specs.declared.word.Word.{Word}
use Rattle.td_wbread.specs.declared.word.End.{End}
use Rattle.td_wbread.specs.declared.word.End.TheVariants.{Closed, Open}

-- a fault is the reading's; `NoMemory` may be the answer for any reading
abbrev pub IsFaultOf : {A : Type 0} → Result A CommandFault → CommandFault → Type 0
IsFaultOf read NoMemory = Unit {0}
IsFaultOf read (Wrong what place) = read ≡ Err (Wrong what place)

-- this fault, or that memory ran out
abbrev pub IsOrNoMemory : CommandFault → CommandFault → Type 0
IsOrNoMemory fault NoMemory = Unit {0}
IsOrNoMemory fault (Wrong what place) = Wrong what place ≡ fault

-- what is wrong where a word is missing: a quote that isn't closed comes first
abbrev pub missing : End → LineFault → CommandFault
missing (Closed place) what = Wrong what place
missing (Open place) what = Wrong UnterminatedQuote place

-- a word that counts only without quotes
abbrev pub is_sign : List ℕ → Word → Bool
is_sign text word = word.is_bare && bytes_eq word.text text

-- the dot
abbrev pub is_dot : Word → Bool
is_dot word = is_sign (codes ".") word

-- the words before the first dot, or all of them
abbrev pub before_dot : List Word → List Word
before_dot words = before_first is_dot words

-- the words after the first dot, if there is one
abbrev pub behind_dot : List Word → Option (List Word)
behind_dot words = option_map (λ i. drop (i + 1) words) (position is_dot words)

-- some word stands before the dot
abbrev pub filled : End → LineFault → List Word → Result Unit CommandFault
filled end what [] = Err (missing end what)
filled end what (word ∷ words) = if is_dot word then Err (Wrong what word.place) else Ok tt

-- this word is wrong
abbrev pub wrong_at : LineFault → Option Word → Result Unit CommandFault
wrong_at what None = Ok tt
wrong_at what (Some word) = Err (Wrong what word.place)

-- each text passes the test; the first word whose text doesn't is wrong
abbrev pub all_pass : (List ℕ → Bool) → LineFault → List Word → Result Unit CommandFault
all_pass test what words = wrong_at what (find (λ w. not (test w.text)) words)
