-- What the place of a wrong byte says: that no text which begins so is read, and that what stands
-- before it can go on. So it is the first byte that no continuation allows. This project's own.
use Rattle.std.specs.Prelude.{◌≡◌, ◌⊎◌, ℕ, suc, ◌≤◌, IsSome, IsUtf8, List, [], ◌∷◌, ◌++◌, None, Ok}
use Rattle.std.specs.Prelude.{Err, codes, length}
use Rattle.regex.specs.Failures.{IsPattern}
use Rattle.regex.specs.Patterns.{default_config}
use Rattle.td_query.specs.declared.tracker_fault.TrackerFault.TheVariants.{Syntax}
use Rattle.td_query.specs.QueryGrammar.{Log}
use Rattle.td_query.specs.Sources.{unescaped}
use Rattle.td_query.specs.TokenRules.{IsBetweenSlashes}
use Rattle.td_query.specs.Tokens.{pattern_in}
use Rattle.td_query.specs.TrackerFaults.{FaultOf}
use Rattle.td_query.specs.TrackerGrammar.{Said, said_in}
use Rattle.td_query.specs.Tracking.{IsTracker, Tracking}

-- ---- 1. the wrong byte

-- the place of a wrong byte is in the text, or its end
abbrev pub WrongBytesAreThere : Type 0
WrongBytesAreThere =
    (text : List ℕ) (left : ℕ) (log : Log) → said_in text ≡ Err (left, log) → left ≤ length text

-- a text with a wrong byte is refused at this byte whatever comes after it
abbrev pub WrongBytesAreFinal : Type 0
WrongBytesAreFinal = (front rest other : List ℕ) (x : ℕ) (log : Log)
    → said_in (front ++ x ∷ rest) ≡ Err (suc (length rest), log)
    → (kept : Log) × (said_in (front ++ x ∷ other) ≡ Err (suc (length other), kept))

-- ---- 2. what is before the wrong byte

-- the keys say all three queries
abbrev pub SaysAll : Said → Type 0
SaysAll s = IsSome s.affected × IsSome s.good × IsSome s.bad

-- a wrong byte is never inside a character: what is before it is of characters, if the text is
abbrev pub RightBytesAreText : Type 0
RightBytesAreText = (front rest : List ℕ) (log : Log)
    → said_in (front ++ rest) ≡ Err (length rest, log) → IsUtf8 (front ++ rest) → IsUtf8 front

-- what is before a wrong byte, or before the end of a text that ends too early, begins a text that
-- is read and says all three queries; it goes on with characters
abbrev pub RightBytesGoOn : Type 0
RightBytesGoOn = (front rest : List ℕ) (log : Log)
    → said_in (front ++ rest) ≡ Err (length rest, log)
    → (other : List ℕ) × IsUtf8 other × (s : Said) × (said_in (front ++ other) ≡ Ok s) × SaysAll s

-- A text ends inside a pattern: after the pattern's opening `/` comes this much of it, and no `/`
-- that closes it. Whatever makes it a pattern that `regex` reads makes the text go on to a tracker
pub record IsInPattern (text : List ℕ) : Type 0 where
  pub before : List ℕ
  pub raw : List ℕ
  pub is : text ≡ before ++ (codes "/" ++ raw)
  pub stays : pattern_in raw ≡ None
  pub goes : (bytes : List ℕ) → IsBetweenSlashes (raw ++ bytes)
      → IsPattern default_config (unescaped (raw ++ bytes))
      → (other : List ℕ) × (t : Tracking) × IsUtf8 other
      × IsTracker (text ++ (bytes ++ (codes "/" ++ other))) t

-- what is before a wrong byte begins a tracker. So does a text that ends too early, if it doesn't
-- end inside a pattern; inside a pattern it depends on that
abbrev pub RightBytesAreOfTrackers : Type 0
RightBytesAreOfTrackers = (front rest : List ℕ) → FaultOf (front ++ rest) (Syntax (length front))
    → ((other : List ℕ) × (t : Tracking) × IsUtf8 other × IsTracker (front ++ other) t)
    ⊎ ((rest ≡ []) × IsInPattern front)
