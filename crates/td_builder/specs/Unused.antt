-- The outcome lines of each key, and which of them is used next. This project's own.
use Rattle.std.specs.Prelude.{◌≡◌, ◌⊎◌, ℕ, ◌+◌, List, [], ◌∷◌, ◌++◌, Vec, Some, None, map}
use Rattle.std.specs.Prelude.{Option, length, position, replicate, slice_get, slice_set}
use Rattle.std.specs.Prelude.{if◌then◌else◌}
use Rattle.std.specs.Map.{keys_of, lookup}
use Rattle.std.specs.declared.alloc.Global.{Global}
use Rattle.td_board.specs.declared.outcome.OutcomeCode.{OutcomeCode}
use Rattle.td_board.specs.declared.outcome.OutcomeCode.TheVariants as code
use Rattle.td_rows.specs.declared.key.Key.{Key}
use Rattle.td_rows.specs.declared.outcome.Outcome.{Outcome}
use Rattle.td_rows.specs.declared.outcome.Outcome.TheVariants.{Built, Attempted, GivenBack, Waits}
use Rattle.td_rows.specs.Keys.{same_key}
use Rattle.td_journal.specs.Endings.{outcome_text}
use Rattle.td_book.specs.Deeds.{code_of}
use Rattle.td_builder.specs.declared.key_line.KeyLine.{KeyLine}
use Rattle.td_builder.specs.declared.outcomes.Outcomes.{Outcomes}

-- the lines of keys
abbrev pub KeyLines : Type 0
KeyLines = List (Key × Vec KeyLine Global)

-- the lines of a key, in their order
abbrev pub lines_of_key : KeyLines → Key → List KeyLine
lines_of_key m k = elim (lookup (same_key k) m) [ Some v ↦ v.items | None ↦ [] ]

-- a key's lines, once the line of another key or of this one is read
abbrev pub with_line : Key → Key → KeyLine → List KeyLine → List KeyLine
with_line k key line lines = if same_key k key then lines ++ line ∷ [] else lines

-- the ends of a key among these, in order, each with the number of its line; the first has the
-- number given
abbrev pub numbered : Key → ℕ → List (Key × Outcome) → List KeyLine
numbered k n [] = []
numbered k n (p ∷ os) =
    if same_key k p.0 then record { code = code_of p.1; line = n }
    ∷ numbered k (n + 1) os else numbered k (n + 1) os

-- the codes that the lines of a key have, in their order
abbrev pub codes_in : Key → List (Key × Outcome) → List OutcomeCode
codes_in k [] = []
codes_in k (p ∷ os) = if same_key k p.0 then code_of p.1 ∷ codes_in k os else codes_in k os

-- the codes of a key's outcomes
abbrev pub codes_of : Outcomes → Key → List OutcomeCode
codes_of o k = map (λ (l : KeyLine). l.code) (lines_of_key o.lines.entries k)

-- no line of these keys was used: each has the code and the text of its end, by the lines' numbers
pub record AreUnused (m : KeyLines) (used : List ℕ) (texts : List (List ℕ)) : Type 0 where
  pub ends : List (Key × Outcome)
  pub lines : (k : Key) → lines_of_key m k ≡ numbered k 0 ends
  pub texts_are : texts ≡ map (λ p. outcome_text p.1) ends
  pub none_used : used ≡ replicate (length m) 0

-- a code that a line has, or built
abbrev pub MayAnswer : List OutcomeCode → OutcomeCode → Type 0
MayAnswer codes c = (c ≡ code.Built) ⊎ ((at : ℕ) × (slice_get codes at ≡ Some c))

-- the outcome of a code, with the text if it waits
abbrev pub outcome_of : OutcomeCode → List ℕ → Outcome
outcome_of code.Built t = Built
outcome_of code.Attempted t = Attempted
outcome_of code.GivenBack t = GivenBack
outcome_of code.Waits t = Waits t

-- the next line of the key in this slot: it is the one after those that were used, and its text is
-- there
pub record IsNext (slot : ℕ) (lines : List KeyLine) (used : List ℕ)
    (texts : List (List ℕ)) : Type 0 where
  pub number : ℕ
  pub line : KeyLine
  pub text : List ℕ
  pub used_at : slice_get used slot ≡ Some number
  pub line_at : slice_get lines number ≡ Some line
  pub text_at : slice_get texts line.line ≡ Some text

-- the outcome is that of the next line, which is used now
pub record IsTaken (slot : ℕ) (lines : List KeyLine) (used used' : List ℕ)
    (texts texts' : List (List ℕ)) (o : Outcome) : Type 0 where
  pub next : IsNext slot lines used texts
  pub outcome : o ≡ outcome_of next.line.code next.text
  pub counted : used' ≡ slice_set used slot (next.number + 1)
  pub moved : texts' ≡ slice_set texts next.line.line []

-- the place of a key among the keys with lines
abbrev pub slot_of : KeyLines → Key → Option ℕ
slot_of m k = position (same_key k) (keys_of m)

-- the next line of the key
abbrev pub IsNextOf : KeyLines → Key → List ℕ → List (List ℕ) → Type 0
IsNextOf m k used texts =
    (slot : ℕ) × (slot_of m k ≡ Some slot) × IsNext slot (lines_of_key m k) used texts

-- the outcome is that of the next line of the key, which is used now
abbrev pub IsTakenOf : KeyLines → Key → List ℕ → List ℕ → List (List ℕ) → List (List ℕ) → Outcome
    → Type 0
IsTakenOf m k used used' texts texts' o =
    (slot : ℕ) × (slot_of m k ≡ Some slot)
    × IsTaken slot (lines_of_key m k) used used' texts texts' o
