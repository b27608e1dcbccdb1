-- How an atom is read, by what stands in its text. This project's own, in the style of ben.
use Rattle.std.specs.Prelude.{◌≡◌, ℕ, ◌<◌, true, false, List, [], ◌∷◌, ◌++◌, Some, codes, length}
use Rattle.td_text.specs.Cut.{cut}
use Rattle.td_text.specs.Runs.{run, behind}
use Rattle.td_query.specs.Query.{always, text, pattern}
use Rattle.td_query.specs.QueryGrammar.{Log}
use Rattle.td_query.specs.QueryRules.{Comes, IsPart}
use Rattle.td_query.specs.Tokens.{is_key_byte, pattern_in, skipped}

-- a text begins with this word, with none of a key's bytes after it, and then comes the rest
abbrev pub IsWord : List ℕ → List ℕ → List ℕ → Type 0
IsWord word t rest = (run is_key_byte t ≡ word) × (behind is_key_byte t ≡ rest)

-- `true` always holds
abbrev pub TrueIsRead : Type 0
TrueIsRead = (depth : ℕ) (log : Log) (t rest : List ℕ) → IsWord (codes "true") (skipped t) rest
    → IsPart depth log t (always true) log rest

-- `false` never holds
abbrev pub FalseIsRead : Type 0
FalseIsRead = (depth : ℕ) (log : Log) (t rest : List ℕ) → IsWord (codes "false") (skipped t) rest
    → IsPart depth log t (always false) log rest

-- first comes a dot, right after it a field's name, then a `~`, and then the rest
abbrev pub IsTested : List ℕ → List ℕ → List ℕ → Type 0
IsTested name t rest = (u : List ℕ) × (v : List ℕ) × Comes (codes ".") t u × IsWord name u v
    × (0 < length name) × Comes (codes "~") v rest

-- `.field ~ "text"` has the text up to the next `"`
abbrev pub TextsAreRead : Type 0
TextsAreRead = (depth : ℕ) (log : Log) (t v w name s rest : List ℕ) → IsTested name t v
    → Comes (codes "\"") v w → cut 34 w ≡ Some (s, rest) → IsPart depth log t (text name s) log rest

-- `.field ~ /pattern/` has the next number, under which its text up to the closing `/` is kept
abbrev pub PatternsAreRead : Type 0
PatternsAreRead = (depth : ℕ) (log : Log) (t v w name raw rest : List ℕ) → IsTested name t v
    → Comes (codes "/") v w → pattern_in w ≡ Some (raw, rest)
    → IsPart depth log t (pattern name (length log))
    (log ++ record { left = length (codes "/" ++ w); raw = raw } ∷ []) rest
