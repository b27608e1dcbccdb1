-- Where the readers of a tracker may want memory: no sooner than an atom can be read.
-- This project's own.
use Rattle.std.specs.Prelude.{◌⊎◌, ℕ, zero, suc, ◌<◌, Bool, true, false, List, Ok, Err, IsOk}
use Rattle.std.specs.Prelude.{codes, length}
use Rattle.td_text.specs.Runs.{run, behind}
use Rattle.td_query.specs.Query.{Shape, always, text, pattern, negated, both, either}
use Rattle.td_query.specs.QueryGrammar.{Log, Read, atom}
use Rattle.td_query.specs.QueryRules.{Comes}
use Rattle.td_query.specs.Tokens.{is_key_byte, skipped}

-- a query that is a pattern in a field
abbrev pub is_pattern : Shape → Bool
is_pattern (always answer) = false
is_pattern (text field t) = false
is_pattern (pattern field number) = true
is_pattern (negated s) = false
is_pattern (both s t) = false
is_pattern (either s t) = false

-- a pattern can be read; no other atom takes memory, and a pattern does since its text is kept
abbrev pub reads_pattern : Read → Bool
reads_pattern (Ok x) = is_pattern x.0
reads_pattern (Err e) = false

-- an atom can be read at the front of a text
abbrev pub IsAtom : List ℕ → Type 0
IsAtom t = (log : Log) × IsOk (atom log (skipped t))

-- an atom can be read at the front of a text, or after at most this many `!` and `(` there
unfoldable pub IsBegun : ℕ → List ℕ → Type 0
IsBegun zero t = IsAtom t
IsBegun (suc depth) t =
    IsAtom t ⊎ ((u : List ℕ) × (Comes (codes "!") t u ⊎ Comes (codes "(") t u) × IsBegun depth u)

-- a key comes first, and after its `=` the beginning of a query
abbrev pub IsEntryBegun : List ℕ → Type 0
IsEntryBegun at =
    (0 < length (run is_key_byte at))
    × ((u : List ℕ) × Comes (codes "=") (behind is_key_byte at) u × IsBegun 100 u)
