-- The rules of queries, each by what its parts are read as. This project's own, in the style of
-- ben.
use Rattle.std.specs.Prelude.{◌≡◌, ℕ, suc, List, ◌++◌, None, Ok, codes}
use Rattle.td_query.specs.Query.{Shape, negated, both, either}
use Rattle.td_query.specs.QueryGrammar.{Log, behind_mark, not_in, or_at}
use Rattle.td_query.specs.Tokens.{skipped}

-- with this many brackets and `!` left to open, a text begins with a part that `&` joins: this
-- query, with these patterns before it and after it, and then comes the rest
abbrev pub IsPart : ℕ → Log → List ℕ → Shape → Log → List ℕ → Type 0
IsPart depth log t s after rest = not_in depth log t ≡ Ok (s, after, rest)

-- with this many brackets and `!` left to open, a text begins with this query, then comes the rest
abbrev pub IsWhole : ℕ → Log → List ℕ → Shape → Log → List ℕ → Type 0
IsWhole depth log t s after rest = or_at depth log t ≡ Ok (s, after, rest)

-- after whitespace and comments come these bytes, and then the rest
abbrev pub Comes : List ℕ → List ℕ → List ℕ → Type 0
Comes bytes t rest = skipped t ≡ bytes ++ rest

-- neither mark comes after whitespace and comments
abbrev pub IsOver : List ℕ → Type 0
IsOver t = (behind_mark (codes "&") t ≡ None) × (behind_mark (codes "|") t ≡ None)

-- ---- 1. parts

-- `!` negates the part after it
abbrev pub NegationsAreRead : Type 0
NegationsAreRead = (depth : ℕ) (log after : Log) (t u rest : List ℕ) (s : Shape)
    → Comes (codes "!") t u → IsPart depth log u s after rest
    → IsPart (suc depth) log t (negated s) after rest

-- brackets make a part of a query
abbrev pub BracketsAreRead : Type 0
BracketsAreRead = (depth : ℕ) (log after : Log) (t u v rest : List ℕ) (s : Shape)
    → Comes (codes "(") t u → IsWhole depth log u s after v → Comes (codes ")") v rest
    → IsPart (suc depth) log t s after rest

-- ---- 2. `&` and `|`

-- a part by itself is a query
abbrev pub PartsAreRead : Type 0
PartsAreRead = (depth : ℕ) (log after : Log) (t rest : List ℕ) (s : Shape)
    → IsPart depth log t s after rest → IsOver rest → IsWhole depth log t s after rest

-- two parts with `&` between them are a query
abbrev pub ConjunctionsAreRead : Type 0
ConjunctionsAreRead = (depth : ℕ) (log one two : Log) (t u v rest : List ℕ) (a b : Shape)
    → IsPart depth log t a one u → Comes (codes "&") u v → IsPart depth one v b two rest
    → IsOver rest → IsWhole depth log t (both a b) two rest

-- two parts with `|` between them are a query
abbrev pub DisjunctionsAreRead : Type 0
DisjunctionsAreRead = (depth : ℕ) (log one two : Log) (t u v rest : List ℕ) (a b : Shape)
    → IsPart depth log t a one u → Comes (codes "|") u v → IsPart depth one v b two rest
    → IsOver rest → IsWhole depth log t (either a b) two rest

-- `a & b | c`: `&` binds before `|`
abbrev pub AndBindsBeforeOr : Type 0
AndBindsBeforeOr = (depth : ℕ) (log one two three : Log) (t u v w x rest : List ℕ) (a b c : Shape)
    → IsPart depth log t a one u → Comes (codes "&") u v → IsPart depth one v b two w
    → Comes (codes "|") w x → IsPart depth two x c three rest → IsOver rest
    → IsWhole depth log t (either (both a b) c) three rest

-- `a | b & c`: `&` binds before `|`
abbrev pub AndBindsBehindOr : Type 0
AndBindsBehindOr = (depth : ℕ) (log one two three : Log) (t u v w x rest : List ℕ) (a b c : Shape)
    → IsPart depth log t a one u → Comes (codes "|") u v → IsPart depth one v b two w
    → Comes (codes "&") w x → IsPart depth two x c three rest → IsOver rest
    → IsWhole depth log t (either a (both b c)) three rest

-- ---- 3. three parts

-- `a & b & c` is read as `a & (b & c)`
abbrev pub LongConjunctionsAreRead : Type 0
LongConjunctionsAreRead = (depth : ℕ) (log one two three : Log) (t u v w x rest : List ℕ)
    (a b c : Shape)
    → IsPart depth log t a one u → Comes (codes "&") u v → IsPart depth one v b two w
    → Comes (codes "&") w x → IsPart depth two x c three rest → IsOver rest
    → IsWhole depth log t (both a (both b c)) three rest

-- `a | b | c` is read as `a | (b | c)`
abbrev pub LongDisjunctionsAreRead : Type 0
LongDisjunctionsAreRead = (depth : ℕ) (log one two three : Log) (t u v w x rest : List ℕ)
    (a b c : Shape)
    → IsPart depth log t a one u → Comes (codes "|") u v → IsPart depth one v b two w
    → Comes (codes "|") w x → IsPart depth two x c three rest → IsOver rest
    → IsWhole depth log t (either a (either b c)) three rest

-- ---- 4. `!` before `&` and `|`

-- `!a & b`: `!` binds before `&`
abbrev pub NotBindsBeforeAnd : Type 0
NotBindsBeforeAnd = (depth : ℕ) (log one two : Log) (t u v w rest : List ℕ) (a b : Shape)
    → Comes (codes "!") t u → IsPart depth log u a one v → Comes (codes "&") v w
    → IsPart (suc depth) one w b two rest → IsOver rest
    → IsWhole (suc depth) log t (both (negated a) b) two rest

-- `!a | b`: `!` binds before `|`
abbrev pub NotBindsBeforeOr : Type 0
NotBindsBeforeOr = (depth : ℕ) (log one two : Log) (t u v w rest : List ℕ) (a b : Shape)
    → Comes (codes "!") t u → IsPart depth log u a one v → Comes (codes "|") v w
    → IsPart (suc depth) one w b two rest → IsOver rest
    → IsWhole (suc depth) log t (either (negated a) b) two rest
