-- What the values of a tracker's keys say. This project's own, in the style of ben.
use Rattle.std.specs.Prelude.{◌≡◌, ℕ, ◌<◌, List, ◌++◌, Some, Ok, codes, length}
use Rattle.td_text.specs.Cut.{cut}
use Rattle.td_query.specs.AtomRules.{IsWord}
use Rattle.td_query.specs.Query.{Shape}
use Rattle.td_query.specs.QueryGrammar.{Log, or_at}
use Rattle.td_query.specs.QueryRules.{Comes}
use Rattle.td_query.specs.Tokens.{skipped}
use Rattle.td_query.specs.TrackerGrammar.{Said, entry_at, value_at}

-- a key that needs a query says this query, instead of an earlier one; otherwise only the patterns
-- change
pub record SaysQueries (s : Said) (t : List ℕ) (query : Shape) (log : Log)
    (rest : List ℕ) : Type 0 where
  pub affected : value_at (codes "is_affected") s t
      ≡ Ok (record s { affected = Some query; log = log }, rest)
  pub good : value_at (codes "is_good") s t ≡ Ok (record s { good = Some query; log = log }, rest)
  pub bad : value_at (codes "is_bad") s t ≡ Ok (record s { bad = Some query; log = log }, rest)

-- if a value is read as a query, a key that needs a query says it
abbrev pub QueriesAreSaid : Type 0
QueriesAreSaid = (s : Said) (t : List ℕ) (query : Shape) (log : Log) (rest : List ℕ)
    → or_at 100 s.log t ≡ Ok (query, log, rest) → SaysQueries s t query log rest

-- the title is what is between two `"`, instead of an earlier one
abbrev pub TitlesAreSaid : Type 0
TitlesAreSaid = (s : Said) (t u title rest : List ℕ) → skipped t ≡ codes "\"" ++ u
    → cut 34 u ≡ Some (title, rest)
    → value_at (codes "title") s t ≡ Ok (record s { title = title }, rest)

-- `key = value;` says what the value says under the key
abbrev pub EntriesAreSaid : Type 0
EntriesAreSaid = (s said : Said) (t key u v w rest : List ℕ) → IsWord key t u → 0 < length key
    → Comes (codes "=") u v → value_at key s v ≡ Ok (said, w) → Comes (codes ";") w rest
    → entry_at s t ≡ Ok (said, rest)
