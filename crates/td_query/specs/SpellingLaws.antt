-- That texts are read as they are spelled: the readers' grammar reads what the rules of spelling
-- say, and nothing else. This project's own, in the style of ben.
use Rattle.std.specs.Prelude.{◌≡◌, ◌≢◌, ◌↔◌, ℕ, IsFalse, List, [], ◌∷◌, Ok, codes}
use Rattle.td_text.specs.Runs.{is_space}
use Rattle.td_query.specs.Query.{Shape}
use Rattle.td_query.specs.QueryGrammar.{Log, not_in, or_at}
use Rattle.td_query.specs.QuerySpelling.{IsLastGap, SpellsPart, SpellsQuery, Stands}
use Rattle.td_query.specs.Tokens.{skipped}
use Rattle.td_query.specs.TrackerGrammar.{Said, said_in}
use Rattle.td_query.specs.TrackerSpelling.{SpellsTracker}

-- a byte that is no whitespace and begins no comment is the first that isn't skipped if and only if
-- it comes after whitespace and comments
abbrev pub GapsAreExact : Type 0
GapsAreExact = (x : ℕ) (t rest : List ℕ) → IsFalse (is_space x) → x ≢ 35
    → (skipped t ≡ x ∷ rest) ↔ Stands (x ∷ []) t rest

-- all of a text is skipped if and only if it is of whitespace and comments
abbrev pub LastGapsAreExact : Type 0
LastGapsAreExact = (t : List ℕ) → (skipped t ≡ []) ↔ IsLastGap t

-- a part is read at the front of a text if and only if the text spells it
abbrev pub PartsAreExact : Type 0
PartsAreExact = (depth : ℕ) (log after : Log) (t rest : List ℕ) (s : Shape)
    → (not_in depth log t ≡ Ok (s, after, rest)) ↔ SpellsPart depth log t s after rest

-- neither `&` nor `|` comes next
pub record NoMark (t : List ℕ) : Type 0 where
  pub no_and : (rest : List ℕ) → Stands (codes "&") t rest → ⊥
  pub no_or : (rest : List ℕ) → Stands (codes "|") t rest → ⊥

-- if neither mark comes after it, a query is read at the front of a text if and only if the text
-- spells it
abbrev pub QueriesAreExact : Type 0
QueriesAreExact = (depth : ℕ) (log after : Log) (t rest : List ℕ) (s : Shape) → NoMark rest
    → (or_at depth log t ≡ Ok (s, after, rest)) ↔ SpellsQuery depth log t s after rest

-- the keys of a text say this if and only if the text spells it
abbrev pub TrackersAreExact : Type 0
TrackersAreExact = (text : List ℕ) (s : Said) → (said_in text ≡ Ok s) ↔ SpellsTracker text s
