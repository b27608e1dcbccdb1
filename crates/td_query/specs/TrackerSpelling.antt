-- How trackers are spelled, with whitespace and comments wherever they may stand: a rule for each
-- key. This project's own, in the style of ben.
use Rattle.std.specs.Prelude.{◌≡◌, ◌≢◌, ℕ, List, [], ◌++◌, Some, codes}
use Rattle.td_text.specs.Cut.{Without}
use Rattle.td_query.specs.Query.{Shape}
use Rattle.td_query.specs.QueryGrammar.{Log}
use Rattle.td_query.specs.QuerySpelling.{EndsWord, IsKey, IsLastGap, SpellsQuery, Stands}
use Rattle.td_query.specs.TrackerGrammar.{Said, nothing_said}

-- a text between two `"`, and what comes after it
abbrev pub SpellsText : List ℕ → List ℕ → List ℕ → Type 0
SpellsText value t rest =
    Stands (codes "\"") t (value ++ (codes "\"" ++ rest)) × Without 34 value

-- a key of which nothing is kept
pub record IsOtherKey (key : List ℕ) : Type 0 where
  pub title : key ≢ codes "title"
  pub affected : key ≢ codes "is_affected"
  pub good : key ≢ codes "is_good"
  pub bad : key ≢ codes "is_bad"

-- With this said before it a text begins with a value of the key, with this said after it, and then
-- comes the rest. At most 100 brackets and `!` are open at any place
pub data SpellsValue (key : List ℕ) (s : Said) (t : List ℕ) (after : Said)
    (rest : List ℕ) : Type 0 where
  -- a title
  title_text : (value : List ℕ) → key ≡ codes "title" → SpellsText value t rest
      → after ≡ record s { title = value } → SpellsValue key s t after rest
  -- a query, whose patterns come after those before it
  affected_query : (query : Shape) (log : Log) → key ≡ codes "is_affected"
      → SpellsQuery 100 s.log t query log rest
      → after ≡ record s { affected = Some query; log = log } → SpellsValue key s t after rest
  good_query : (query : Shape) (log : Log) → key ≡ codes "is_good"
      → SpellsQuery 100 s.log t query log rest
      → after ≡ record s { good = Some query; log = log } → SpellsValue key s t after rest
  bad_query : (query : Shape) (log : Log) → key ≡ codes "is_bad"
      → SpellsQuery 100 s.log t query log rest
      → after ≡ record s { bad = Some query; log = log } → SpellsValue key s t after rest
  -- a text or a query under another key says nothing
  other_text : (value : List ℕ) → IsOtherKey key → SpellsText value t rest → after ≡ s
      → SpellsValue key s t after rest
  other_query : (query : Shape) (log : Log) → IsOtherKey key → SpellsQuery 100 [] t query log rest
      → after ≡ s → SpellsValue key s t after rest

-- `key = value;`
pub record SpellsEntry (s : Said) (t : List ℕ) (after : Said) (rest : List ℕ) : Type 0 where
  pub key : List ℕ
  pub behind : List ℕ
  pub there : Stands key t behind
  pub legal : IsKey key
  pub ends : EndsWord behind
  pub value : List ℕ
  pub equals : Stands (codes "=") behind value
  pub end : List ℕ
  pub says : SpellsValue key s value after end
  pub semicolon : Stands (codes ";") end rest

-- With this said before it a text is of keys with their values, with this said after it
pub data SpellsKeys (after : Said) : Said → List ℕ → Type 0 where
  -- no key is left
  no_key : (s : Said) (t : List ℕ) → IsLastGap t → after ≡ s → SpellsKeys after s t
  -- a key, and then others
  one_key : (s one : Said) (t rest : List ℕ) → SpellsEntry s t one rest → SpellsKeys after one rest
      → SpellsKeys after s t

-- a text's keys say this
abbrev pub SpellsTracker : List ℕ → Said → Type 0
SpellsTracker text s = SpellsKeys s nothing_said text
