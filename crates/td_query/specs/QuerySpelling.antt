-- How queries are spelled, with whitespace and comments wherever they may stand: a rule for each
-- thing that may be written. No rule says how a text is searched for it, so that they can be held
-- against what is read. This project's own, in the style of ben.
use Rattle.std.specs.Prelude.{◌≡◌, ◌≢◌, ◌⊎◌, ℕ, zero, suc, Bool, true, false, IsTrue, IsFalse, List}
use Rattle.std.specs.Prelude.{[], ◌∷◌, ◌++◌, codes, length}
use Rattle.std.specs.List.{list_all}
use Rattle.td_text.specs.Cut.{Without}
use Rattle.td_text.specs.Runs.{is_space}
use Rattle.td_query.specs.declared.query.Joint.{Joint}
use Rattle.td_query.specs.declared.query.Joint.TheVariants.{And, Or}
use Rattle.td_query.specs.Query.{Shape, always, text, pattern, negated, joined}
use Rattle.td_query.specs.QueryGrammar.{Log, mark_of}
use Rattle.td_query.specs.TokenRules.{IsBetweenSlashes}
use Rattle.td_query.specs.Tokens.{is_key_byte}

-- ---- 1. between tokens

-- whitespace and comments, or nothing; a comment goes from `#` up to the end of its line
pub data IsGap : List ℕ → Type 0 where
  no_gap : IsGap []
  space_gap : (x : ℕ) (gap : List ℕ) → IsTrue (is_space x) → IsGap gap → IsGap (x ∷ gap)
  comment_gap : (words gap : List ℕ) → Without 10 words → IsGap gap
      → IsGap (codes "#" ++ (words ++ 10 ∷ gap))

-- whitespace and comments up to the end of a text, whose last line may be a comment, too
pub data IsLastGap (t : List ℕ) : Type 0 where
  closed_gap : IsGap t → IsLastGap t
  open_gap : (gap words : List ℕ) → IsGap gap → Without 10 words
      → t ≡ gap ++ (codes "#" ++ words) → IsLastGap t

-- after whitespace and comments, or nothing, come these bytes, and then the rest
pub record Stands (bytes t rest : List ℕ) : Type 0 where
  pub gap : List ℕ
  pub between : IsGap gap
  pub spelled : t ≡ gap ++ (bytes ++ rest)

-- ---- 2. words

-- a word ends here: the text goes on with no byte that words have
abbrev pub EndsWord : List ℕ → Type 0
EndsWord [] = Unit {0}
EndsWord (b ∷ t) = IsFalse (is_key_byte b)

-- a key, or the name of a field
abbrev pub IsKey : List ℕ → Type 0
IsKey word = (word ≢ []) × IsTrue (list_all is_key_byte word)

-- ---- 3. atoms

-- the words for what always holds and for what never does
abbrev pub constant_text : Bool → List ℕ
constant_text true = codes "true"
constant_text false = codes "false"

-- `.field ~`, up to the `~`; the name is right after the dot
pub record SpellsField (name t rest : List ℕ) : Type 0 where
  pub behind : List ℕ
  pub dot : Stands (codes ".") t (name ++ behind)
  pub legal : IsKey name
  pub ends : EndsWord behind
  pub tilde : Stands (codes "~") behind rest

-- With these patterns before it a text begins with an atom that has this meaning, with these
-- patterns after it, and then comes the rest. A pattern is kept with what is between its
-- slashes, and with how much of the text is left at the first of them
pub data SpellsAtom (log : Log) (t : List ℕ) (s : Shape) (after : Log)
    (rest : List ℕ) : Type 0 where
  -- `true` or `false`
  constant : (answer : Bool) → Stands (constant_text answer) t rest → EndsWord rest
      → s ≡ always answer → after ≡ log → SpellsAtom log t s after rest
  -- `.field ~ "text"`
  field_text : (name value u : List ℕ) → SpellsField name t u
      → Stands (codes "\"") u (value ++ (codes "\"" ++ rest)) → Without 34 value
      → s ≡ text name value → after ≡ log → SpellsAtom log t s after rest
  -- `.field ~ /pattern/`
  field_pattern : (name raw u : List ℕ) → SpellsField name t u
      → Stands (codes "/") u (raw ++ (codes "/" ++ rest)) → IsBetweenSlashes raw
      → s ≡ pattern name (length log)
      → after ≡ log ++ record {
        left = length (codes "/" ++ (raw ++ (codes "/" ++ rest)));
        raw = raw;
      } ∷ []
      → SpellsAtom log t s after rest

-- ---- 4. chains

-- what a rule says: with these patterns before it a text begins with what has this meaning, with
-- these patterns after it, and then comes the rest
abbrev pub Rule : Type 1
Rule = Log → List ℕ → Shape → Log → List ℕ → Type 0

-- {mark part}: a part for each of these meanings, a mark before each
abbrev pub SpellsMore : List ℕ → Rule → List Shape → Log → List ℕ → Log → List ℕ → Type 0
SpellsMore mark Part [] log t after rest = (after ≡ log) × (rest ≡ t)
SpellsMore mark Part (s ∷ shapes) log t after rest = (u v : List ℕ) × (one : Log)
    × Stands mark t u × Part log u s one v × SpellsMore mark Part shapes one v after rest

-- part {mark part}, with what the mark makes of the parts' meanings
pub record SpellsJoined (joint : Joint) (Part : Rule) (log : Log) (t : List ℕ) (s : Shape)
    (after : Log) (rest : List ℕ) : Type 0 where
  pub first : Shape
  pub others : List Shape
  pub joins : s ≡ joined joint (first ∷ others)
  pub one : Log
  pub behind : List ℕ
  pub head : Part log t first one behind
  pub tail : SpellsMore (mark_of joint) Part others one behind after rest

-- part {"&" part}
abbrev pub SpellsAll : Rule → Log → List ℕ → Shape → Log → List ℕ → Type 0
SpellsAll Part log t s after rest = SpellsJoined And Part log t s after rest

-- all {"|" all}
abbrev pub SpellsAny : Rule → Log → List ℕ → Shape → Log → List ℕ → Type 0
SpellsAny Part log t s after rest = SpellsJoined Or (SpellsAll Part) log t s after rest

-- ---- 5. `!` and brackets

-- `!` and a part
pub record SpellsNot (Part : Rule) (log : Log) (t : List ℕ) (s : Shape) (after : Log)
    (rest : List ℕ) : Type 0 where
  pub behind : List ℕ
  pub bang : Stands (codes "!") t behind
  pub inner : Shape
  pub part : Part log behind inner after rest
  pub negates : s ≡ negated inner

-- a query in brackets
pub record SpellsBrackets (Part : Rule) (log : Log) (t : List ℕ) (s : Shape) (after : Log)
    (rest : List ℕ) : Type 0 where
  pub behind : List ℕ
  pub opens : Stands (codes "(") t behind
  pub end : List ℕ
  pub query : SpellsAny Part log behind s after end
  pub closes : Stands (codes ")") end rest

-- a part, with at most this many brackets and `!` open at any place: an atom, or `!` or brackets
-- before what has one less
unfoldable pub SpellsPart : ℕ → Log → List ℕ → Shape → Log → List ℕ → Type 0
SpellsPart zero log t s after rest = SpellsAtom log t s after rest
SpellsPart (suc depth) log t s after rest = SpellsAtom log t s after rest
    ⊎ (SpellsNot (SpellsPart depth) log t s after rest
    ⊎ SpellsBrackets (SpellsPart depth) log t s after rest)

-- a query, with at most this many brackets and `!` open at any place
abbrev pub SpellsQuery : ℕ → Log → List ℕ → Shape → Log → List ℕ → Type 0
SpellsQuery depth log t s after rest = SpellsAny (SpellsPart depth) log t s after rest
