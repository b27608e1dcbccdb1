-- A tracker, without where it lies in memory, and which text it is read from. This project's own.
use Rattle.std.specs.Prelude.{◌≡◌, ℕ, List, Some, map, Ok}
use Rattle.std.specs.List.{AllZip}
use Rattle.regex.specs.Patterns.{Re}
use Rattle.regex.specs.Strings.{regex_pattern, regex_source}
use Rattle.td_query.specs.declared.tracker.Tracker.{Tracker}
use Rattle.td_query.specs.Query.{Shape, shape_of}
use Rattle.td_query.specs.Sources.{source_of, AreDefault, ArePatterns, IsReadAs}
use Rattle.td_query.specs.TrackerGrammar.{Said, said_in}

-- a title, three queries, and the patterns that they name by their numbers: as they are written and
-- as `regex` reads them
pub record Tracking : Type 0 where
  pub title : List ℕ
  pub affected : Shape
  pub good : Shape
  pub bad : Shape
  pub sources : List (List ℕ)
  pub patterns : List Re

-- what a `Tracker` holds
abbrev pub tracking : Tracker → Tracking
tracking t = record {
  title = t.title.now;
  affected = shape_of t.affected;
  good = shape_of t.good;
  bad = shape_of t.bad;
  sources = map regex_source t.patterns.items;
  patterns = map regex_pattern t.patterns.items;
}

-- the tracker has what a text says, each key that it needs among it, and these patterns
pub record IsSaid (s : Said) (texts : List (List ℕ)) (t : Tracking) : Type 0 where
  pub title : t.title ≡ s.title
  pub affected : s.affected ≡ Some t.affected
  pub good : s.good ≡ Some t.good
  pub bad : s.bad ≡ Some t.bad
  pub sources : t.sources ≡ texts

-- a text is the tracker's: the tracker holds what the text's keys say, and each of its patterns is
-- what the grammar of `regex` reads in the pattern's text
pub record IsTracker (text : List ℕ) (t : Tracking) : Type 0 where
  pub says : Said
  pub read : said_in text ≡ Ok says
  pub held : IsSaid says (map source_of says.log) t
  pub are_patterns : ArePatterns says.log
  pub compiled : AllZip IsReadAs t.sources t.patterns

-- a tracker's patterns are compiled with the default options and within the default limit of size
abbrev pub AreCompiled : Tracker → Type 0
AreCompiled t = AreDefault t.patterns.items
