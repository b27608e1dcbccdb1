-- The grammar of trackers, by cases on the text:
-- what its keys say, and at which byte it goes wrong. This project's own, in the style of ben.
use Rattle.std.specs.Prelude.{ℕ, zero, suc, ◌==◌, List, [], Option, Some, None, Result, Ok, Err}
use Rattle.std.specs.Prelude.{length, codes, if◌then◌else◌}
use Rattle.std.specs.Str.{bytes_eq}
use Rattle.td_text.specs.Cut.{cut, strip}
use Rattle.td_text.specs.Lines.{on_ok}
use Rattle.td_text.specs.Runs.{run, behind}
use Rattle.td_query.specs.Query.{Shape}
use Rattle.td_query.specs.Tokens.{skipped, is_key_byte}
use Rattle.td_query.specs.QueryGrammar.{Log, Read, or_at}

-- what the keys have said so far, the last of each, and the patterns under `is_affected`,
-- `is_good` and `is_bad` in their order
pub record Said : Type 0 where
  pub title : List ℕ
  pub affected : Option Shape
  pub good : Option Shape
  pub bad : Option Shape
  pub log : Log

-- before the first key; a title that isn't given is empty
abbrev pub nothing_said : Said
nothing_said = record { title = []; affected = None; good = None; bad = None; log = [] }

-- what is said and what follows; or how much of the text is left at the first byte that nothing can
-- take, and the patterns before it
abbrev pub SaidRead : Type 0
SaidRead = Result (Said × List ℕ) (ℕ × Log)

-- ---- 1. the value of a key

-- a title, up to its closing `"`
abbrev pub titled : Said → Option (List ℕ × List ℕ) → SaidRead
titled s None = Err (0, s.log)
titled s (Some p) = Ok (
  record {
    title = p.0;
    affected = s.affected;
    good = s.good;
    bad = s.bad;
    log = s.log;
  },
  p.1,
)

-- a title is a text; anything else is wrong at its first byte
abbrev pub title_value : Said → ℕ → Option (List ℕ) → SaidRead
title_value s left None = Err (left, s.log)
title_value s left (Some t) = titled s (cut 34 t)

-- a query under `is_affected`, instead of an earlier one
abbrev pub with_affected : Said → Shape × Log × List ℕ → SaidRead
with_affected s x = Ok (
  record {
    title = s.title;
    affected = Some x.0;
    good = s.good;
    bad = s.bad;
    log = x.1;
  },
  x.2,
)

-- a query under `is_good`, instead of an earlier one
abbrev pub with_good : Said → Shape × Log × List ℕ → SaidRead
with_good s x = Ok (
  record {
    title = s.title;
    affected = s.affected;
    good = Some x.0;
    bad = s.bad;
    log = x.1;
  },
  x.2,
)

-- a query under `is_bad`, instead of an earlier one
abbrev pub with_bad : Said → Shape × Log × List ℕ → SaidRead
with_bad s x = Ok (
  record {
    title = s.title;
    affected = s.affected;
    good = s.good;
    bad = Some x.0;
    log = x.1;
  },
  x.2,
)

-- a text or a query under another key is read and says nothing
abbrev pub ignored_text : Said → Option (List ℕ × List ℕ) → SaidRead
ignored_text s None = Err (0, s.log)
ignored_text s (Some p) = Ok (s, p.1)

-- a query under another key says nothing, nor are its patterns kept
abbrev pub ignored_query : Said → Read → SaidRead
ignored_query s (Ok x) = Ok (s, x.2)
ignored_query s (Err e) = Err (e.0, s.log)

-- the value of another key: a text if a `"` opens it, else a query
unfoldable pub other_value : Said → List ℕ → Option (List ℕ) → SaidRead
other_value s t None = ignored_query s (or_at 100 [] t)
other_value s t (Some u) = ignored_text s (cut 34 u)

-- the value of a key, after its `=`
unfoldable pub value_at : List ℕ → Said → List ℕ → SaidRead
value_at key s t =
    if bytes_eq key (codes "title")
    then title_value s (length (skipped t)) (strip (codes "\"") (skipped t))
    else (if bytes_eq key (codes "is_affected") then on_ok (or_at 100 s.log t) (with_affected s)
    else (if bytes_eq key (codes "is_good") then on_ok (or_at 100 s.log t) (with_good s)
    else (if bytes_eq key (codes "is_bad") then on_ok (or_at 100 s.log t) (with_bad s)
    else other_value s t (strip (codes "\"") (skipped t)))))

-- ---- 2. key = value;

-- what is said, if a `;` ends the value; else the text is wrong at the byte that comes instead
abbrev pub ended_by : Said → ℕ → Option (List ℕ) → SaidRead
ended_by s left None = Err (left, s.log)
ended_by s left (Some t) = Ok (s, t)

-- the `;` after a value
unfoldable pub ended : Said × List ℕ → SaidRead
ended x = ended_by x.0 (length (skipped x.1)) (strip (codes ";") (skipped x.1))

-- a value after the key's `=`, if there is one
abbrev pub equalled : List ℕ → Said → ℕ → Option (List ℕ) → SaidRead
equalled key s left None = Err (left, s.log)
equalled key s left (Some t) = on_ok (value_at key s t) ended

-- a key with its value
unfoldable pub entry_at : Said → List ℕ → SaidRead
entry_at s at =
    if length (run is_key_byte at) == 0 then Err (length at, s.log)
    else equalled (run is_key_byte at) s (length (skipped (behind is_key_byte at)))
    (strip (codes "=") (skipped (behind is_key_byte at)))

-- ---- 3. the list of keys

-- what comes after whitespace and comments, if anything does
unfoldable pub front : List ℕ → Option (List ℕ)
front t = if length (skipped t) == 0 then None else Some (skipped t)

-- the key that comes next, if one does, and what follows it
abbrev pub entries_next : (Said → List ℕ → Result Said (ℕ × Log)) → Said → Option (List ℕ)
    → Result Said (ℕ × Log)
entries_next more s None = Ok s
entries_next more s (Some at) = on_ok (entry_at s at) (λ x. more x.0 x.1)

-- keys up to the end, at most this many
unfoldable pub entries : ℕ → Said → List ℕ → Result Said (ℕ × Log)
entries zero s t = Ok s
entries (suc n) s t = entries_next (entries n) s (front t)

-- what a text says; each key takes a byte at least, so there are no more than bytes
abbrev pub said_in : List ℕ → Result Said (ℕ × Log)
said_in text = entries (length text) nothing_said text
