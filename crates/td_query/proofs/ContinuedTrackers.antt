-- How a tracker that goes wrong at some byte can go on: what is before the byte begins another.
use Rattle.std.proofs.Common.{◌≡◌, ◌⊎◌, ℕ, zero, suc, true, List, [], ◌∷◌, ◌++◌, length}
use Rattle.std.proofs.Common.{length-append, Option, Some, None, Result, Ok, Err, refl, sym, ap}
use Rattle.std.proofs.Common.{subst, ◌∙◌, inl, inr, append_assoc, append-nil, arith}
use Rattle.std.specs.Prelude.{IsSome, codes}
use Rattle.std.specs.List.{list_all}
use Rattle.std.specs.Str.{IsUtf8}
use Rattle.std.proofs.lemmas.Bool.{false≢true}
use Rattle.std.proofs.lemmas.Str.{IsUtf8-nil}
use Rattle.regex.specs.Failures.{IsPattern}
use Rattle.regex.specs.Patterns.{default_config}
use Rattle.td_text.specs.Lines.{on_ok}
use Rattle.td_query.specs.FaultPlaces.{IsInPattern, RightBytesAreOfTrackers, RightBytesAreText}
use Rattle.td_query.specs.FaultPlaces.{RightBytesGoOn, SaysAll}
use Rattle.td_query.specs.Query.{Shape, always}
use Rattle.td_query.specs.QueryGrammar.{Log}
use Rattle.td_query.specs.QuerySpelling.{IsKey, Stands, closed_gap, no_gap}
use Rattle.td_query.specs.Sources.{unescaped}
use Rattle.td_query.specs.TokenRules.{IsBetweenSlashes}
use Rattle.td_query.specs.Tokens.{skipped}
use Rattle.td_query.specs.TrackerGrammar.{Said, SaidRead, entries, entries_next, entry_at, front}
use Rattle.td_query.specs.TrackerGrammar.{nothing_said, said_in}
use Rattle.td_query.specs.TrackerSpelling.{SpellsEntry, SpellsKeys, SpellsValue, affected_query}
use Rattle.td_query.specs.TrackerSpelling.{bad_query, good_query, no_key, one_key}
use Rattle.td_query.specs.Tracking.{IsTracker, Tracking}
use Rattle.td_query.proofs.Continued.{Asked, Closed, Cuts, Moved, Opened, cuts_behind, opened_in}
use Rattle.td_query.proofs.ContinuedCuts.{is_small, utf8_after}
use Rattle.td_query.proofs.ContinuedEntries.{Anything, SpellsOne, entry_fate, line_stands}
use Rattle.td_query.proofs.ContinuedMarks.{here_stands, is_filled}
use Rattle.td_query.proofs.ContinuedQueries.{true_query}
use Rattle.td_query.proofs.ContinuedValues.{Any, Kept, SaidFate, any_asked, any_fine, closed_utf8}
use Rattle.td_query.proofs.ContinuedWords.{Fine}
use Rattle.td_query.proofs.FrontTrackers.{wrong_bytes_are_there}
use Rattle.td_query.proofs.SameTrackers.{trackers_are_there}
use Rattle.td_query.proofs.SpelledTrackers.{Told, front_is, trackers_are_exact}

-- ---- 1. the keys that a tracker needs

-- a text of keys after which all three queries are said
record AllSaid (P : List ℕ → Type 0) (s : Said) (t : List ℕ) : Type 0 where
  after : Said
  spelled : SpellsKeys after s t
  kept : Kept P after
  all : SaysAll after

-- what follows a key whose value is `true`: an `=`, the value, a `;`, and the rest
true_behind : List ℕ → List ℕ
true_behind rest = codes "=" ++ (codes "true" ++ (codes ";" ++ rest))

true_entry : (key : List ℕ) (s after : Said) (t rest : List ℕ) → IsKey key
    → Stands key t (true_behind rest)
    → SpellsValue key s (codes "true" ++ (codes ";" ++ rest)) after (codes ";" ++ rest)
    → SpellsEntry s t after rest
unfolding true_behind
true_entry key s after t rest legal there says = record {
  key = key;
  behind = codes "=" ++ (codes "true" ++ (codes ";" ++ rest));
  there = there;
  legal = legal;
  ends = refl;
  value = codes "true" ++ (codes ";" ++ rest);
  equals = here_stands (codes "=") (codes "true" ++ (codes ";" ++ rest));
  end = codes ";" ++ rest;
  says = says;
  semicolon = here_stands (codes ";") rest;
}

last_bad : List ℕ
last_bad = codes "is_bad" ++ true_behind []

last_good : List ℕ
last_good = codes "is_good" ++ true_behind last_bad

-- all three keys, each with the value `true`
last_keys : List ℕ
last_keys = codes "is_affected" ++ true_behind last_good

last_small : list_all is_small last_keys ≡ true
unfolding last_keys last_good last_bad true_behind
last_small = refl

last_utf8 : IsUtf8 last_keys
last_utf8 =
    subst (λ (l : List ℕ). IsUtf8 l) (append-nil last_keys)
    (utf8_after last_keys [] last_small IsUtf8-nil)

keys_last : (P : List ℕ → Type 0) (s : Said) → Kept P s → AllSaid P s (10 ∷ last_keys)
unfolding last_keys last_good last_bad
keys_last P s ok =
    let one : Said = record s { affected = Some (always true) } in
    let two : Said = record one { good = Some (always true) } in
    let three : Said = record two { bad = Some (always true) } in
    record {
      after = three;
      spelled = one_key s one (10 ∷ (codes "is_affected" ++ true_behind last_good)) last_good
          (true_entry (codes "is_affected") s one
          (10 ∷ (codes "is_affected" ++ true_behind last_good)) last_good
          (is_filled 105 (codes "s_affected"), refl)
          (line_stands (codes "is_affected") (true_behind last_good))
          (affected_query (always true) s.log refl
          (true_query 100 s.log (codes ";" ++ last_good) refl) refl))
          (one_key one two (codes "is_good" ++ true_behind last_bad) last_bad
          (true_entry (codes "is_good") one two (codes "is_good" ++ true_behind last_bad) last_bad
          (is_filled 105 (codes "s_good"), refl)
          (here_stands (codes "is_good") (true_behind last_bad))
          (good_query (always true) s.log refl
          (true_query 100 s.log (codes ";" ++ last_bad) refl) refl))
          (one_key two three (codes "is_bad" ++ true_behind []) []
          (true_entry (codes "is_bad") two three (codes "is_bad" ++ true_behind []) []
          (is_filled 105 (codes "s_bad"), refl)
          (here_stands (codes "is_bad") (true_behind []))
          (bad_query (always true) s.log refl
          (true_query 100 s.log (codes ";" ++ []) refl) refl))
          (no_key three [] (closed_gap no_gap) refl)));
      kept = ok;
      all = (refl, refl, refl);
    }

-- ---- 2. a whole text

-- what is before the wrong byte begins a text that says all three queries; first come the bytes
-- that close an open pattern, if there is one
record Finished (P : List ℕ → Type 0) (s : Said) (t : List ℕ) (e : ℕ × Log) : Type 0 where
  begin : List ℕ
  back : List ℕ
  is : t ≡ begin ++ back
  cut : Cuts begin back
  there : length back ≡ e.0
  inside : Option (List ℕ)
  opened : Opened inside t e.0
  other : List ℕ → List ℕ
  closed : (bytes : List ℕ) → Closed inside bytes (other bytes)
  before : Fine P e.1 → Kept P s
  goes : Fine P e.1 → (bytes : List ℕ) → Asked P inside bytes → (r : Said) → Kept P r
      → AllSaid P r (begin ++ other bytes)

abbrev KeysFate : (List ℕ → Type 0) → Said → List ℕ → Result Said (ℕ × Log) → Type 0
KeysFate P s t (Ok x) = Unit {0}
KeysFate P s t (Err e) = Finished P s t e

module _ (P : List ℕ → Type 0) where
  then_keys : (s : Said) (t : List ℕ) (one : Said) (v : List ℕ)
      → Moved (Kept P) Anything SpellsOne s t one v → (r : Result Said (ℕ × Log))
      → KeysFate P one v r → KeysFate P s t r
  then_keys s t one v a (Ok x) b = tt
  then_keys s t one v a (Err e) b = record {
    begin = a.front ++ b.begin;
    back = b.back;
    is = a.is ∙ ap (λ (l : List ℕ). a.front ++ l) b.is ∙ sym (append_assoc a.front b.begin b.back);
    cut = cuts_behind a.front b.begin b.back v b.is a.cut b.cut;
    there = b.there;
    inside = b.inside;
    opened = opened_in b.inside a.front t v e.0 a.is b.opened;
    other = b.other;
    closed = b.closed;
    before = λ legal. a.before (b.before legal);
    goes = λ legal bytes asked r ok.
        (let first = a.moves (b.before legal) r (b.begin ++ b.other bytes) ok tt in
        let second = b.goes legal bytes asked first.after first.good in
        subst (λ (l : List ℕ). AllSaid P r l) (sym (append_assoc a.front b.begin (b.other bytes)))
        (record {
          after = second.after;
          spelled = one_key r first.after (a.front ++ (b.begin ++ b.other bytes))
              (b.begin ++ b.other bytes) first.spelled second.spelled;
          kept = second.kept;
          all = second.all;
        }));
  }

  one_fate : (s : Said) (t : List ℕ) (r : SaidRead) → SaidFate P Anything SpellsOne s t r
      → (f : Told → Result Said (ℕ × Log)) → ((y : Told) → KeysFate P y.0 y.1 (f y))
      → KeysFate P s t (on_ok r f)
  one_fate s t (Ok y) a f later = then_keys s t y.0 y.1 a (f y) (later y)
  one_fate s t (Err e) a f later = record {
    begin = a.front;
    back = a.back;
    is = a.is;
    cut = a.cut;
    there = a.there;
    inside = a.inside;
    opened = a.opened;
    other = λ bytes. a.more bytes last_keys;
    closed = λ bytes. a.closed bytes last_keys last_utf8;
    before = a.before;
    goes = λ legal bytes asked r ok.
        (let first = a.goes legal bytes asked r last_keys ok in
        let last = keys_last P first.after first.good in
        record {
          after = last.after;
          spelled = one_key r first.after (a.front ++ a.more bytes last_keys) (10 ∷ last_keys)
              first.spelled last.spelled;
          kept = last.kept;
          all = last.all;
        });
  }

  by_front : (n : ℕ) (s : Said) (t : List ℕ)
      → ((s : Said) (t : List ℕ) → KeysFate P s t (entries n s t))
      → (o : Option (List ℕ)) → front t ≡ o → KeysFate P s t (entries_next (entries n) s o)
  by_front n s t later None is = tt
  by_front n s t later (Some at) is =
      subst (λ (l : List ℕ). KeysFate P s t (on_ok (entry_at s l) (λ x. entries n x.0 x.1)))
      (front_is t at is)
      (one_fate s t (entry_at s (skipped t)) (entry_fate P s t) (λ x. entries n x.0 x.1)
      (λ y. later y.0 y.1))

  keys_fate : (n : ℕ) (s : Said) (t : List ℕ) → KeysFate P s t (entries n s t)
  unfolding entries
  keys_fate zero s t = tt
  keys_fate (suc n) s t = by_front n s t (λ r u. keys_fate n r u) (front t) refl

  finished : (text : List ℕ) (e : ℕ × Log) → said_in text ≡ Err e → Finished P nothing_said text e
  finished text e h =
      subst (λ (r : Result Said (ℕ × Log)). KeysFate P nothing_said text r) h
      (keys_fate (length text) nothing_said text)

-- ---- 3. the laws

-- two fronts of one text are the same if what follows them is of one length
same_front : (a b c d : List ℕ) → a ++ b ≡ c ++ d → length b ≡ length d → a ≡ c
same_front [] b [] d e l = refl
same_front [] b (y ∷ c) d e l =
    let whole : length b ≡ length ((y ∷ c) ++ d) = ap (λ (l : List ℕ). length l) e in
    let parts = length-append (y ∷ c) d in
    absurd (omega arith)
same_front (x ∷ a) b [] d e l =
    let whole : length ((x ∷ a) ++ b) ≡ length d = ap (λ (l : List ℕ). length l) e in
    let parts = length-append (x ∷ a) b in
    absurd (omega arith)
same_front (x ∷ a) b (y ∷ c) d e l =
    let first : x ≡ y = cc in
    let later : a ++ b ≡ c ++ d = cc in
    rw first (ap (λ (l : List ℕ). y ∷ l) (same_front a b c d later l))

-- a front, and what it goes on with, say all three queries
module _ (P : List ℕ → Type 0) (first rest : List ℕ) (e : ℕ × Log) (there : length rest ≡ e.0)
    (h : Finished P nothing_said (first ++ rest) e) (legal : Fine P e.1) where
  goes_on : (bytes : List ℕ) → Asked P h.inside bytes
      → AllSaid P nothing_said (first ++ h.other bytes)
  goes_on bytes asked =
      subst (λ (l : List ℕ). AllSaid P nothing_said (l ++ h.other bytes))
      (same_front h.begin h.back first rest (sym h.is) (h.there ∙ sym there))
      (h.goes legal bytes asked nothing_said tt)

said_read : (P : List ℕ → Type 0) (text : List ℕ) (a : AllSaid P nothing_said text)
    → said_in text ≡ Ok a.after
said_read P text a = (trackers_are_exact text a.after).1 a.spelled

pub right_bytes_go_on : RightBytesGoOn
right_bytes_go_on first rest log e =
    let h = finished Any (first ++ rest) (length rest, log) e in
    let all = goes_on Any first rest (length rest, log) refl h (any_fine log) (120 ∷ [])
    (any_asked h.inside (first ++ rest) (length rest) h.opened) in (
      h.other (120 ∷ []),
      closed_utf8 h.inside (h.other (120 ∷ [])) (h.closed (120 ∷ [])),
      all.after,
      said_read Any (first ++ h.other (120 ∷ [])) all,
      all.all,
    )

pub right_bytes_are_text : RightBytesAreText
right_bytes_are_text first rest log e text =
    let h = finished Any (first ++ rest) (length rest, log) e in
    let parts = h.cut (subst (λ (l : List ℕ). IsUtf8 l) h.is text) in
    subst (λ (l : List ℕ). IsUtf8 l)
    (same_front h.begin h.back first rest (sym h.is) h.there) parts.0

-- `regex` reads a pattern
abbrev IsLegal : List ℕ → Type 0
IsLegal raw = IsPattern default_config (unescaped raw)

some_query : (o : Option Shape) → IsSome o → (q : Shape) × (o ≡ Some q)
some_query None h = absurd (false≢true h)
some_query (Some q) h = (q, refl)

tracker_there : (text : List ℕ) → AllSaid IsLegal nothing_said text
    → (t : Tracking) × IsTracker text t
tracker_there text a =
    let affected = some_query a.after.affected a.all.0 in
    let good = some_query a.after.good a.all.1 in
    let bad = some_query a.after.bad a.all.2 in
    trackers_are_there text a.after affected.0 good.0 bad.0 (said_read IsLegal text a) affected.1
    good.1 bad.1 a.kept

no_rest : (t : List ℕ) → length t ≡ 0 → t ≡ []
no_rest [] e = refl
no_rest (x ∷ t) e = absurd (omega arith)

-- what is before the wrong byte begins a tracker, or ends inside a pattern
module _ (first rest : List ℕ) (left : ℕ) (there : length rest ≡ left)
    (other : List ℕ → List ℕ) where
  by_pattern : (o : Option (List ℕ)) → Opened o (first ++ rest) left
      → ((bytes : List ℕ) → Closed o bytes (other bytes))
      → ((bytes : List ℕ) → Asked IsLegal o bytes
      → AllSaid IsLegal nothing_said (first ++ other bytes))
      → ((more : List ℕ) × (t : Tracking) × IsUtf8 more × IsTracker (first ++ more) t)
      ⊎ ((rest ≡ []) × IsInPattern first)
  by_pattern None opened closed goes =
      let t = tracker_there (first ++ other []) (goes [] tt) in
      inl (other [], t.0, closed [], t.1)
  by_pattern (Some raw) opened closed goes =
      let none : rest ≡ [] = no_rest rest (there ∙ opened.0) in
      let whole : first ≡ opened.1 ++ (codes "/" ++ raw) =
      sym (ap (λ (l : List ℕ). first ++ l) none ∙ append-nil first) ∙ opened.2 in
      let goes_on : (bytes : List ℕ) → IsBetweenSlashes (raw ++ bytes) → IsLegal (raw ++ bytes)
      → (more : List ℕ) × (t : Tracking) × IsUtf8 more
      × IsTracker (first ++ (bytes ++ (codes "/" ++ more))) t =
      λ bytes between legal.
      (let t = tracker_there (first ++ other bytes) (goes bytes (between, legal)) in
      let shut = closed bytes in (
        shut.0,
        t.0,
        shut.2,
        subst (λ (l : List ℕ). IsTracker (first ++ l) t.0) shut.1 t.1,
      )) in
      inr (
        none,
        record {
          before = opened.1;
          raw = raw;
          is = whole;
          stays = opened.3;
          goes = goes_on;
        },
      )

pub right_bytes_are_of_trackers : RightBytesAreOfTrackers
right_bytes_are_of_trackers first rest (left, log, e, legal, place) =
    let low = wrong_bytes_are_there (first ++ rest) left log e in
    let parts = length-append first rest in
    let there : length rest ≡ left = omega arith in
    let h = finished IsLegal (first ++ rest) (left, log) e in
    by_pattern first rest left there h.other h.inside h.opened h.closed
    (goes_on IsLegal first rest (left, log) there h legal)
