-- Trackers are read as they are spelled.
use Rattle.std.proofs.Common.{◌≡◌, ◌≢◌, ℕ, zero, suc, ◌<◌, ◌≤◌, Bool, true, false, cond}
use Rattle.std.proofs.Common.{eqb, List, [], ◌∷◌, ◌++◌, length, length-append, Option, Some, None}
use Rattle.std.proofs.Common.{Result, Ok, Err, refl, sym, ap, subst, ◌∙◌, inl, inr, arith}
use Rattle.std.specs.Prelude.{codes}
use Rattle.std.specs.Str.{bytes_eq}
use Rattle.std.proofs.lemmas.Bool.{ne_eqb}
use Rattle.std.proofs.lemmas.Slice.Eq.{bytes_eq-Decides}
use Rattle.td_text.specs.Cut.{cut, strip}
use Rattle.td_text.specs.Lines.{on_ok}
use Rattle.td_text.specs.Runs.{run, behind}
use Rattle.td_text.proofs.Chain.{guard, ok_is, on_ok_parts, some_is, when_none}
use Rattle.td_text.proofs.Cut.{cut-at, cut_found}
use Rattle.td_text.proofs.Prefix.{strip_found}
use Rattle.td_text.proofs.RunTexts.{run_joined, run_passes}
use Rattle.td_query.specs.Query.{Shape}
use Rattle.td_query.specs.QueryGrammar.{Log, Read, or_at}
use Rattle.td_query.specs.QueryRules.{IsOver}
use Rattle.td_query.specs.QuerySpelling.{EndsWord, IsKey, SpellsAtom, SpellsPart, SpellsQuery}
use Rattle.td_query.specs.QuerySpelling.{Stands, closed_gap, constant, field_pattern, field_text}
use Rattle.td_query.specs.QuerySpelling.{no_gap}
use Rattle.td_query.specs.SpellingLaws.{TrackersAreExact}
use Rattle.td_query.specs.Tokens.{is_key_byte, skipped}
use Rattle.td_query.specs.TrackerGrammar.{Said, SaidRead, ended, ended_by, entries, entries_next}
use Rattle.td_query.specs.TrackerGrammar.{entry_at, equalled, front, ignored_query, ignored_text}
use Rattle.td_query.specs.TrackerGrammar.{nothing_said, other_value, title_value, titled, value_at}
use Rattle.td_query.specs.TrackerGrammar.{with_affected, with_bad, with_good}
use Rattle.td_query.specs.TrackerSpelling.{IsOtherKey, SpellsEntry, SpellsKeys, SpellsText}
use Rattle.td_query.specs.TrackerSpelling.{SpellsValue, affected_query, bad_query, good_query}
use Rattle.td_query.specs.TrackerSpelling.{no_key, one_key, other_query, other_text, title_text}
use Rattle.td_query.proofs.Gaps.{comes_stands, last_gaps_are_exact, stands_comes, stands_room}
use Rattle.td_query.proofs.KeyRules.{entries_are_said, queries_are_said, titles_are_said}
use Rattle.td_query.proofs.SpelledAtoms.{behind_ends, filled, key_comes, some_length}
use Rattle.td_query.proofs.SpelledAtoms.{word_is}
use Rattle.td_query.proofs.SpelledQueries.{Level, over_at_semicolon, query_found}
use Rattle.td_query.proofs.SpelledQueries.{query_read, query_room}

-- what a reading of a key gave
abbrev pub Told : Type 0
Told = Said × List ℕ

-- what is said, with what follows it
abbrev told : Said → List ℕ → SaidRead
told s rest = Ok (s, rest)

told_is : (x y : Told) → ◌≡◌ {A = SaidRead} (Ok x) (Ok y) → x ≡ y
told_is x y e = ok_is (ℕ × Log) x y e

none_told : (e : ℕ × Log) (y : Told) → ◌≡◌ {A = SaidRead} (Err e) (Ok y) → ⊥
none_told e y h = cc

-- another way to write what was read
told_as : (r : SaidRead) (after kept : Said) (rest : List ℕ) → after ≡ kept → r ≡ Ok (kept, rest)
    → r ≡ Ok (after, rest)
told_as r after kept rest is h = h ∙ ap (λ (x : Said). told x rest) (sym is)

-- ---- 1. a query begins with no `"`

atom_first : (log after : Log) (t rest : List ℕ) (s : Shape) → SpellsAtom log t s after rest
    → strip (codes "\"") (skipped t) ≡ None
unfolding strip
atom_first log after t rest s (constant true there ends is same) =
    ap (strip (codes "\"")) (stands_comes 116 (codes "rue") t rest refl (λ e. omega arith) there)
atom_first log after t rest s (constant false there ends is same) =
    ap (strip (codes "\"")) (stands_comes 102 (codes "alse") t rest refl (λ e. omega arith) there)
atom_first log after t rest s (field_text name value u field there none is same) =
    ap (strip (codes "\""))
    (stands_comes 46 [] t (name ++ field.behind) refl (λ e. omega arith) field.dot)
atom_first log after t rest s (field_pattern name raw u field there between is same) =
    ap (strip (codes "\""))
    (stands_comes 46 [] t (name ++ field.behind) refl (λ e. omega arith) field.dot)

level_first : (depth : ℕ) (log after : Log) (t rest : List ℕ) (s : Shape)
    → Level depth log t s after rest → strip (codes "\"") (skipped t) ≡ None
unfolding strip
level_first depth log after t rest s (inl it) = atom_first log after t rest s it
level_first depth log after t rest s (inr (inl it)) =
    ap (strip (codes "\"")) (stands_comes 33 [] t it.behind refl (λ e. omega arith) it.bang)
level_first depth log after t rest s (inr (inr it)) =
    ap (strip (codes "\"")) (stands_comes 40 [] t it.behind refl (λ e. omega arith) it.opens)

part_first : (depth : ℕ) (log after : Log) (t rest : List ℕ) (s : Shape)
    → SpellsPart depth log t s after rest → strip (codes "\"") (skipped t) ≡ None
unfolding SpellsPart
part_first zero log after t rest s h = atom_first log after t rest s h
part_first (suc depth) log after t rest s h = level_first depth log after t rest s h

query_first : (depth : ℕ) (log after : Log) (t rest : List ℕ) (s : Shape)
    → SpellsQuery depth log t s after rest → strip (codes "\"") (skipped t) ≡ None
query_first depth log after t rest s h =
    part_first depth log h.head.one t h.head.behind h.head.first h.head.head

-- ---- 2. what is spelled is read

differs : (a b : List ℕ) → a ≢ b → bytes_eq a b ≡ false
differs a b h = by (bytes_eq a b) refl
  where
    by : (x : Bool) → bytes_eq a b ≡ x → x ≡ false
    by true is = absurd (h ((bytes_eq-Decides a b).0 is))
    by false is = refl

other_is : (key : List ℕ) (s : Said) (t : List ℕ) → IsOtherKey key
    → value_at key s t ≡ other_value s t (strip (codes "\"") (skipped t))
unfolding value_at
other_is key s t h =
    rw (
      differs key (codes "title") h.title,
      differs key (codes "is_affected") h.affected,
      differs key (codes "is_good") h.good,
      differs key (codes "is_bad") h.bad,
    ) refl

value_read : (key : List ℕ) (s after : Said) (t rest : List ℕ) → SpellsValue key s t after rest
    → IsOver rest → value_at key s t ≡ Ok (after, rest)
unfolding other_value strip
value_read key s after t rest (title_text value is spelled same) end =
    told_as (value_at key s t) after (record s { title = value }) rest same
    (ap (λ (k : List ℕ). value_at k s t) is
    ∙ titles_are_said s t (value ++ (codes "\"" ++ rest)) value rest
    (stands_comes 34 [] t (value ++ (codes "\"" ++ rest)) refl (λ e. omega arith) spelled.0)
    (cut-at 34 value rest spelled.1))
value_read key s after t rest (affected_query query log is spelled same) end =
    told_as (value_at key s t) after (record s { affected = Some query; log = log }) rest same
    (ap (λ (k : List ℕ). value_at k s t) is
    ∙ (queries_are_said s t query log rest
    (query_read 100 s.log log t rest query spelled end)).affected)
value_read key s after t rest (good_query query log is spelled same) end =
    told_as (value_at key s t) after (record s { good = Some query; log = log }) rest same
    (ap (λ (k : List ℕ). value_at k s t) is
    ∙ (queries_are_said s t query log rest
    (query_read 100 s.log log t rest query spelled end)).good)
value_read key s after t rest (bad_query query log is spelled same) end =
    told_as (value_at key s t) after (record s { bad = Some query; log = log }) rest same
    (ap (λ (k : List ℕ). value_at k s t) is
    ∙ (queries_are_said s t query log rest
    (query_read 100 s.log log t rest query spelled end)).bad)
value_read key s after t rest (other_text value other spelled same) end =
    told_as (value_at key s t) after s rest same
    (other_is key s t other
    ∙ ap (λ (at : List ℕ). other_value s t (strip (codes "\"") at))
    (stands_comes 34 [] t (value ++ (codes "\"" ++ rest)) refl (λ e. omega arith) spelled.0)
    ∙ ap (ignored_text s) (cut-at 34 value rest spelled.1))
value_read key s after t rest (other_query query log other spelled same) end =
    told_as (value_at key s t) after s rest same
    (other_is key s t other
    ∙ ap (other_value s t) (query_first 100 [] log t rest query spelled)
    ∙ ap (ignored_query s) (query_read 100 [] log t rest query spelled end))

text_room : (value t rest : List ℕ) → SpellsText value t rest → length rest ≤ length t
text_room value t rest h =
    let room = stands_room (codes "\"") t (value ++ (codes "\"" ++ rest)) h.0 in
    let parts = length-append value (codes "\"" ++ rest) in
    omega arith

value_room : (key : List ℕ) (s after : Said) (t rest : List ℕ) → SpellsValue key s t after rest
    → length rest ≤ length t
value_room key s after t rest (title_text value is spelled same) = text_room value t rest spelled
value_room key s after t rest (affected_query query log is spelled same) =
    query_room 100 s.log log t rest query spelled
value_room key s after t rest (good_query query log is spelled same) =
    query_room 100 s.log log t rest query spelled
value_room key s after t rest (bad_query query log is spelled same) =
    query_room 100 s.log log t rest query spelled
value_room key s after t rest (other_text value other spelled same) =
    text_room value t rest spelled
value_room key s after t rest (other_query query log other spelled same) =
    query_room 100 [] log t rest query spelled

entry_read : (s after : Said) (t rest : List ℕ) → SpellsEntry s t after rest
    → entry_at s (skipped t) ≡ Ok (after, rest)
entry_read s after t rest h =
    entries_are_said s after (skipped t) h.key h.behind h.value h.end rest
    (word_is h.key h.behind (skipped t) h.legal.1 h.ends
    (key_comes h.key t h.behind h.legal h.there))
    (some_length h.key h.legal.0)
    (stands_comes 61 [] h.behind h.value refl (λ e. omega arith) h.equals)
    (value_read h.key s after h.value h.end h.says (over_at_semicolon h.end rest h.semicolon))
    (stands_comes 59 [] h.end rest refl (λ e. omega arith) h.semicolon)

pub entry_room : (s after : Said) (t rest : List ℕ) → SpellsEntry s t after rest
    → suc (length rest) ≤ length t
entry_room s after t rest h =
    let key = stands_room h.key t h.behind h.there in
    let some = some_length h.key h.legal.0 in
    let equals = stands_room (codes "=") h.behind h.value h.equals in
    let value = value_room h.key s after h.value h.end h.says in
    let end = stands_room (codes ";") h.end rest h.semicolon in
    omega arith

none_read : (n : ℕ) (s : Said) (t : List ℕ) → skipped t ≡ [] → entries n s t ≡ Ok s
unfolding entries front
none_read zero s t none = refl
none_read (suc n) s t none =
    ap (λ (at : List ℕ). entries_next (entries n) s (cond (eqb (length at) 0) None (Some at))) none

pub front_some : (t : List ℕ) → 0 < length (skipped t) → front t ≡ Some (skipped t)
unfolding front
front_some t some =
    let filled : length (skipped t) ≢ 0 = omega arith in
    rw (ne_eqb (length (skipped t)) 0 filled) refl

entry_some : (s after : Said) (t rest : List ℕ) → SpellsEntry s t after rest
    → 0 < length (skipped t)
entry_some s after t rest h =
    let whole : length (skipped t) ≡ length (h.key ++ h.behind) =
    ap (λ (l : List ℕ). length l) (key_comes h.key t h.behind h.legal h.there) in
    let parts = length-append h.key h.behind in
    let some = some_length h.key h.legal.0 in
    omega arith

one_read : (n : ℕ) (s one after : Said) (t rest : List ℕ) → SpellsEntry s t one rest
    → length t ≤ n → ((m : ℕ) → length rest ≤ m → entries m one rest ≡ Ok after)
    → entries n s t ≡ Ok after
unfolding entries
one_read zero s one after t rest entry short later =
    let room = entry_room s one t rest entry in absurd (omega arith)
one_read (suc n) s one after t rest entry short later =
    let room = entry_room s one t rest entry in
    let less : length rest ≤ n = omega arith in
    ap (entries_next (entries n) s) (front_some t (entry_some s one t rest entry))
    ∙ ap (λ (r : SaidRead). on_ok r (λ x. entries n x.0 x.1)) (entry_read s one t rest entry)
    ∙ later n less

abbrev all_told : Said → Result Said (ℕ × Log)
all_told s = Ok s

keys_read : {after s : Said} {t : List ℕ} (n : ℕ) → SpellsKeys after s t → length t ≤ n
    → entries n s t ≡ Ok after
keys_read n (no_key s t gap is) short =
    none_read n s t ((last_gaps_are_exact t).1 gap) ∙ ap all_told (sym is)
keys_read {after} n (one_key s one t rest entry later) short =
    one_read n s one after t rest entry short (λ m less. keys_read m later less)

-- ---- 3. what is read is spelled

pub not_word : (key word : List ℕ) → bytes_eq key word ≡ false → key ≢ word
not_word key word is same =
    (let bad : false ≡ true = sym is ∙ (bytes_eq-Decides key word).1 same in cc)

pub is_word : (key word : List ℕ) → bytes_eq key word ≡ true → key ≡ word
is_word key word is = (bytes_eq-Decides key word).0 is

module _ (key : List ℕ) (s : Said) (t : List ℕ) (y : Told) where
  titled_found : (u : List ℕ) → skipped t ≡ codes "\"" ++ u → key ≡ codes "title"
      → (o : Option (List ℕ × List ℕ)) → cut 34 u ≡ o → titled s o ≡ Ok y
      → SpellsValue key s t y.0 y.1
  titled_found u here is None closes e = absurd (none_told (0, s.log) y e)
  titled_found u here is (Some p) closes e =
      let found = cut_found 34 u p closes in
      subst (λ (x : Told). SpellsValue key s t x.0 x.1)
      (told_is (record s { title = p.0 }, p.1) y e)
      (title_text p.0 is (
        comes_stands 34 [] t (p.0 ++ (codes "\"" ++ p.1))
            (here ∙ ap (λ (l : List ℕ). 34 ∷ l) found.0),
        found.1,
      ) refl)

  title_found : key ≡ codes "title" → (o : Option (List ℕ)) → strip (codes "\"") (skipped t) ≡ o
      → title_value s (length (skipped t)) o ≡ Ok y → SpellsValue key s t y.0 y.1
  title_found is None quote e = absurd (none_told (length (skipped t), s.log) y e)
  title_found is (Some u) quote e =
      titled_found u (strip_found (codes "\"") (skipped t) u quote) is (cut 34 u) refl e

  ignored_found : IsOtherKey key → (r : Read) → or_at 100 [] t ≡ r → ignored_query s r ≡ Ok y
      → SpellsValue key s t y.0 y.1
  ignored_found other (Err d) is e = absurd (none_told (d.0, s.log) y e)
  ignored_found other (Ok x) is e =
      subst (λ (z : Told). SpellsValue key s t z.0 z.1) (told_is (s, x.2) y e)
      (other_query x.0 x.1 other (query_found 100 [] t x is) refl)

  ignored_text_found : (u : List ℕ) → skipped t ≡ codes "\"" ++ u → IsOtherKey key
      → (o : Option (List ℕ × List ℕ)) → cut 34 u ≡ o → ignored_text s o ≡ Ok y
      → SpellsValue key s t y.0 y.1
  ignored_text_found u here other None closes e = absurd (none_told (0, s.log) y e)
  ignored_text_found u here other (Some p) closes e =
      let found = cut_found 34 u p closes in
      subst (λ (x : Told). SpellsValue key s t x.0 x.1) (told_is (s, p.1) y e)
      (other_text p.0 other (
        comes_stands 34 [] t (p.0 ++ (codes "\"" ++ p.1))
            (here ∙ ap (λ (l : List ℕ). 34 ∷ l) found.0),
        found.1,
      ) refl)

  other_found : IsOtherKey key → (o : Option (List ℕ)) → strip (codes "\"") (skipped t) ≡ o
      → other_value s t o ≡ Ok y → SpellsValue key s t y.0 y.1
  unfolding other_value
  other_found other None quote e = ignored_found other (or_at 100 [] t) refl e
  other_found other (Some u) quote e =
      ignored_text_found u (strip_found (codes "\"") (skipped t) u quote) other (cut 34 u) refl e

  affected_found : key ≡ codes "is_affected" → on_ok (or_at 100 s.log t) (with_affected s) ≡ Ok y
      → SpellsValue key s t y.0 y.1
  affected_found is e =
      let p = on_ok_parts (or_at 100 s.log t) (with_affected s) y e in
      subst (λ (x : Told). SpellsValue key s t x.0 x.1)
      (told_is (record s { affected = Some p.0.0; log = p.0.1 }, p.0.2) y p.2)
      (affected_query p.0.0 p.0.1 is (query_found 100 s.log t p.0 p.1) refl)

  good_found : key ≡ codes "is_good" → on_ok (or_at 100 s.log t) (with_good s) ≡ Ok y
      → SpellsValue key s t y.0 y.1
  good_found is e =
      let p = on_ok_parts (or_at 100 s.log t) (with_good s) y e in
      subst (λ (x : Told). SpellsValue key s t x.0 x.1)
      (told_is (record s { good = Some p.0.0; log = p.0.1 }, p.0.2) y p.2)
      (good_query p.0.0 p.0.1 is (query_found 100 s.log t p.0 p.1) refl)

  bad_found : key ≡ codes "is_bad" → on_ok (or_at 100 s.log t) (with_bad s) ≡ Ok y
      → SpellsValue key s t y.0 y.1
  bad_found is e =
      let p = on_ok_parts (or_at 100 s.log t) (with_bad s) y e in
      subst (λ (x : Told). SpellsValue key s t x.0 x.1)
      (told_is (record s { bad = Some p.0.0; log = p.0.1 }, p.0.2) y p.2)
      (bad_query p.0.0 p.0.1 is (query_found 100 s.log t p.0 p.1) refl)

  by_keys : (a b c d : Bool) → bytes_eq key (codes "title") ≡ a
      → bytes_eq key (codes "is_affected") ≡ b → bytes_eq key (codes "is_good") ≡ c
      → bytes_eq key (codes "is_bad") ≡ d
      → ◌≡◌ {A = SaidRead}
      (cond a (title_value s (length (skipped t)) (strip (codes "\"") (skipped t)))
      (cond b (on_ok (or_at 100 s.log t) (with_affected s))
      (cond c (on_ok (or_at 100 s.log t) (with_good s))
      (cond d (on_ok (or_at 100 s.log t) (with_bad s))
      (other_value s t (strip (codes "\"") (skipped t))))))) (Ok y)
      → SpellsValue key s t y.0 y.1
  by_keys true b c d p q r o e =
      title_found (is_word key (codes "title") p) (strip (codes "\"") (skipped t)) refl e
  by_keys false true c d p q r o e = affected_found (is_word key (codes "is_affected") q) e
  by_keys false false true d p q r o e = good_found (is_word key (codes "is_good") r) e
  by_keys false false false true p q r o e = bad_found (is_word key (codes "is_bad") o) e
  by_keys false false false false p q r o e =
      other_found (record {
        title = not_word key (codes "title") p;
        affected = not_word key (codes "is_affected") q;
        good = not_word key (codes "is_good") r;
        bad = not_word key (codes "is_bad") o;
      }) (strip (codes "\"") (skipped t)) refl e

  value_found : value_at key s t ≡ Ok y → SpellsValue key s t y.0 y.1
  unfolding value_at
  value_found e =
      by_keys (bytes_eq key (codes "title")) (bytes_eq key (codes "is_affected"))
      (bytes_eq key (codes "is_good")) (bytes_eq key (codes "is_bad")) refl refl refl refl e

pub stands_word : (word t rest : List ℕ) → word ≢ [] → skipped t ≡ word ++ rest → Stands word t rest
stands_word [] t rest some e = absurd (some refl)
stands_word (x ∷ word) t rest some e = comes_stands x word t rest e

module _ (s : Said) (t key v : List ℕ) (y : Told) (there : Stands key t v) (legal : IsKey key)
    (ends : EndsWord v) where
  ended_found : (w : List ℕ) → Stands (codes "=") v w → (x : Told)
      → SpellsValue key s w x.0 x.1 → (o : Option (List ℕ)) → strip (codes ";") (skipped x.1) ≡ o
      → ended_by x.0 (length (skipped x.1)) o ≡ Ok y → SpellsEntry s t y.0 y.1
  ended_found w equals x says None is e =
      absurd (none_told (length (skipped x.1), x.0.log) y e)
  ended_found w equals x says (Some u) is e =
      subst (λ (z : Told). SpellsEntry s t z.0 z.1) (told_is (x.0, u) y e) (record {
        key = key;
        behind = v;
        there = there;
        legal = legal;
        ends = ends;
        value = w;
        equals = equals;
        end = x.1;
        says = says;
        semicolon = comes_stands 59 [] x.1 u (strip_found (codes ";") (skipped x.1) u is);
      })

  equalled_found : (o : Option (List ℕ)) → strip (codes "=") (skipped v) ≡ o
      → equalled key s (length (skipped v)) o ≡ Ok y → SpellsEntry s t y.0 y.1
  unfolding ended
  equalled_found None is e = absurd (none_told (length (skipped v), s.log) y e)
  equalled_found (Some w) is e =
      let p = on_ok_parts (value_at key s w) ended y e in
      ended_found w (comes_stands 61 [] v w (strip_found (codes "=") (skipped v) w is)) p.0
      (value_found key s w p.0 p.1) (strip (codes ";") (skipped p.0.1)) refl p.2

pub entry_found : (s : Said) (t : List ℕ) (y : Told) → entry_at s (skipped t) ≡ Ok y
    → SpellsEntry s t y.0 y.1
unfolding entry_at
entry_found s t y e =
    let key : List ℕ = run is_key_byte (skipped t) in
    let v : List ℕ = behind is_key_byte (skipped t) in
    let p = guard (eqb (length (run is_key_byte (skipped t))) 0) (length (skipped t), s.log)
    (equalled (run is_key_byte (skipped t)) s (length (skipped (behind is_key_byte (skipped t))))
    (strip (codes "=") (skipped (behind is_key_byte (skipped t))))) y e in
    let some = filled (run is_key_byte (skipped t)) p.0 in
    equalled_found s t key v y
    (stands_word key t v some (run_joined is_key_byte (skipped t)))
    (some, run_passes is_key_byte (skipped t)) (behind_ends (skipped t))
    (strip (codes "=") (skipped v)) refl p.1

front_none : (t : List ℕ) → front t ≡ None → skipped t ≡ []
unfolding front
front_none t e = by (skipped t) e
  where
    by : (l : List ℕ) → cond (eqb (length l) 0) None (Some l) ≡ None → l ≡ []
    by [] k = refl
    by (x ∷ l) k =
        let some : length (x ∷ l) ≢ 0 = omega arith in
        absurd (let bad : Some (x ∷ l) ≡ None =
        sym (rw (ne_eqb (length (x ∷ l)) 0 some) refl) ∙ k in cc)

pub front_is : (t at : List ℕ) → front t ≡ Some at → skipped t ≡ at
unfolding front
front_is t at e =
    let p = when_none (eqb (length (skipped t)) 0) (Some (skipped t)) at e in
    some_is (skipped t) at p.1

by_front : (n : ℕ) (s after : Said) (t : List ℕ) → length t ≤ suc n
    → ((s : Said) (t : List ℕ) → length t ≤ n → entries n s t ≡ Ok after → SpellsKeys after s t)
    → (o : Option (List ℕ)) → front t ≡ o → entries_next (entries n) s o ≡ Ok after
    → SpellsKeys after s t
by_front n s after t short later None is e =
    no_key s t ((last_gaps_are_exact t).0 (front_none t is)) (sym (ok_is (ℕ × Log) s after e))
by_front n s after t short later (Some at) is e =
    let p = on_ok_parts (entry_at s at) (λ x. entries n x.0 x.1) after e in
    let entry = entry_found s t p.0 (ap (entry_at s) (front_is t at is) ∙ p.1) in
    let room = entry_room s p.0.0 t p.0.1 entry in
    let less : length p.0.1 ≤ n = omega arith in
    one_key s p.0.0 t p.0.1 entry (later p.0.0 p.0.1 less p.2)

keys_found : (n : ℕ) (s after : Said) (t : List ℕ) → length t ≤ n → entries n s t ≡ Ok after
    → SpellsKeys after s t
unfolding entries
keys_found zero s after [] short e =
    no_key s [] (closed_gap no_gap) (sym (ok_is (ℕ × Log) s after e))
keys_found zero s after (x ∷ t) short e = absurd (omega arith)
keys_found (suc n) s after t short e =
    by_front n s after t short (λ one u less k. keys_found n one after u less k) (front t) refl e

-- ---- 4. both ways

pub trackers_are_exact : TrackersAreExact
trackers_are_exact text s = (
  λ e. keys_found (length text) nothing_said s text (omega arith) e,
  λ h. keys_read (length text) h (omega arith),
)
