-- How the value of a key that goes wrong at some byte can go on.
use Rattle.std.proofs.Common.{◌≡◌, ℕ, Bool, true, false, cond, List, [], ◌∷◌, ◌++◌, length, Option}
use Rattle.std.proofs.Common.{Some, None, Ok, Err, refl, sym, subst, inl, inr, append-nil, arith}
use Rattle.std.specs.Prelude.{codes}
use Rattle.std.specs.List.{list_all}
use Rattle.std.specs.Str.{IsUtf8, bytes_eq}
use Rattle.std.proofs.lemmas.Bool.{cases_Bool}
use Rattle.td_text.specs.Cut.{cut, strip}
use Rattle.td_text.specs.Lines.{on_ok}
use Rattle.td_text.proofs.Cut.{cut_found}
use Rattle.td_text.proofs.Prefix.{strip_found}
use Rattle.td_query.specs.Query.{Shape, always}
use Rattle.td_query.specs.QueryGrammar.{Log, Read, or_at}
use Rattle.td_query.specs.QuerySpelling.{EndsWord, SpellsQuery, Stands}
use Rattle.td_query.specs.Tokens.{skipped}
use Rattle.td_query.specs.TrackerGrammar.{Said, SaidRead, ignored_query, ignored_text, other_value}
use Rattle.td_query.specs.TrackerGrammar.{title_value, titled, value_at, with_affected, with_bad}
use Rattle.td_query.specs.TrackerGrammar.{with_good}
use Rattle.td_query.specs.TrackerSpelling.{IsOtherKey, SpellsText, SpellsValue, affected_query}
use Rattle.td_query.specs.TrackerSpelling.{bad_query, good_query, other_query, other_text}
use Rattle.td_query.specs.TrackerSpelling.{title_text}
use Rattle.td_query.proofs.Continued.{Asked, Closed, Fate, Moved, Opened, Spelled, Stopped}
use Rattle.td_query.proofs.Continued.{cuts_all}
use Rattle.td_query.proofs.ContinuedAtoms.{between_closed, enclosed_again, enclosed_cut}
use Rattle.td_query.proofs.ContinuedAtoms.{enclosed_front}
use Rattle.td_query.proofs.ContinuedCuts.{is_small, utf8_after}
use Rattle.td_query.proofs.ContinuedMarks.{here_stands, led, led_stands, stands_more}
use Rattle.td_query.proofs.ContinuedQueries.{query_fate, true_query}
use Rattle.td_query.proofs.ContinuedWords.{Fine, ReadFate}
use Rattle.td_query.proofs.Gaps.{comes_stands, cut_lacks}
use Rattle.td_query.proofs.SpelledAtoms.{Given}
use Rattle.td_query.proofs.SpelledTrackers.{Told, is_word, not_word}

-- ---- 1. readings of keys

-- `P` holds of the patterns that are kept
abbrev pub Kept : (List ℕ → Type 0) → Said → Type 0
Kept P s = Fine P s.log

abbrev pub told_said : Told → Said
told_said y = y.0

abbrev pub told_rest : Told → List ℕ
told_rest y = y.1

abbrev pub SaidFate : {M : Type 0} → (List ℕ → Type 0) → (List ℕ → Type 0)
    → (Said → List ℕ → M → Said → List ℕ → Type 0) → Said → List ℕ → SaidRead → Type 0
SaidFate P Free Part s t r =
    Fate (Kept P) Free (Fine P) P Part told_said told_rest s t r

-- a value of a key
abbrev pub SpellsOf : List ℕ → Said → List ℕ → Unit {0} → Said → List ℕ → Type 0
SpellsOf key s t one after rest = SpellsValue key s t after rest

-- ---- 2. texts

-- what a text between two `"` says
module _ (P : List ℕ → Type 0) (key : List ℕ) (put : Said → List ℕ → Said)
    (says : (s : Said) (value t rest : List ℕ) → SpellsText value t rest
    → SpellsValue key s t (put s value) rest)
    (keeps : (s : Said) (value : List ℕ) → Kept P s → Kept P (put s value))
    (kept : (s : Said) (value : List ℕ) → Kept P (put s value) → Kept P s) (s : Said)
    (t : List ℕ) where
  text_missing : Stopped (Kept P) (Fine P) P (SpellsOf key) s t (length (skipped t), s.log)
  text_missing = record {
    front = (led t).front;
    back = skipped t;
    is = (led t).is;
    cut = (led t).cut;
    there = refl;
    inside = None;
    opened = tt;
    more = λ bytes u. 10 ∷ 34 ∷ 34 ∷ 10 ∷ u;
    closed = λ bytes u h. utf8_after (10 ∷ 34 ∷ 34 ∷ 10 ∷ []) u refl h;
    before = λ good. good;
    goes = λ legal bytes asked r u ok. record {
      meaning = tt;
      after = put r [];
      spelled = says r [] ((led t).front ++ 10 ∷ 34 ∷ 34 ∷ 10 ∷ u) (10 ∷ u)
          (led_stands t (codes "\"") (34 ∷ 10 ∷ u), tt);
      good = keeps r [] ok;
    };
  }

  text_open : (q : List ℕ) → Stands (codes "\"") t q → cut 34 q ≡ None
      → Stopped (Kept P) (Fine P) P (SpellsOf key) s t (0, s.log)
  text_open q h is = record {
    front = t;
    back = [];
    is = sym (append-nil t);
    cut = cuts_all t;
    there = refl;
    inside = None;
    opened = tt;
    more = λ bytes u. 34 ∷ 10 ∷ u;
    closed = λ bytes u h. utf8_after (34 ∷ 10 ∷ []) u refl h;
    before = λ good. good;
    goes = λ legal bytes asked r u ok. record {
      meaning = tt;
      after = put r q;
      spelled = says r q (t ++ 34 ∷ 10 ∷ u) (10 ∷ u)
          (stands_more (codes "\"") t q h (34 ∷ 10 ∷ u), cut_lacks 34 q is);
      good = keeps r q ok;
    };
  }

  text_moved : (q : List ℕ) → Stands (codes "\"") t q → (p : List ℕ × List ℕ)
      → cut 34 q ≡ Some p
      → Moved (Kept P) EndsWord (SpellsOf key) s t (put s p.0) p.1
  text_moved q h p is =
      let found = cut_found 34 q p is in
      record {
        front = (h.gap ++ codes "\"") ++ (p.0 ++ 34 ∷ []);
        is = enclosed_front 34 t q h p.0 34 p.1 found.0;
        cut = enclosed_cut h.gap 34 p.0 34 p.1 (omega arith);
        before = λ good. kept s p.0 good;
        moves = λ good r u ok ends. record {
          meaning = tt;
          after = put r p.0;
          spelled = says r p.0 (((h.gap ++ codes "\"") ++ (p.0 ++ 34 ∷ [])) ++ u) u
              (enclosed_again 34 t q h p.0 34 u, found.1);
          good = keeps r p.0 ok;
        };
      }

-- ---- 3. queries

module _ (P : List ℕ → Type 0) (key : List ℕ) (put : Said → Given → Said)
    (says : (s : Said) (q : Shape) (l : Log) (t rest : List ℕ)
    → SpellsQuery 100 s.log t q l rest → SpellsValue key s t (put s (q, l, rest)) rest)
    (keeps : (s : Said) (y : Given) → Fine P y.1 → Kept P (put s y))
    (kept : (s : Said) (y : Given) → Kept P (put s y) → Fine P y.1) where
  query_moved : (s : Said) (t : List ℕ) (y : Given)
      → Moved (Fine P) EndsWord (SpellsQuery 100) s.log t y.1 y.2
      → Moved (Kept P) EndsWord (SpellsOf key) s t (put s y) y.2
  query_moved s t y a = record {
    front = a.front;
    is = a.is;
    cut = a.cut;
    before = λ good. a.before (kept s y good);
    moves = λ good r u ok ends.
        (let first = a.moves (kept s y good) r.log u ok ends in
        record {
          meaning = tt;
          after = put r (first.meaning, first.after, u);
          spelled = says r first.meaning first.after (a.front ++ u) u first.spelled;
          good = keeps r (first.meaning, first.after, u) first.good;
        });
  }

  query_stopped : (s : Said) (t : List ℕ) (e : ℕ × Log)
      → Stopped (Fine P) (Fine P) P (SpellsQuery 100) s.log t e
      → Stopped (Kept P) (Fine P) P (SpellsOf key) s t e
  query_stopped s t e a = record {
    front = a.front;
    back = a.back;
    is = a.is;
    cut = a.cut;
    there = a.there;
    inside = a.inside;
    opened = a.opened;
    more = a.more;
    closed = a.closed;
    before = a.before;
    goes = λ legal bytes asked r u ok.
        (let first = a.goes legal bytes asked r.log u ok in
        record {
          meaning = tt;
          after = put r (first.meaning, first.after, 10 ∷ u);
          spelled = says r first.meaning first.after (a.front ++ a.more bytes u) (10 ∷ u)
              first.spelled;
          good = keeps r (first.meaning, first.after, 10 ∷ u) first.good;
        });
  }

module _ (P : List ℕ → Type 0) (key : List ℕ) (s : Said) (t : List ℕ) where
  affected_fate : key ≡ codes "is_affected" → (r : Read)
      → ReadFate P (SpellsQuery 100) s.log t r
      → SaidFate P EndsWord (SpellsOf key) s t (on_ok r (with_affected s))
  affected_fate is (Ok y) a =
      query_moved P key (λ s y. record s { affected = Some y.0; log = y.1 })
      (λ s q l t rest h. affected_query q l is h refl) (λ s y h. h) (λ s y h. h) s t y a
  affected_fate is (Err e) a =
      query_stopped P key (λ s y. record s { affected = Some y.0; log = y.1 })
      (λ s q l t rest h. affected_query q l is h refl) (λ s y h. h) (λ s y h. h) s t e a

  good_fate : key ≡ codes "is_good" → (r : Read) → ReadFate P (SpellsQuery 100) s.log t r
      → SaidFate P EndsWord (SpellsOf key) s t (on_ok r (with_good s))
  good_fate is (Ok y) a =
      query_moved P key (λ s y. record s { good = Some y.0; log = y.1 })
      (λ s q l t rest h. good_query q l is h refl) (λ s y h. h) (λ s y h. h) s t y a
  good_fate is (Err e) a =
      query_stopped P key (λ s y. record s { good = Some y.0; log = y.1 })
      (λ s q l t rest h. good_query q l is h refl) (λ s y h. h) (λ s y h. h) s t e a

  bad_fate : key ≡ codes "is_bad" → (r : Read) → ReadFate P (SpellsQuery 100) s.log t r
      → SaidFate P EndsWord (SpellsOf key) s t (on_ok r (with_bad s))
  bad_fate is (Ok y) a =
      query_moved P key (λ s y. record s { bad = Some y.0; log = y.1 })
      (λ s q l t rest h. bad_query q l is h refl) (λ s y h. h) (λ s y h. h) s t y a
  bad_fate is (Err e) a =
      query_stopped P key (λ s y. record s { bad = Some y.0; log = y.1 })
      (λ s q l t rest h. bad_query q l is h refl) (λ s y h. h) (λ s y h. h) s t e a

-- ---- 4. titles, and other keys

-- nothing is asked of a pattern
abbrev pub Any : List ℕ → Type 0
Any raw = Unit {0}

pub any_fine : (log : Log) → Fine Any log
any_fine [] = tt
any_fine (r ∷ log) = (tt, any_fine log)

-- a byte and a slash close an open pattern of which nothing else is asked
pub any_asked : (o : Option (List ℕ)) (t : List ℕ) (left : ℕ) → Opened o t left
    → Asked Any o (120 ∷ [])
any_asked None t left h = tt
any_asked (Some raw) t left h = (between_closed raw h.3, tt)

pub closed_utf8 : (o : Option (List ℕ)) (t : List ℕ) → Closed o (120 ∷ []) t → IsUtf8 t
closed_utf8 None t h = h
closed_utf8 (Some raw) t h =
    subst (λ (l : List ℕ). IsUtf8 l) (sym h.1) (utf8_after (120 ∷ 47 ∷ []) h.0 refl h.2)

module _ (P : List ℕ → Type 0) (key : List ℕ) (s : Said) (t : List ℕ) where
  titled_fate : key ≡ codes "title" → (q : List ℕ) → Stands (codes "\"") t q
      → (o : Option (List ℕ × List ℕ)) → cut 34 q ≡ o
      → SaidFate P EndsWord (SpellsOf key) s t (titled s o)
  titled_fate is q h None closes =
      text_open P key (λ s value. record s { title = value })
      (λ s value t rest h. title_text value is h refl) (λ s value h. h) (λ s value h. h) s t q h
      closes
  titled_fate is q h (Some p) closes =
      text_moved P key (λ s value. record s { title = value })
      (λ s value t rest h. title_text value is h refl) (λ s value h. h) (λ s value h. h) s t q h
      p closes

  title_fate : key ≡ codes "title" → (o : Option (List ℕ)) → strip (codes "\"") (skipped t) ≡ o
      → SaidFate P EndsWord (SpellsOf key) s t (title_value s (length (skipped t)) o)
  title_fate is None quote =
      text_missing P key (λ s value. record s { title = value })
      (λ s value t rest h. title_text value is h refl) (λ s value h. h) (λ s value h. h) s t
  title_fate is (Some q) quote =
      titled_fate is q (comes_stands 34 [] t q (strip_found (codes "\"") (skipped t) q quote))
      (cut 34 q) refl

  ignored_text_fate : IsOtherKey key → (q : List ℕ) → Stands (codes "\"") t q
      → (o : Option (List ℕ × List ℕ)) → cut 34 q ≡ o
      → SaidFate P EndsWord (SpellsOf key) s t (ignored_text s o)
  ignored_text_fate other q h None closes =
      text_open P key (λ s value. s) (λ s value t rest h. other_text value other h refl)
      (λ s value h. h) (λ s value h. h) s t q h closes
  ignored_text_fate other q h (Some p) closes =
      text_moved P key (λ s value. s) (λ s value t rest h. other_text value other h refl)
      (λ s value h. h) (λ s value h. h) s t q h p closes

  ignored_fate : IsOtherKey key → (r : Read) → ReadFate Any (SpellsQuery 100) [] t r
      → SaidFate P EndsWord (SpellsOf key) s t (ignored_query s r)
  ignored_fate other (Ok y) a = record {
    front = a.front;
    is = a.is;
    cut = a.cut;
    before = λ good. good;
    moves = λ good r u ok ends.
        (let first = a.moves (any_fine y.1) [] u tt ends in
        record {
          meaning = tt;
          after = r;
          spelled = other_query first.meaning first.after other first.spelled refl;
          good = ok;
        });
  }
  ignored_fate other (Err e) a = record {
    front = a.front;
    back = a.back;
    is = a.is;
    cut = a.cut;
    there = a.there;
    inside = None;
    opened = tt;
    more = λ bytes u. a.more (120 ∷ []) u;
    closed = λ bytes u h. closed_utf8 a.inside (a.more (120 ∷ []) u) (a.closed (120 ∷ []) u h);
    before = λ good. good;
    goes = λ legal bytes asked r u ok.
        (let first = a.goes (any_fine e.1) (120 ∷ []) (any_asked a.inside t e.0 a.opened) [] u
        tt in
        record {
          meaning = tt;
          after = r;
          spelled = other_query first.meaning first.after other first.spelled refl;
          good = ok;
        });
  }

  other_fate : IsOtherKey key → (o : Option (List ℕ)) → strip (codes "\"") (skipped t) ≡ o
      → SaidFate P EndsWord (SpellsOf key) s t (other_value s t o)
  unfolding other_value
  other_fate other None quote =
      ignored_fate other (or_at 100 [] t) (query_fate Any 100 [] t)
  other_fate other (Some q) quote =
      ignored_text_fate other q
      (comes_stands 34 [] t q (strip_found (codes "\"") (skipped t) q quote)) (cut 34 q) refl

  by_key : (a b c d : Bool) → bytes_eq key (codes "title") ≡ a
      → bytes_eq key (codes "is_affected") ≡ b → bytes_eq key (codes "is_good") ≡ c
      → bytes_eq key (codes "is_bad") ≡ d
      → SaidFate P EndsWord (SpellsOf key) s t
      (cond a (title_value s (length (skipped t)) (strip (codes "\"") (skipped t)))
      (cond b (on_ok (or_at 100 s.log t) (with_affected s))
      (cond c (on_ok (or_at 100 s.log t) (with_good s))
      (cond d (on_ok (or_at 100 s.log t) (with_bad s))
      (other_value s t (strip (codes "\"") (skipped t)))))))
  by_key true b c d p q r o =
      title_fate (is_word key (codes "title") p) (strip (codes "\"") (skipped t)) refl
  by_key false true c d p q r o =
      affected_fate P key s t (is_word key (codes "is_affected") q) (or_at 100 s.log t)
      (query_fate P 100 s.log t)
  by_key false false true d p q r o =
      good_fate P key s t (is_word key (codes "is_good") r) (or_at 100 s.log t)
      (query_fate P 100 s.log t)
  by_key false false false true p q r o =
      bad_fate P key s t (is_word key (codes "is_bad") o) (or_at 100 s.log t)
      (query_fate P 100 s.log t)
  by_key false false false false p q r o =
      other_fate (record {
        title = not_word key (codes "title") p;
        affected = not_word key (codes "is_affected") q;
        good = not_word key (codes "is_good") r;
        bad = not_word key (codes "is_bad") o;
      }) (strip (codes "\"") (skipped t)) refl

  -- the reading of a value
  pub value_fate : SaidFate P EndsWord (SpellsOf key) s t (value_at key s t)
  unfolding value_at
  value_fate =
      by_key (bytes_eq key (codes "title")) (bytes_eq key (codes "is_affected"))
      (bytes_eq key (codes "is_good")) (bytes_eq key (codes "is_bad")) refl refl refl refl

-- ---- 5. some value

-- a value that may come after the key's `=`
pub record HasValue (P : List ℕ → Type 0) (key : List ℕ) : Type 0 where
  pub value : List ℕ
  pub small : list_all is_small value ≡ true
  pub says : (s : Said) (u : List ℕ) → Kept P s
      → Spelled (Kept P) (SpellsOf key) s (value ++ 10 ∷ u) (10 ∷ u)

module _ (P : List ℕ → Type 0) (key : List ℕ) where
  true_value : (a b c : Bool) → bytes_eq key (codes "is_affected") ≡ a
      → bytes_eq key (codes "is_good") ≡ b → bytes_eq key (codes "is_bad") ≡ c
      → bytes_eq key (codes "title") ≡ false → HasValue P key
  true_value true b c p q r o = record {
    value = codes "true";
    small = refl;
    says = λ s u ok. record {
      meaning = tt;
      after = record s { affected = Some (always true) };
      spelled = affected_query (always true) s.log (is_word key (codes "is_affected") p)
          (true_query 100 s.log (10 ∷ u) refl) refl;
      good = ok;
    };
  }
  true_value false true c p q r o = record {
    value = codes "true";
    small = refl;
    says = λ s u ok. record {
      meaning = tt;
      after = record s { good = Some (always true) };
      spelled = good_query (always true) s.log (is_word key (codes "is_good") q)
          (true_query 100 s.log (10 ∷ u) refl) refl;
      good = ok;
    };
  }
  true_value false false true p q r o = record {
    value = codes "true";
    small = refl;
    says = λ s u ok. record {
      meaning = tt;
      after = record s { bad = Some (always true) };
      spelled = bad_query (always true) s.log (is_word key (codes "is_bad") r)
          (true_query 100 s.log (10 ∷ u) refl) refl;
      good = ok;
    };
  }
  true_value false false false p q r o = record {
    value = codes "true";
    small = refl;
    says = λ s u ok. record {
      meaning = tt;
      after = s;
      spelled = other_query (always true) [] (record {
        title = not_word key (codes "title") o;
        affected = not_word key (codes "is_affected") p;
        good = not_word key (codes "is_good") q;
        bad = not_word key (codes "is_bad") r;
      }) (true_query 100 [] (10 ∷ u) refl) refl;
      good = ok;
    };
  }

  pub has_value : HasValue P key
  has_value =
      elim (cases_Bool (bytes_eq key (codes "title"))) [
        | inl is ↦ record {
          value = 34 ∷ 34 ∷ [];
          small = refl;
          says = λ s u ok. record {
            meaning = tt;
            after = record s { title = [] };
            spelled = title_text [] (is_word key (codes "title") is)
                (here_stands (codes "\"") (34 ∷ 10 ∷ u), tt) refl;
            good = ok;
          };
        }
        | inr other ↦
            true_value (bytes_eq key (codes "is_affected")) (bytes_eq key (codes "is_good"))
            (bytes_eq key (codes "is_bad")) refl refl refl other
      ]
