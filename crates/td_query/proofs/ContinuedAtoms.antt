-- How an atom that goes wrong at some byte can go on.
use Rattle.std.proofs.Common.{◌≡◌, ℕ, ◌<◌, Bool, true, false, cond, not, eqb, ◌&&◌, List, [], ◌∷◌}
use Rattle.std.proofs.Common.{◌++◌, length, Option, Some, None, Err, refl, sym, ap, subst, ◌∙◌}
use Rattle.std.proofs.Common.{append_assoc, append-nil, arith}
use Rattle.std.specs.Prelude.{codes, if◌then◌else◌}
use Rattle.td_text.specs.Cut.{Without, cut, strip}
use Rattle.td_text.specs.Runs.{behind, run}
use Rattle.td_text.proofs.Cut.{cut_found}
use Rattle.td_text.proofs.Prefix.{strip_found}
use Rattle.td_text.proofs.RunTexts.{run_joined, run_passes}
use Rattle.td_query.specs.Query.{Shape, pattern, text}
use Rattle.td_query.specs.QueryGrammar.{Log, Raw, atom, dotted, field_atom, quote_atom, quoted}
use Rattle.td_query.specs.QueryGrammar.{slash_atom, slashed, tested, tilde_atom, tilded}
use Rattle.td_query.specs.QuerySpelling.{EndsWord, IsKey, SpellsAtom, SpellsField, Stands}
use Rattle.td_query.specs.QuerySpelling.{field_pattern, field_text}
use Rattle.td_query.specs.TokenRules.{IsBetweenSlashes}
use Rattle.td_query.specs.Tokens.{is_key_byte, pattern_in, skipped}
use Rattle.td_query.proofs.Continued.{Cuts, Stopped, cuts_all, cuts_join, prefixed}
use Rattle.td_query.proofs.ContinuedCuts.{ascii_cuts, cut_after, key_ascii, utf8_after}
use Rattle.td_query.proofs.ContinuedMarks.{here_stands, is_filled, led, led_stands, stands_again}
use Rattle.td_query.proofs.ContinuedMarks.{stands_cut, stands_ends, stands_front, stands_more}
use Rattle.td_query.proofs.ContinuedWords.{Fine, ReadFate, fine_front, fine_last, fine_more}
use Rattle.td_query.proofs.ContinuedWords.{left_over, logged, word_fate}
use Rattle.td_query.proofs.Gaps.{comes_stands, cut_lacks}
use Rattle.td_query.proofs.PatternEnds.{Parts, at_end, more, parts, patterns_end}
use Rattle.td_query.proofs.SpelledAtoms.{filled}

-- ---- 1. a pattern that is open

none_more : (x : ℕ) (o : Parts) → more x o ≡ None → o ≡ None
none_more x None e = refl
none_more x (Some p) e = absurd (let bad : ◌≡◌ {A = Parts} (Some (x ∷ p.0, p.1)) None = e in cc)

-- a byte that is no backslash, and then a slash, close an open pattern
parts_closed : (escaped : Bool) (q r : List ℕ) → parts escaped q ≡ None
    → parts escaped (q ++ 120 ∷ 47 ∷ r) ≡ Some (q ++ 120 ∷ [], r)
parts_closed escaped [] r e = refl
parts_closed escaped (x ∷ q) r e =
    by (eqb x 47 && not escaped) e (λ k. parts_closed (eqb x 92) q r k)
  where
    by : (b : Bool) → (if b then Some ([], q) else more x (parts (eqb x 92) q)) ≡ None
        → (parts (eqb x 92) q ≡ None
        → parts (eqb x 92) (q ++ 120 ∷ 47 ∷ r) ≡ Some (q ++ 120 ∷ [], r))
        → (if b then Some ([], q ++ 120 ∷ 47 ∷ r)
        else more x (parts (eqb x 92) (q ++ 120 ∷ 47 ∷ r))) ≡ Some (x ∷ (q ++ 120 ∷ []), r)
    by true e later = absurd (let bad : ◌≡◌ {A = Parts} (Some ([], q)) None = e in cc)
    by false e later = ap (more x) (later (none_more x (parts (eqb x 92) q) e))

pub between_closed : (q : List ℕ) → pattern_in q ≡ None → IsBetweenSlashes (q ++ 120 ∷ [])
between_closed q e =
    ((patterns_end (q ++ 120 ∷ 47 ∷ []) (q ++ 120 ∷ []) []).0
    (at_end false (q ++ 120 ∷ 47 ∷ []) ∙ parts_closed false q [] (sym (at_end false q) ∙ e))).1

-- ---- 2. after a `~`

-- what is tested for in a field: a text or a pattern
data SpellsTest (name : List ℕ) (log : Log) (t : List ℕ) (s : Shape) (after : Log)
    (rest : List ℕ) : Type 0 where
  test_text : (value : List ℕ) → Stands (codes "\"") t (value ++ (codes "\"" ++ rest))
      → Without 34 value → s ≡ text name value → after ≡ log → SpellsTest name log t s after rest
  test_pattern : (raw : List ℕ) → Stands (codes "/") t (raw ++ (codes "/" ++ rest))
      → IsBetweenSlashes raw → s ≡ pattern name (length log)
      → after ≡ log ++ record {
        left = length (codes "/" ++ (raw ++ (codes "/" ++ rest)));
        raw = raw;
      } ∷ []
      → SpellsTest name log t s after rest

-- a gap, a text between two marks, and the rest, put together in two ways
enclosed : (gap : List ℕ) (x : ℕ) (raw : List ℕ) (y : ℕ) (u : List ℕ)
    → ((gap ++ x ∷ []) ++ (raw ++ y ∷ [])) ++ u ≡ gap ++ (x ∷ (raw ++ y ∷ u))
enclosed gap x raw y u =
    append_assoc (gap ++ x ∷ []) (raw ++ y ∷ []) u
    ∙ append_assoc gap (x ∷ []) ((raw ++ y ∷ []) ++ u)
    ∙ ap (λ (l : List ℕ). gap ++ (x ∷ l)) (append_assoc raw (y ∷ []) u)

pub enclosed_front : (x : ℕ) (t q : List ℕ) (h : Stands (x ∷ []) t q) (raw : List ℕ) (y : ℕ)
    (rest : List ℕ) → q ≡ raw ++ y ∷ rest
    → t ≡ ((h.gap ++ x ∷ []) ++ (raw ++ y ∷ [])) ++ rest
enclosed_front x t q h raw y rest is =
    h.spelled ∙ ap (λ (l : List ℕ). h.gap ++ (x ∷ l)) is ∙ sym (enclosed h.gap x raw y rest)

pub enclosed_cut : (gap : List ℕ) (x : ℕ) (raw : List ℕ) (y : ℕ) (rest : List ℕ) → y < 128
    → Cuts ((gap ++ x ∷ []) ++ (raw ++ y ∷ [])) rest
enclosed_cut gap x raw y rest small =
    subst (λ (l : List ℕ). Cuts l rest) (append_assoc (gap ++ x ∷ []) raw (y ∷ []))
    (cut_after ((gap ++ x ∷ []) ++ raw) y rest small)

pub enclosed_again : (x : ℕ) (t q : List ℕ) (h : Stands (x ∷ []) t q) (raw : List ℕ) (y : ℕ)
    (u : List ℕ) → Stands (x ∷ []) (((h.gap ++ x ∷ []) ++ (raw ++ y ∷ [])) ++ u) (raw ++ y ∷ u)
enclosed_again x t q h raw y u = record {
  gap = h.gap;
  between = h.between;
  spelled = enclosed h.gap x raw y u;
}

module _ (P : List ℕ → Type 0) (name : List ℕ) (log : Log) (t : List ℕ) where
  quote_fate : (q : List ℕ) → Stands (codes "\"") t q → (o : Option (List ℕ × List ℕ))
      → cut 34 q ≡ o → ReadFate P (SpellsTest name) log t (quote_atom log name o)
  quote_fate q h None is = record {
    front = t;
    back = [];
    is = sym (append-nil t);
    cut = cuts_all t;
    there = refl;
    inside = None;
    opened = tt;
    more = λ bytes u. 34 ∷ 10 ∷ u;
    closed = λ bytes u h. utf8_after (34 ∷ 10 ∷ []) u refl h;
    before = λ good. good;
    goes = λ legal bytes asked r u ok. record {
      meaning = text name q;
      after = r;
      spelled = test_text q (stands_more (codes "\"") t q h (34 ∷ 10 ∷ u)) (cut_lacks 34 q is) refl
          refl;
      good = ok;
    };
  }
  quote_fate q h (Some p) is =
      let found = cut_found 34 q p is in
      record {
        front = (h.gap ++ codes "\"") ++ (p.0 ++ 34 ∷ []);
        is = enclosed_front 34 t q h p.0 34 p.1 found.0;
        cut = enclosed_cut h.gap 34 p.0 34 p.1 (omega arith);
        before = λ good. good;
        moves = λ good r u ok ends. record {
          meaning = text name p.0;
          after = r;
          spelled = test_text p.0 (enclosed_again 34 t q h p.0 34 u) found.1 refl refl;
          good = ok;
        };
      }

  slash_fate : (q : List ℕ) → Stands (codes "/") t q → (left : ℕ)
      → (o : Option (List ℕ × List ℕ)) → pattern_in q ≡ o
      → ReadFate P (SpellsTest name) log t (slash_atom log name left o)
  unfolding slash_atom
  slash_fate q h left None is = record {
    front = t;
    back = [];
    is = sym (append-nil t);
    cut = cuts_all t;
    there = refl;
    inside = Some q;
    opened = (refl, h.gap, h.spelled, is);
    more = λ bytes u. bytes ++ 47 ∷ 10 ∷ u;
    closed = λ bytes u h. (10 ∷ u, refl, utf8_after (10 ∷ []) u refl h);
    before = λ good. good;
    goes = λ legal bytes asked r u ok.
        (let raw : List ℕ = q ++ bytes in
        let here : Raw = record {
          left = length (codes "/" ++ (raw ++ (codes "/" ++ 10 ∷ u)));
          raw = raw;
        } in
        let there : Stands (codes "/") (t ++ (bytes ++ 47 ∷ 10 ∷ u))
        (raw ++ (codes "/" ++ 10 ∷ u)) =
        subst (λ (l : List ℕ). Stands (codes "/") (t ++ (bytes ++ 47 ∷ 10 ∷ u)) l)
        (sym (append_assoc q bytes (47 ∷ 10 ∷ u)))
        (stands_more (codes "/") t q h (bytes ++ 47 ∷ 10 ∷ u)) in
        record {
          meaning = pattern name (length r);
          after = r ++ here ∷ [];
          spelled = test_pattern raw there asked.0 refl refl;
          good = fine_more P r here ok asked.1;
        });
  }
  slash_fate q h left (Some p) is =
      let found = (patterns_end q p.0 p.1).0 is in
      let one : Raw = record { left = left; raw = p.0 } in
      record {
        front = (h.gap ++ codes "/") ++ (p.0 ++ 47 ∷ []);
        is = enclosed_front 47 t q h p.0 47 p.1 found.0;
        cut = enclosed_cut h.gap 47 p.0 47 p.1 (omega arith);
        before = λ good. fine_front P log one good;
        moves = λ good r u ok ends.
            (let here : Raw = record {
              left = length (codes "/" ++ (p.0 ++ (codes "/" ++ u)));
              raw = p.0;
            } in
            record {
              meaning = pattern name (length r);
              after = r ++ here ∷ [];
              spelled = test_pattern p.0 (enclosed_again 47 t q h p.0 47 u) found.1 refl refl;
              good = fine_more P r here ok (fine_last P log one good);
            });
      }

  slashed_fate : (o : Option (List ℕ)) → strip (codes "/") (skipped t) ≡ o
      → ReadFate P (SpellsTest name) log t (slashed log name (length (skipped t)) o)
  slashed_fate None is = record {
    front = (led t).front;
    back = skipped t;
    is = (led t).is;
    cut = (led t).cut;
    there = refl;
    inside = None;
    opened = tt;
    more = λ bytes u. 10 ∷ 34 ∷ 34 ∷ 10 ∷ u;
    closed = λ bytes u h. utf8_after (10 ∷ 34 ∷ 34 ∷ 10 ∷ []) u refl h;
    before = λ good. good;
    goes = λ legal bytes asked r u ok. record {
      meaning = text name [];
      after = r;
      spelled = test_text [] (led_stands t (codes "\"") (34 ∷ 10 ∷ u)) tt refl refl;
      good = ok;
    };
  }
  slashed_fate (Some q) is =
      slash_fate q (comes_stands 47 [] t q (strip_found (codes "/") (skipped t) q is))
      (length (skipped t)) (pattern_in q) refl

  quoted_fate : (o : Option (List ℕ)) → strip (codes "\"") (skipped t) ≡ o
      → ReadFate P (SpellsTest name) log t (quoted log name (skipped t) o)
  quoted_fate None is = slashed_fate (strip (codes "/") (skipped t)) refl
  quoted_fate (Some q) is =
      quote_fate q (comes_stands 34 [] t q (strip_found (codes "\"") (skipped t) q is)) (cut 34 q)
      refl

  tested_fate : ReadFate P (SpellsTest name) log t (tested log name t)
  unfolding tested
  tested_fate = quoted_fate (strip (codes "\"") (skipped t)) refl

-- ---- 3. after a dot

-- a `~`, and what is tested for
abbrev SpellsTilde : List ℕ → Log → List ℕ → Shape → Log → List ℕ → Type 0
SpellsTilde name log t s after rest =
    (w : List ℕ) × Stands (codes "~") t w × SpellsTest name log w s after rest

-- an empty text is spelled by two `"`
nothing : (name : List ℕ) (log : Log) (u : List ℕ)
    → SpellsTest name log (34 ∷ 34 ∷ u) (text name []) log u
nothing name log u = test_text [] (here_stands (codes "\"") (34 ∷ u)) tt refl refl

module _ (P : List ℕ → Type 0) (name : List ℕ) (log : Log) (t : List ℕ) where
  tilded_fate : (o : Option (List ℕ)) → strip (codes "~") (skipped t) ≡ o
      → ReadFate P (SpellsTilde name) log t (tilded log name (length (skipped t)) o)
  tilded_fate None is = record {
    front = (led t).front;
    back = skipped t;
    is = (led t).is;
    cut = (led t).cut;
    there = refl;
    inside = None;
    opened = tt;
    more = λ bytes u. 10 ∷ 126 ∷ 34 ∷ 34 ∷ 10 ∷ u;
    closed = λ bytes u h. utf8_after (10 ∷ 126 ∷ 34 ∷ 34 ∷ 10 ∷ []) u refl h;
    before = λ good. good;
    goes = λ legal bytes asked r u ok. record {
      meaning = text name [];
      after = r;
      spelled = (
        34 ∷ 34 ∷ 10 ∷ u,
        led_stands t (codes "~") (34 ∷ 34 ∷ 10 ∷ u),
        nothing name r (10 ∷ u),
      );
      good = ok;
    };
  }
  tilded_fate (Some w) is =
      let h = comes_stands 126 [] t w (strip_found (codes "~") (skipped t) w is) in
      prefixed (Fine P) EndsWord (Fine P) P (SpellsTest name)
      (SpellsTilde name) logged left_over (h.gap ++ codes "~") t w
      (stands_front (codes "~") t w h) (stands_cut (codes "~") t w h refl)
      (λ s after x end m k. (m, (x, stands_again (codes "~") t w h x, k)))
      log (tested log name w) (tested_fate P name log w)

module _ (P : List ℕ → Type 0) (log : Log) (t u : List ℕ) (dot : Stands (codes ".") t u) where
  tilde_spelled : (name : List ℕ) → IsKey name → (s after : Log) (w end : List ℕ) (m : Shape)
      → SpellsTilde name s w m after end
      → (k : Shape) × SpellsAtom s (((dot.gap ++ codes ".") ++ name) ++ w) k after end
  tilde_spelled name legal s after w end m (x, tilde, test) = (m, by test)
    where
      field : SpellsField name (((dot.gap ++ codes ".") ++ name) ++ w) x
      field = record {
        behind = w;
        dot = subst (λ (l : List ℕ). Stands (codes ".") l (name ++ w))
            (sym (append_assoc (dot.gap ++ codes ".") name w))
            (stands_again (codes ".") t u dot (name ++ w));
        legal = legal;
        ends = stands_ends 126 [] w x refl tilde;
        tilde = tilde;
      }

      by : SpellsTest name s x m after end
          → SpellsAtom s (((dot.gap ++ codes ".") ++ name) ++ w) m after end
      by (test_text value there none is same) = field_text name value x field there none is same
      by (test_pattern raw there between is same) =
          field_pattern name raw x field there between is same

  nameless : Stopped (Fine P) (Fine P) P SpellsAtom log t (length u, log)
  nameless = record {
    front = dot.gap ++ codes ".";
    back = u;
    is = stands_front (codes ".") t u dot;
    cut = stands_cut (codes ".") t u dot refl;
    there = refl;
    inside = None;
    opened = tt;
    more = λ bytes v. 97 ∷ 126 ∷ 34 ∷ 34 ∷ 10 ∷ v;
    closed = λ bytes v h. utf8_after (97 ∷ 126 ∷ 34 ∷ 34 ∷ 10 ∷ []) v refl h;
    before = λ good. good;
    goes = λ legal bytes asked r v ok.
        (let spelled = tilde_spelled (97 ∷ []) (is_filled 97 [], refl) r r
        (126 ∷ 34 ∷ 34 ∷ 10 ∷ v) (10 ∷ v) (text (97 ∷ []) []) (
          34 ∷ 34 ∷ 10 ∷ v,
          here_stands (codes "~") (34 ∷ 34 ∷ 10 ∷ v),
          nothing (97 ∷ []) r (10 ∷ v),
        ) in
        record {
          meaning = spelled.0;
          after = r;
          spelled = subst (λ (l : List ℕ). SpellsAtom r l spelled.0 r (10 ∷ v))
              (append_assoc (dot.gap ++ codes ".") (97 ∷ []) (126 ∷ 34 ∷ 34 ∷ 10 ∷ v)) spelled.1;
          good = ok;
        });
  }

  named_fate : (b : Bool) → eqb (length (run is_key_byte u)) 0 ≡ b
      → ReadFate P SpellsAtom log t
      (cond b (Err (length u, log)) (tilde_atom log (run is_key_byte u) (behind is_key_byte u)))
  unfolding tilde_atom
  named_fate true is = nameless
  named_fate false is =
      let name : List ℕ = run is_key_byte u in
      let w : List ℕ = behind is_key_byte u in
      let whole : t ≡ ((dot.gap ++ codes ".") ++ name) ++ w =
      stands_front (codes ".") t u dot
      ∙ ap (λ (l : List ℕ). (dot.gap ++ codes ".") ++ l) (run_joined is_key_byte u)
      ∙ sym (append_assoc (dot.gap ++ codes ".") name w) in
      prefixed (Fine P) EndsWord (Fine P) P (SpellsTilde name) SpellsAtom logged left_over
      ((dot.gap ++ codes ".") ++ name) t w whole
      (cuts_join (dot.gap ++ codes ".") name w
      (cut_after dot.gap 46 (name ++ w) (omega arith))
      (ascii_cuts name w (key_ascii name (run_passes is_key_byte u))))
      (tilde_spelled name (filled name is, run_passes is_key_byte u)) log
      (tilde_atom log name w) (tilded_fate P name log w (strip (codes "~") (skipped w)) refl)

  field_fate : ReadFate P SpellsAtom log t (field_atom log u)
  unfolding field_atom
  field_fate = named_fate (eqb (length (run is_key_byte u)) 0) refl

module _ (P : List ℕ → Type 0) (log : Log) (t : List ℕ) where
  dotted_fate : (o : Option (List ℕ)) → strip (codes ".") (skipped t) ≡ o
      → ReadFate P SpellsAtom log t (dotted log (skipped t) o)
  dotted_fate None is = word_fate P log t
  dotted_fate (Some u) is =
      field_fate P log t u (comes_stands 46 [] t u (strip_found (codes ".") (skipped t) u is))

  pub atom_fate : ReadFate P SpellsAtom log t (atom log (skipped t))
  unfolding atom
  atom_fate = dotted_fate (strip (codes ".") (skipped t)) refl
