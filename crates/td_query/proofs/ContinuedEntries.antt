-- How a key and its value that go wrong at some byte can go on.
use Rattle.std.proofs.Common.{◌≡◌, ℕ, Bool, true, false, cond, eqb, List, [], ◌∷◌, ◌++◌, length}
use Rattle.std.proofs.Common.{Option, Some, None, Err, refl, sym, ap, subst, ◌∙◌}
use Rattle.std.specs.Prelude.{codes}
use Rattle.td_text.specs.Cut.{strip}
use Rattle.td_text.specs.Lines.{on_ok}
use Rattle.td_text.specs.Runs.{behind, run}
use Rattle.td_text.proofs.Prefix.{strip_found}
use Rattle.td_text.proofs.RunTexts.{run_joined, run_passes}
use Rattle.td_query.specs.QuerySpelling.{EndsWord, IsKey, Stands}
use Rattle.td_query.specs.Tokens.{is_key_byte, skipped}
use Rattle.td_query.specs.TrackerGrammar.{Said, ended, ended_by, entry_at, equalled, value_at}
use Rattle.td_query.specs.TrackerSpelling.{IsOtherKey, SpellsEntry, SpellsValue, other_text}
use Rattle.td_query.proofs.Continued.{Stopped, chain_fate, prefixed}
use Rattle.td_query.proofs.ContinuedCuts.{key_ascii, utf8_after}
use Rattle.td_query.proofs.ContinuedMarks.{Marked, here_stands, is_filled, led, led_stands}
use Rattle.td_query.proofs.ContinuedMarks.{line_gap, mark_missing, mark_moved, stands_again}
use Rattle.td_query.proofs.ContinuedMarks.{stands_cut, stands_ends, stands_front}
use Rattle.td_query.proofs.ContinuedValues.{Kept, SaidFate, SpellsOf, has_value, told_rest}
use Rattle.td_query.proofs.ContinuedValues.{told_said, value_fate}
use Rattle.td_query.proofs.ContinuedWords.{Fine}
use Rattle.td_query.proofs.Gaps.{comes_stands}
use Rattle.td_query.proofs.SpelledAtoms.{filled}
use Rattle.td_query.proofs.SpelledTrackers.{Told, stands_word}

-- nothing is asked of what follows
abbrev pub Anything : List ℕ → Type 0
Anything u = Unit {0}

-- a value, and the `;` that ends it
abbrev SpellsEnded : List ℕ → Said → List ℕ → Unit {0} → Said → List ℕ → Type 0
SpellsEnded key s t one after rest =
    (end : List ℕ) × SpellsValue key s t after end × Stands (codes ";") end rest

-- an `=`, a value, and the `;` that ends it
abbrev SpellsEqualled : List ℕ → Said → List ℕ → Unit {0} → Said → List ℕ → Type 0
SpellsEqualled key s t one after rest = (w : List ℕ) × Stands (codes "=") t w
    × (end : List ℕ) × SpellsValue key s w after end × Stands (codes ";") end rest

-- a key, an `=`, a value, and the `;` that ends it
abbrev pub SpellsOne : Said → List ℕ → Unit {0} → Said → List ℕ → Type 0
SpellsOne s t one after rest = SpellsEntry s t after rest

pub line_stands : (bytes u : List ℕ) → Stands bytes (10 ∷ (bytes ++ u)) u
line_stands bytes u = record { gap = 10 ∷ []; between = line_gap; spelled = refl }

other_letter : IsOtherKey (120 ∷ [])
other_letter = record {
  title = λ e. shorter (codes "title") e refl;
  affected = λ e. shorter (codes "is_affected") e refl;
  good = λ e. shorter (codes "is_good") e refl;
  bad = λ e. shorter (codes "is_bad") e refl;
}
  where
    shorter : (word : List ℕ) → 120 ∷ [] ≡ word → eqb (length word) 1 ≡ false → ⊥
    shorter word e other =
        (let bad : true ≡ false = ap (λ (l : List ℕ). eqb (length l) 1) e ∙ other in cc)

letter_key : IsKey (120 ∷ [])
letter_key = (is_filled 120 [], refl)

module _ (P : List ℕ → Type 0) where
  ended_by_fate : (s : Said) (t : List ℕ) (o : Option (List ℕ)) → strip (codes ";") (skipped t) ≡ o
      → SaidFate P Anything (Marked Said (codes ";")) s t (ended_by s (length (skipped t)) o)
  ended_by_fate s t None is =
      mark_missing Said (Kept P) (codes ";") refl (Fine P) P s t s.log (λ good. good)
  ended_by_fate s t (Some u) is =
      mark_moved Said (Kept P) (codes ";") refl Anything s t u
      (comes_stands 59 [] t u (strip_found (codes ";") (skipped t) u is))

  ended_fate : (y : Told) → SaidFate P Anything (Marked Said (codes ";")) y.0 y.1 (ended y)
  unfolding ended
  ended_fate y = ended_by_fate y.0 y.1 (strip (codes ";") (skipped y.1)) refl

  valued_fate : (key : List ℕ) (s : Said) (t : List ℕ)
      → SaidFate P Anything (SpellsEnded key) s t (on_ok (value_at key s t) ended)
  valued_fate key s t =
      chain_fate (Kept P) EndsWord Anything (Fine P) P (SpellsOf key)
      (Marked Said (codes ";")) (SpellsEnded key)
      (λ s one after t v rest m n p q. (
        tt,
        (
          v,
          subst (λ (l : Said). SpellsValue key s t l v) (sym q.1) p,
          q.0,
        ),
      ))
      (λ s after t rest n q free. stands_ends 59 [] t rest refl q.0) (λ u. tt)
      (λ u. 59 ∷ 10 ∷ u) (λ u h. utf8_after (59 ∷ 10 ∷ []) u refl h)
      (λ s u ok. record {
        meaning = tt;
        after = s;
        spelled = (line_stands (codes ";") (10 ∷ u), refl);
        good = ok;
      })
      told_said told_rest told_said told_rest s t (value_at key s t) (value_fate P key s t) ended
      ended_fate

  equalled_fate : (key : List ℕ) (s : Said) (t : List ℕ) (o : Option (List ℕ))
      → strip (codes "=") (skipped t) ≡ o
      → SaidFate P Anything (SpellsEqualled key) s t (equalled key s (length (skipped t)) o)
  equalled_fate key s t None is =
      let some = has_value P key in
      record {
        front = (led t).front;
        back = skipped t;
        is = (led t).is;
        cut = (led t).cut;
        there = refl;
        inside = None;
        opened = tt;
        more = λ bytes u. 10 ∷ 61 ∷ (some.value ++ 10 ∷ 59 ∷ 10 ∷ u);
        closed = λ bytes u h.
            utf8_after (10 ∷ 61 ∷ []) (some.value ++ 10 ∷ 59 ∷ 10 ∷ u) refl
            (utf8_after some.value (10 ∷ 59 ∷ 10 ∷ u) some.small
            (utf8_after (10 ∷ 59 ∷ 10 ∷ []) u refl h));
        before = λ good. good;
        goes = λ legal bytes asked r u ok.
            (let says = some.says r (59 ∷ 10 ∷ u) ok in
            record {
              meaning = tt;
              after = says.after;
              spelled = (
                some.value ++ 10 ∷ 59 ∷ 10 ∷ u,
                led_stands t (codes "=") (some.value ++ 10 ∷ 59 ∷ 10 ∷ u),
                10 ∷ 59 ∷ 10 ∷ u,
                says.spelled,
                line_stands (codes ";") (10 ∷ u),
              );
              good = says.good;
            });
      }
  equalled_fate key s t (Some w) is =
      let h = comes_stands 61 [] t w (strip_found (codes "=") (skipped t) w is) in
      prefixed (Kept P) Anything (Fine P) P (SpellsEnded key)
      (SpellsEqualled key) told_said told_rest (h.gap ++ codes "=") t w
      (stands_front (codes "=") t w h) (stands_cut (codes "=") t w h refl)
      (λ s after x end m k. (tt, (x, stands_again (codes "=") t w h x, k.0, k.1, k.2)))
      s (on_ok (value_at key s w) ended) (valued_fate key s w)

  keyless : (s : Said) (t : List ℕ)
      → Stopped (Kept P) (Fine P) P SpellsOne s t (length (skipped t), s.log)
  keyless s t = record {
    front = (led t).front;
    back = skipped t;
    is = (led t).is;
    cut = (led t).cut;
    there = refl;
    inside = None;
    opened = tt;
    more = λ bytes u. 10 ∷ 120 ∷ 61 ∷ 34 ∷ 34 ∷ 59 ∷ 10 ∷ u;
    closed = λ bytes u h. utf8_after (10 ∷ 120 ∷ 61 ∷ 34 ∷ 34 ∷ 59 ∷ 10 ∷ []) u refl h;
    before = λ good. good;
    goes = λ legal bytes asked r u ok. record {
      meaning = tt;
      after = r;
      spelled = record {
        key = 120 ∷ [];
        behind = 61 ∷ 34 ∷ 34 ∷ 59 ∷ 10 ∷ u;
        there = led_stands t (120 ∷ []) (61 ∷ 34 ∷ 34 ∷ 59 ∷ 10 ∷ u);
        legal = letter_key;
        ends = refl;
        value = 34 ∷ 34 ∷ 59 ∷ 10 ∷ u;
        equals = here_stands (codes "=") (34 ∷ 34 ∷ 59 ∷ 10 ∷ u);
        end = 59 ∷ 10 ∷ u;
        says = other_text [] other_letter (here_stands (codes "\"") (34 ∷ 59 ∷ 10 ∷ u), tt) refl;
        semicolon = here_stands (codes ";") (10 ∷ u);
      };
      good = ok;
    };
  }

  named_fate : (s : Said) (t : List ℕ) (b : Bool)
      → eqb (length (run is_key_byte (skipped t))) 0 ≡ b
      → SaidFate P Anything SpellsOne s t
      (cond b (Err (length (skipped t), s.log))
      (equalled (run is_key_byte (skipped t)) s
      (length (skipped (behind is_key_byte (skipped t))))
      (strip (codes "=") (skipped (behind is_key_byte (skipped t))))))
  named_fate s t true is = keyless s t
  named_fate s t false is =
      let key : List ℕ = run is_key_byte (skipped t) in
      let w : List ℕ = behind is_key_byte (skipped t) in
      let some = filled key is in
      let h = stands_word key t w some (run_joined is_key_byte (skipped t)) in
      prefixed (Kept P) Anything (Fine P) P (SpellsEqualled key) SpellsOne
      told_said told_rest (h.gap ++ key) t w (stands_front key t w h)
      (stands_cut key t w h (key_ascii key (run_passes is_key_byte (skipped t))))
      (λ s after x end m k. (
        tt,
        record {
          key = key;
          behind = x;
          there = stands_again key t w h x;
          legal = (some, run_passes is_key_byte (skipped t));
          ends = stands_ends 61 [] x k.0 refl k.1;
          value = k.0;
          equals = k.1;
          end = k.2;
          says = k.3;
          semicolon = k.4;
        },
      ))
      s (equalled key s (length (skipped w)) (strip (codes "=") (skipped w)))
      (equalled_fate key s w (strip (codes "=") (skipped w)) refl)

  -- the reading of a key and its value
  pub entry_fate : (s : Said) (t : List ℕ)
      → SaidFate P Anything SpellsOne s t (entry_at s (skipped t))
  unfolding entry_at
  entry_fate s t = named_fate s t (eqb (length (run is_key_byte (skipped t))) 0) refl
