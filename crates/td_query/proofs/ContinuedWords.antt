-- How a word that goes wrong at some byte can go on, and what is known of each reading of a query.
use Rattle.std.proofs.Common.{◌≡◌, ℕ, ◌-◌, Bool, true, false, cond, leb, leb-true, leb-false, List}
use Rattle.std.proofs.Common.{[], ◌∷◌, ◌++◌, length, take, drop, length-append, length-drop}
use Rattle.std.proofs.Common.{take-append-drop, None, Ok, Err, refl, sym, ap, subst, ◌∙◌, inl, inr}
use Rattle.std.proofs.Common.{one-add, append_assoc, append-nil, arith}
use Rattle.std.specs.Prelude.{codes}
use Rattle.std.specs.List.{AllByRecursion, list_all}
use Rattle.std.specs.Str.{bytes_eq}
use Rattle.std.proofs.lemmas.Bool.{cases_Bool}
use Rattle.std.proofs.lemmas.Bool.Decides.{eqb_tells}
use Rattle.std.proofs.lemmas.Slice.Eq.{bytes_eq-Decides}
use Rattle.td_text.specs.Runs.{behind, run}
use Rattle.td_text.proofs.RunTexts.{run_joined}
use Rattle.td_query.specs.Query.{always}
use Rattle.td_query.specs.QueryGrammar.{Log, Raw, Read, begun, word_atom}
use Rattle.td_query.specs.QuerySpelling.{EndsWord, IsGap, SpellsAtom, Stands, constant}
use Rattle.td_query.specs.QuerySpelling.{constant_text}
use Rattle.td_query.specs.Tokens.{common_len, is_key_byte, skipped}
use Rattle.td_query.proofs.Continued.{Fate, Moved, Stopped, cuts_all, cuts_join}
use Rattle.td_query.proofs.ContinuedCuts.{ascii_back, ascii_cuts, ascii_front, gap_cuts, is_small}
use Rattle.td_query.proofs.ContinuedCuts.{utf8_after}
use Rattle.td_query.proofs.ContinuedMarks.{gap_stands, led, led_stands, open_ended, stands_again}
use Rattle.td_query.proofs.ContinuedMarks.{stands_cut, stands_front}
use Rattle.td_query.proofs.FrontWords.{begun_less}
use Rattle.td_query.proofs.Gaps.{comes_stands, front_of}
use Rattle.td_query.proofs.SpelledAtoms.{Given}

-- ---- 1. readings of queries

-- `P` holds of what is between the slashes of each pattern
abbrev pub Fine : (List ℕ → Type 0) → Log → Type 0
Fine P log = AllByRecursion (λ (r : Raw). P r.raw) log

pub fine_front : (P : List ℕ → Type 0) (log : Log) (r : Raw) → Fine P (log ++ r ∷ []) → Fine P log
fine_front P [] r h = tt
fine_front P (x ∷ log) r h = (h.0, fine_front P log r h.1)

pub fine_last : (P : List ℕ → Type 0) (log : Log) (r : Raw) → Fine P (log ++ r ∷ []) → P r.raw
fine_last P [] r h = h.0
fine_last P (x ∷ log) r h = fine_last P log r h.1

pub fine_more : (P : List ℕ → Type 0) (log : Log) (r : Raw) → Fine P log → P r.raw
    → Fine P (log ++ r ∷ [])
fine_more P [] r h last = (last, tt)
fine_more P (x ∷ log) r h last = (h.0, fine_more P log r h.1 last)

-- the patterns after what was read, and what follows it
abbrev pub logged : Given → Log
logged y = y.1

abbrev pub left_over : Given → List ℕ
left_over y = y.2

abbrev pub ReadFate : {M : Type 0} → (List ℕ → Type 0)
    → (Log → List ℕ → M → Log → List ℕ → Type 0) → Log → List ℕ → Read → Type 0
ReadFate P Part log t r =
    Fate (Fine P) EndsWord (Fine P) P Part logged left_over log t r

-- ---- 2. `true` and `false`

common_front : (w v : List ℕ) → take (common_len w v) w ++ drop (common_len w v) v ≡ v
unfolding common_len
common_front [] v = refl
common_front (x ∷ w) [] = refl
common_front (x ∷ w) (y ∷ v) =
    elim (eqb_tells x y) [
      | inl is ↦
          (let later : take (common_len w v) w ++ drop (common_len w v) v ≡ v =
          common_front w v in
          rw (is.0, one-add) (rw is.1 (ap (λ (l : List ℕ). y ∷ l) later)))
      | inr other ↦ rw other.0 refl
    ]

-- the word, `true` or `false`, that the right bytes of this one begin
record IsBegun (word : List ℕ) : Type 0 where
  answer : Bool
  is : take (begun word) word ++ drop (begun word) (constant_text answer) ≡ constant_text answer

begun_word : (word : List ℕ) → IsBegun word
begun_word word =
    elim (cases_Bool (leb (common_len word (codes "false")) (common_len word (codes "true")))) [
      | inl less ↦
          (let low =
          leb-true (common_len word (codes "false")) (common_len word (codes "true")) less in
          let same : begun word ≡ common_len word (codes "true") = omega arith in
          record {
            answer = true;
            is = subst (λ (n : ℕ). take n word ++ drop n (codes "true") ≡ codes "true") (sym same)
                (common_front word (codes "true"));
          })
      | inr less ↦
          (let low =
          leb-false (common_len word (codes "false")) (common_len word (codes "true")) less in
          let same : begun word ≡ common_len word (codes "false") = omega arith in
          record {
            answer = false;
            is = subst (λ (n : ℕ). take n word ++ drop n (codes "false") ≡ codes "false") (sym same)
                (common_front word (codes "false"));
          })
    ]

constant_ascii : (answer : Bool) → list_all is_small (constant_text answer) ≡ true
constant_ascii true = refl
constant_ascii false = refl

module _ (P : List ℕ → Type 0) (log : Log) (t : List ℕ) where
  constant_moved : (answer : Bool) (v : List ℕ) → Stands (constant_text answer) t v
      → Moved (Fine P) EndsWord SpellsAtom log t log v
  constant_moved answer v h = record {
    front = h.gap ++ constant_text answer;
    is = stands_front (constant_text answer) t v h;
    cut = stands_cut (constant_text answer) t v h (constant_ascii answer);
    before = λ good. good;
    moves = λ good r u ok ends. record {
      meaning = always answer;
      after = r;
      spelled = constant answer (stands_again (constant_text answer) t v h u) ends refl refl;
      good = ok;
    };
  }

  -- a text that goes wrong before any byte of an atom can go on with `true`
  pub true_missing : Stopped (Fine P) (Fine P) P SpellsAtom log t (length (skipped t), log)
  true_missing = record {
    front = (led t).front;
    back = skipped t;
    is = (led t).is;
    cut = (led t).cut;
    there = refl;
    inside = None;
    opened = tt;
    more = λ bytes u. 10 ∷ (codes "true" ++ 10 ∷ u);
    closed = λ bytes u h. utf8_after (10 ∷ (codes "true" ++ 10 ∷ [])) u refl h;
    before = λ good. good;
    goes = λ legal bytes asked r u ok. record {
      meaning = always true;
      after = r;
      spelled = constant true (led_stands t (codes "true") (10 ∷ u)) refl refl refl;
      good = ok;
    };
  }

  module _ (word v : List ℕ) (whole : skipped t ≡ word ++ v) where
    word_stopped : Stopped (Fine P) (Fine P) P SpellsAtom log t
        (length (skipped t) - begun word, log)
    word_stopped =
        elim (front_of t) [
          | inl h ↦
              (let n : ℕ = begun word in
              let less = begun_less word in
              let begins = begun_word word in
              let all : list_all is_small (take (begun word) word
              ++ drop (begun word) (constant_text begins.answer)) ≡ true =
              subst (λ (l : List ℕ). list_all is_small l ≡ true) (sym begins.is)
              (constant_ascii begins.answer) in
              let small = ascii_front (take (begun word) word)
              (drop (begun word) (constant_text begins.answer)) all in
              let rest_small = ascii_back (take (begun word) word)
              (drop (begun word) (constant_text begins.answer)) all in
              let first = length-append (drop n word) v in
              let second = length-drop n word in
              let all : length (skipped t) ≡ length (word ++ v) =
              ap (λ (l : List ℕ). length l) whole in
              let both = length-append word v in
              let split : h.gap ++ ((take n word ++ drop n word) ++ v)
              ≡ (h.gap ++ take n word) ++ (drop n word ++ v) =
              ap (λ (l : List ℕ). h.gap ++ l) (append_assoc (take n word) (drop n word) v)
              ∙ sym (append_assoc h.gap (take n word) (drop n word ++ v)) in
              record {
                front = h.gap ++ take n word;
                back = drop n word ++ v;
                is = h.spelled ∙ ap (λ (l : List ℕ). h.gap ++ l) whole
                    ∙ ap (λ (l : List ℕ). h.gap ++ (l ++ v)) (sym (take-append-drop n word))
                    ∙ split;
                cut = cuts_join h.gap (take n word) (drop n word ++ v)
                    (gap_cuts (take n word ++ (drop n word ++ v)) h.between)
                    (ascii_cuts (take n word) (drop n word ++ v) small);
                there = omega arith;
                inside = None;
                opened = tt;
                more = λ bytes u. drop n (constant_text begins.answer) ++ 10 ∷ u;
                closed = λ bytes u h.
                    utf8_after (drop n (constant_text begins.answer)) (10 ∷ u) rest_small
                    (utf8_after (10 ∷ []) u refl h);
                before = λ good. good;
                goes = λ legal bytes asked r u ok. record {
                  meaning = always begins.answer;
                  after = r;
                  spelled = constant begins.answer (goes_on h.gap h.between begins u) refl refl
                      refl;
                  good = ok;
                };
              })
          | inr h ↦
              (let none : length (skipped t) ≡ 0 = ap (λ (l : List ℕ). length l) h.none in
              record {
                front = t;
                back = [];
                is = sym (append-nil t);
                cut = cuts_all t;
                there = omega arith;
                inside = None;
                opened = tt;
                more = λ bytes u. 10 ∷ (codes "true" ++ 10 ∷ u);
                closed = λ bytes u h. utf8_after (10 ∷ (codes "true" ++ 10 ∷ [])) u refl h;
                before = λ good. good;
                goes = λ legal bytes asked r u ok. record {
                  meaning = always true;
                  after = r;
                  spelled = constant true (gap_stands t (codes "true") (10 ∷ u) (open_ended t h))
                      refl refl refl;
                  good = ok;
                };
              })
        ]
      where
        goes_on : (gap : List ℕ) → IsGap gap → (b : IsBegun word) (u : List ℕ)
            → Stands (constant_text b.answer)
            ((gap ++ take (begun word) word)
            ++ (drop (begun word) (constant_text b.answer) ++ 10 ∷ u)) (10 ∷ u)
        goes_on gap between b u =
            let n : ℕ = begun word in
            let rest : List ℕ = drop n (constant_text b.answer) in
            record {
              gap = gap;
              between = between;
              spelled = append_assoc gap (take n word) (rest ++ 10 ∷ u)
                  ∙ ap (λ (l : List ℕ). gap ++ l) (sym (append_assoc (take n word) rest (10 ∷ u)))
                  ∙ ap (λ (l : List ℕ). gap ++ (l ++ 10 ∷ u)) b.is;
            }

    constant_there : (answer : Bool) → word ≡ constant_text answer
        → Stands (constant_text answer) t v
    constant_there true is =
        comes_stands 116 (codes "rue") t v (whole ∙ ap (λ (w : List ℕ). w ++ v) is)
    constant_there false is =
        comes_stands 102 (codes "alse") t v (whole ∙ ap (λ (w : List ℕ). w ++ v) is)

    by_words : (a b : Bool) → bytes_eq word (codes "true") ≡ a
        → bytes_eq word (codes "false") ≡ b
        → ReadFate P SpellsAtom log t (cond a (Ok (always true, log, v))
        (cond b (Ok (always false, log, v)) (Err (length (skipped t) - begun word, log))))
    by_words true b is other =
        constant_moved true v (constant_there true ((bytes_eq-Decides word (codes "true")).0 is))
    by_words false true wrong is =
        constant_moved false v (constant_there false ((bytes_eq-Decides word (codes "false")).0 is))
    by_words false false wrong also = word_stopped

  pub word_fate : ReadFate P SpellsAtom log t (word_atom log (skipped t))
  unfolding word_atom
  word_fate =
      by_words (run is_key_byte (skipped t)) (behind is_key_byte (skipped t))
      (run_joined is_key_byte (skipped t))
      (bytes_eq (run is_key_byte (skipped t)) (codes "true"))
      (bytes_eq (run is_key_byte (skipped t)) (codes "false")) refl refl
