-- Where bytes come in a text that goes on, with whitespace and comments between.
use Rattle.std.proofs.Common.{◌≡◌, ◌≢◌, ℕ, true, false, List, [], ◌∷◌, ◌++◌, length, None, refl}
use Rattle.std.proofs.Common.{sym, ap, subst, ◌∙◌, inl, inr, append_assoc, append-nil}
use Rattle.std.specs.List.{list_all}
use Rattle.std.proofs.lemmas.Bool.{cases_Bool}
use Rattle.td_text.specs.Cut.{Without}
use Rattle.td_text.specs.Runs.{is_space}
use Rattle.td_text.proofs.RunTexts.{not_space}
use Rattle.td_query.specs.QueryGrammar.{Log}
use Rattle.td_query.specs.QuerySpelling.{EndsWord, IsGap, Stands, comment_gap, no_gap, space_gap}
use Rattle.td_query.specs.Tokens.{is_key_byte, skipped}
use Rattle.td_query.proofs.Continued.{Cuts, Moved, Stopped, cuts_all, cuts_join}
use Rattle.td_query.proofs.ContinuedCuts.{ascii_cuts, gap_cuts, is_small, utf8_after}
use Rattle.td_query.proofs.Gaps.{IsOpen, front_of}

-- ---- 1. between tokens

gap_more : {gap : List ℕ} (t : List ℕ) → IsGap gap → IsGap t → IsGap (gap ++ t)
gap_more t no_gap h = h
gap_more t (space_gap x gap is k) h = space_gap x (gap ++ t) is (gap_more t k h)
gap_more t (comment_gap words gap none k) h =
    subst (λ (l : List ℕ). IsGap (35 ∷ l)) (sym (append_assoc words (10 ∷ gap) t))
    (comment_gap words (gap ++ t) none (gap_more t k h))

pub line_gap : IsGap (10 ∷ [])
line_gap = space_gap 10 [] refl no_gap

ended_gap : (gap words : List ℕ) → IsGap gap → Without 10 words
    → IsGap ((gap ++ 35 ∷ words) ++ 10 ∷ [])
ended_gap gap words h lacks =
    subst (λ (l : List ℕ). IsGap l) (sym (append_assoc gap (35 ∷ words) (10 ∷ [])))
    (gap_more (35 ∷ (words ++ 10 ∷ [])) h (comment_gap words [] lacks no_gap))

-- a newline ends a comment that is open at the end of a text
pub open_ended : (t : List ℕ) → IsOpen t → IsGap (t ++ 10 ∷ [])
open_ended t h =
    subst (λ (l : List ℕ). IsGap (l ++ 10 ∷ [])) (sym h.spelled)
    (ended_gap h.gap h.words h.between h.lacks)

-- what is before the first byte that isn't skipped: with a newline, it is whitespace and comments
pub record Led (t : List ℕ) : Type 0 where
  pub front : List ℕ
  pub is : t ≡ front ++ skipped t
  pub gap : IsGap (front ++ 10 ∷ [])
  pub cut : Cuts front (skipped t)

pub led : (t : List ℕ) → Led t
led t =
    elim (front_of t) [
      | inl h ↦ record {
        front = h.gap;
        is = h.spelled;
        gap = gap_more (10 ∷ []) h.between line_gap;
        cut = gap_cuts (skipped t) h.between;
      }
      | inr h ↦ record {
        front = t;
        is = sym (ap (λ (l : List ℕ). t ++ l) h.none ∙ append-nil t);
        gap = open_ended t h;
        cut = subst (λ (l : List ℕ). Cuts t l) (sym h.none) (cuts_all t);
      }
    ]

-- ---- 2. bytes after whitespace and comments

-- bytes come after whitespace and comments that a newline ends
pub gap_stands : (gap bytes u : List ℕ) → IsGap (gap ++ 10 ∷ [])
    → Stands bytes (gap ++ 10 ∷ (bytes ++ u)) u
gap_stands gap bytes u h = record {
  gap = gap ++ 10 ∷ [];
  between = h;
  spelled = sym (append_assoc gap (10 ∷ []) (bytes ++ u));
}

pub led_stands : (t bytes u : List ℕ) → Stands bytes ((led t).front ++ 10 ∷ (bytes ++ u)) u
led_stands t bytes u = gap_stands (led t).front bytes u (led t).gap

-- bytes come at the front of a text that begins with them
pub here_stands : (bytes u : List ℕ) → Stands bytes (bytes ++ u) u
here_stands bytes u = record { gap = []; between = no_gap; spelled = refl }

-- bytes that come before one rest come before another, too
pub stands_again : (bytes t v : List ℕ) (h : Stands bytes t v) (u : List ℕ)
    → Stands bytes ((h.gap ++ bytes) ++ u) u
stands_again bytes t v h u = record {
  gap = h.gap;
  between = h.between;
  spelled = append_assoc h.gap bytes u;
}

pub stands_front : (bytes t v : List ℕ) (h : Stands bytes t v) → t ≡ (h.gap ++ bytes) ++ v
stands_front bytes t v h = h.spelled ∙ sym (append_assoc h.gap bytes v)

pub stands_cut : (bytes t v : List ℕ) (h : Stands bytes t v) → list_all is_small bytes ≡ true
    → Cuts (h.gap ++ bytes) v
stands_cut bytes t v h all =
    cuts_join h.gap bytes v (gap_cuts (bytes ++ v) h.between) (ascii_cuts bytes v all)

-- bytes still come if the text has more at its end
pub stands_more : (bytes t v : List ℕ) → Stands bytes t v → (u : List ℕ)
    → Stands bytes (t ++ u) (v ++ u)
stands_more bytes t v h u = record {
  gap = h.gap;
  between = h.between;
  spelled = ap (λ (l : List ℕ). l ++ u) h.spelled ∙ append_assoc h.gap (bytes ++ v) u
      ∙ ap (λ (l : List ℕ). h.gap ++ l) (append_assoc bytes v u);
}

-- a text that begins with a byte isn't empty
pub is_filled : (x : ℕ) (word : List ℕ) → x ∷ word ≢ []
is_filled x word e = (let bad : x ∷ word ≡ [] = e in cc)

space_out : (x : ℕ) → is_space x ≡ true → is_key_byte x ≡ false
space_out x is =
    elim (cases_Bool (is_key_byte x)) [
      | inl key ↦
          absurd (let bad : false ≡ true =
          sym (not_space is_key_byte x (record { space = refl; tab = refl; newline = refl }) key)
          ∙ is in cc)
      | inr out ↦ out
    ]

gap_ends : {gap : List ℕ} (x : ℕ) (t : List ℕ) → is_key_byte x ≡ false → IsGap gap
    → EndsWord (gap ++ x ∷ t)
gap_ends x t out no_gap = out
gap_ends x t out (space_gap y gap is h) = space_out y is
gap_ends x t out (comment_gap words gap none h) = refl

-- a word ends before bytes whose first is no byte of a word
pub stands_ends : (x : ℕ) (word t rest : List ℕ) → is_key_byte x ≡ false
    → Stands (x ∷ word) t rest → EndsWord t
stands_ends x word t rest out h =
    subst (λ (l : List ℕ). EndsWord l) (sym h.spelled)
    (gap_ends x (word ++ rest) out h.between)

-- ---- 3. marks

-- these bytes come, and nothing else is said
abbrev pub Marked : (S : Type 0) → List ℕ → S → List ℕ → Unit {0} → S → List ℕ → Type 0
Marked S bytes s t one after rest = Stands bytes t rest × (after ≡ s)

module _ (S : Type 0) (Good : S → Type 0) (bytes : List ℕ)
    (all : list_all is_small bytes ≡ true) where
  pub mark_moved : (Free : List ℕ → Type 0) (s : S) (t v : List ℕ) → Stands bytes t v
      → Moved Good Free (Marked S bytes) s t s v
  mark_moved Free s t v h = record {
    front = h.gap ++ bytes;
    is = stands_front bytes t v h;
    cut = stands_cut bytes t v h all;
    before = λ good. good;
    moves = λ good r u ok free. record {
      meaning = tt;
      after = r;
      spelled = (stands_again bytes t v h u, refl);
      good = ok;
    };
  }

  pub mark_missing : (Legal : Log → Type 0) (P : List ℕ → Type 0) (s : S) (t : List ℕ)
      (log : Log) → (Legal log → Good s)
      → Stopped Good Legal P (Marked S bytes) s t (length (skipped t), log)
  mark_missing Legal P s t log good = record {
    front = (led t).front;
    back = skipped t;
    is = (led t).is;
    cut = (led t).cut;
    there = refl;
    inside = None;
    opened = tt;
    more = λ c u. 10 ∷ (bytes ++ 10 ∷ u);
    closed = λ c u h.
        utf8_after (10 ∷ []) (bytes ++ 10 ∷ u) refl
        (utf8_after bytes (10 ∷ u) all (utf8_after (10 ∷ []) u refl h));
    before = good;
    goes = λ legal c asked r u ok. record {
      meaning = tt;
      after = r;
      spelled = (led_stands t bytes (10 ∷ u), refl);
      good = ok;
    };
  }
