-- Texts between quotes are words.
use Rattle.std.proofs.Common.{◌≡◌, ℕ, ◌+◌, ◌<◌, Bool, true, false, not, cond, List, [], ◌∷◌, ◌++◌}
use Rattle.std.proofs.Common.{Some, None, length, map, refl, sym, ap, ◌∙◌, arith, append_assoc}
use Rattle.std.specs.List.{AllByRecursion}
use Rattle.td_text.specs.Cut.{cut}
use Rattle.td_text.proofs.Cut.{cut-at}
use Rattle.td_rows.specs.Text.{has_newline}
use Rattle.td_wbread.specs.declared.word.Word.{Word}
use Rattle.td_wbread.specs.Words.{marks, word_of, words_from, open_at, placed, end_with}
use Rattle.td_wbread.specs.Taking.{IsTaken, closing}
use Rattle.td_wbread.specs.Laws.{CanBeQuoted, QuotedWordsAreRead, quoted_line}
use Rattle.td_wbread.proofs.Takes.{between, between_text, is_between}
use Rattle.td_wbread.proofs.Scans.{front_words, gap_words, gap_open, past}

closes_at : (text after : List ℕ) → CanBeQuoted text
    → Some (text, after) ≡ closing (cut 39 (text ++ 39 ∷ after))
closes_at text after q =
    sym (ap closing (cut-at 39 text after q.unquoted) ∙ by (has_newline text) q.one_line)
  where
    pair : List ℕ × List ℕ
    pair = (text, after)

    by : (b : Bool) → b ≡ false → cond (not b) (Some pair) None ≡ Some pair
    by false h = refl
    by true h = absurd cc

taken_text : (text after : List ℕ) → CanBeQuoted text
    → IsTaken (39 ∷ (text ++ 39 ∷ after)) (between text) after
taken_text text after q =
    is_between 39 (text ++ 39 ∷ after) text after refl (closes_at text after q)

line_of_more : (text : List ℕ) (texts : List (List ℕ))
    → quoted_line (text ∷ texts) ≡ 39 ∷ (text ++ 39 ∷ (32 ∷ quoted_line texts))
line_of_more text texts =
    ap (λ (t : List ℕ). 39 ∷ t) (append_assoc text (39 ∷ (32 ∷ [])) (quoted_line texts))

filled : (text : List ℕ) → 0 < length (between text)
filled text = omega arith

one_word : (place : ℕ) (text : List ℕ) (texts : List (List ℕ)) → CanBeQuoted text
    → words_from place (quoted_line (text ∷ texts)) ≡ word_of place (between text) ∷ words_from
    (place + length (between text) + 1) (quoted_line texts)
one_word place text texts q =
    ap (words_from place) (line_of_more text texts)
    ∙ front_words place (39 ∷ (text ++ 39 ∷ (32 ∷ quoted_line texts))) (between text)
    (32 ∷ quoted_line texts) (taken_text text (32 ∷ quoted_line texts) q) refl (filled text)
    ∙ ap (λ (ws : List Word). word_of place (between text) ∷ ws)
    (gap_words (place + length (between text)) 32 (quoted_line texts) refl)

pub no_words : (place : ℕ) → words_from place [] ≡ []
unfolding placed marks
no_words place = refl

pub no_quote : (place : ℕ) → open_at place (marks None []) ≡ None
unfolding open_at marks
no_quote place = refl

words_are : (place : ℕ) (texts : List (List ℕ)) → AllByRecursion CanBeQuoted texts
    → map (λ (w : Word). w.text) (words_from place (quoted_line texts)) ≡ texts
words_are place [] all = ap (map (λ (w : Word). w.text)) (no_words place)
words_are place (text ∷ texts) all =
    ap (map (λ (w : Word). w.text)) (one_word place text texts all.0)
    ∙ ap (λ (t : List ℕ). t ∷ map (λ (w : Word). w.text)
    (words_from (place + length (between text) + 1) (quoted_line texts))) (between_text text)
    ∙ ap (λ (ts : List (List ℕ)). text ∷ ts)
    (words_are (place + length (between text) + 1) texts all.1)

none_open : (place : ℕ) (texts : List (List ℕ)) → AllByRecursion CanBeQuoted texts
    → open_at place (marks None (quoted_line texts)) ≡ None
none_open place [] all = no_quote place
none_open place (text ∷ texts) all =
    let t = taken_text text (32 ∷ quoted_line texts) all.0 in
    ap (λ (l : List ℕ). open_at place (marks None l)) (line_of_more text texts)
    ∙ ap (open_at place) t.marked
    ∙ past place (between text) (marks None (32 ∷ quoted_line texts)) t.closed
    ∙ gap_open (place + length (between text)) 32 (quoted_line texts) refl
    ∙ none_open (place + length (between text) + 1) texts all.1

pub quoted_words_read : QuotedWordsAreRead
quoted_words_read = λ texts all. (
  words_are 0 texts all,
  ap (end_with (length (quoted_line texts)))
      (none_open 0 texts all),
)
