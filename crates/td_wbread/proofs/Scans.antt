-- The words of a line, one by one.
use Rattle.std.proofs.Common.{◌≡◌, ℕ, suc, ◌+◌, ◌-◌, ◌<◌, Bool, true, false, cond, eqb, ◌||◌, List}
use Rattle.std.proofs.Common.{[], ◌∷◌, ◌++◌, Some, None, length, refl, sym, ap, ◌∙◌, subst, arith}
use Rattle.std.proofs.Common.{append_assoc, append-nil, length-append}
use Rattle.std.specs.List.{list_all, list_any, slice_split, onto_first}
use Rattle.std.proofs.lemmas.Bool.Decides.{nat_tests}
use Rattle.std.proofs.lemmas.List.Folds.{list_any-append}
use Rattle.std.proofs.Math.Dec.{eqb-suc-zero}
use Rattle.std.proofs.lemmas.Bool.{and_parts, or_from}
use Rattle.std.proofs.Math.Bool.{or-true}
use Rattle.td_text.specs.Runs.{is_space, run, trimmed}
use Rattle.td_text.proofs.RunTexts.{run_passes, run_joined}
use Rattle.td_wbread.specs.declared.word.Word.{Word}
use Rattle.td_wbread.specs.declared.word.End.TheVariants.{Closed, Open}
use Rattle.td_wbread.specs.Words.{Mark, gap, plain, quote, unclosed, is_quote, closes, marks}
use Rattle.td_wbread.specs.Words.{is_gap, is_unclosed, word_of, words_in, placed, words_from}
use Rattle.td_wbread.specs.Words.{words_of, open_at, end_with, end_of}
use Rattle.td_wbread.specs.Taking.{IsTaken, IsSeen, IsOpen, EndsWord}
use Rattle.td_wbread.proofs.Takes.{run_ends}

-- ---- gaps

gap_mark : (b : ℕ) (text : List ℕ) → is_space b ≡ true
    → marks None (b ∷ text) ≡ gap ∷ marks None text
unfolding marks
gap_mark b text h = by (is_quote b) (is_space b) unquoted h
  where
    unquoted : is_quote b ≡ false
    unquoted = grind (arith, nat_tests, h)

    by : (q s : Bool) → q ≡ false → s ≡ true
        → cond q (cond (closes b text) (quote ∷ marks (Some b) text) (unclosed ∷ []))
        (cond s gap (plain b) ∷ marks None text) ≡ gap ∷ marks None text
    by false true x y = refl
    by false false x y = absurd cc
    by true s x y = absurd cc

pub gap_words : (place b : ℕ) (text : List ℕ) → is_space b ≡ true
    → words_from place (b ∷ text) ≡ words_from (place + 1) text
unfolding placed
gap_words place b text h =
    let e : place + 0 + 1 ≡ place + 1 = omega arith in
    ap (λ (ms : List Mark). placed place (slice_split is_gap ms)) (gap_mark b text h)
    ∙ ap (λ (n : ℕ). placed n (slice_split is_gap (marks None text))) e

pub gap_open : (place b : ℕ) (text : List ℕ) → is_space b ≡ true
    → open_at place (marks None (b ∷ text)) ≡ open_at (place + 1) (marks None text)
unfolding open_at
gap_open place b text h = ap (open_at place) (gap_mark b text h)

pub skip_words : (place : ℕ) (front back : List ℕ) → list_all is_space front ≡ true
    → words_from place (front ++ back) ≡ words_from (place + length front) back
skip_words place [] back h = let e : place ≡ place + 0 = omega arith in
    ap (λ (n : ℕ). words_from n back) e
skip_words place (b ∷ front) back h =
    let p = and_parts (is_space b) (list_all is_space front) h in
    let e : place + 1 + length front ≡ place + suc (length front) = omega arith in
    gap_words place b (front ++ back) p.0 ∙ skip_words (place + 1) front back p.1
    ∙ ap (λ (n : ℕ). words_from n back) e

pub skip_open : (place : ℕ) (front back : List ℕ) → list_all is_space front ≡ true
    → open_at place (marks None (front ++ back)) ≡ open_at (place + length front) (marks None back)
skip_open place [] back h = let e : place ≡ place + 0 = omega arith in
    ap (λ (n : ℕ). open_at n (marks None back)) e
skip_open place (b ∷ front) back h =
    let p = and_parts (is_space b) (list_all is_space front) h in
    let e : place + 1 + length front ≡ place + suc (length front) = omega arith in
    gap_open place b (front ++ back) p.0 ∙ skip_open (place + 1) front back p.1
    ∙ ap (λ (n : ℕ). open_at n (marks None back)) e

-- ---- what is left of a line

-- these words are seen, and the words of what is left follow them
pub record IsLeft (line : List ℕ) (seen : List Word) (rest : List ℕ) : Type 0 where
  pub place : ℕ
  pub counted : place + length rest ≡ length line
  pub decides : seen ++ words_from place rest ≡ words_of line
  pub opens : open_at place (marks None rest) ≡ open_at 0 (marks None line)

-- nothing, or no whitespace in front
abbrev pub Unspaced : List ℕ → Type 0
Unspaced [] = Unit {0}
Unspaced (b ∷ text) = is_space b ≡ false

pub all_left : (line : List ℕ) → IsLeft line [] line
all_left line = record { place = 0; counted = omega arith; decides = refl; opens = refl }

pub trimmed_left : (line : List ℕ) (seen : List Word) (rest after : List ℕ) → after ≡ trimmed rest
    → IsLeft line seen rest → IsLeft line seen after
trimmed_left line seen rest after is l = subst (IsLeft line seen) (sym is) (record {
  place = l.place + length (run is_space rest);
  counted = (let c = l.counted in let long : length rest ≡ length (run is_space rest) + length
      (trimmed rest) = ap length (run_joined is_space rest)
      ∙ length-append (run is_space rest) (trimmed rest) in omega arith);
  decides = ap (λ (ws : List Word). seen ++ ws)
      (sym (ap (words_from l.place) (run_joined is_space rest) ∙ skip_words l.place
      (run is_space rest) (trimmed rest) (run_passes is_space rest))) ∙ l.decides;
  opens = sym (ap (λ (t : List ℕ). open_at l.place (marks None t)) (run_joined is_space rest)
      ∙ skip_open l.place (run is_space rest) (trimmed rest) (run_passes is_space rest))
      ∙ l.opens;
})

pub trimmed_unspaced : (rest after : List ℕ) → after ≡ trimmed rest → Unspaced after
trimmed_unspaced rest after is = by after (sym is)
  where
    by : (t : List ℕ) → trimmed rest ≡ t → Unspaced t
    by [] h = tt
    by (b ∷ t) h = run_ends b is_space rest t h

-- ---- pieces

split_piece : (front ms : List Mark) → list_any is_gap front ≡ false
    → slice_split is_gap (front ++ gap ∷ ms) ≡ front ∷ slice_split is_gap ms
split_piece [] ms h = refl
split_piece (m ∷ front) ms h =
    by (is_gap m) h (λ (g : list_any is_gap front ≡ false). split_piece front ms g)
  where
    by : (v : Bool) → (v || list_any is_gap front) ≡ false → (list_any is_gap front ≡ false
        → slice_split is_gap (front ++ gap ∷ ms) ≡ front ∷ slice_split is_gap ms)
        → cond v ([] ∷ slice_split is_gap (front ++ gap ∷ ms))
        (onto_first m (slice_split is_gap (front ++ gap ∷ ms))) ≡ (m ∷ front) ∷ slice_split is_gap
        ms
    by true g later = absurd cc
    by false g later = ap (onto_first m) (later g)

split_last : (front : List Mark) → list_any is_gap front ≡ false
    → slice_split is_gap front ≡ front ∷ []
split_last [] h = refl
split_last (m ∷ front) h =
    by (is_gap m) h (λ (g : list_any is_gap front ≡ false). split_last front g)
  where
    by : (v : Bool) → (v || list_any is_gap front) ≡ false
        → (list_any is_gap front ≡ false → slice_split is_gap front ≡ front ∷ [])
        → cond v ([] ∷ slice_split is_gap front) (onto_first m (slice_split is_gap front))
        ≡ (m ∷ front) ∷ []
    by true g later = absurd cc
    by false g later = ap (onto_first m) (later g)

whole_piece : (place : ℕ) (front : List Mark) → 0 < length front
    → list_any is_unclosed front ≡ false → words_in place front ≡ word_of place front ∷ []
whole_piece place [] some h = absurd (omega arith)
whole_piece place (m ∷ front) some h = by (eqb (length (m ∷ front)) 0)
    (list_any is_unclosed (m ∷ front)) (eqb-suc-zero (length front)) h
  where
    by : (u v : Bool) → u ≡ false → v ≡ false
        → cond (u || v) [] (word_of place (m ∷ front) ∷ []) ≡ word_of place (m ∷ front) ∷ []
    by false false y x = refl
    by false true y x = absurd cc
    by true v y x = absurd cc

open_piece : (place : ℕ) (piece : List Mark) → list_any is_unclosed piece ≡ true
    → words_in place piece ≡ []
open_piece place piece h = by (eqb (length piece) 0) (list_any is_unclosed piece) h
  where
    by : (u v : Bool) → v ≡ true → cond (u || v) [] (word_of place piece ∷ []) ≡ []
    by true v x = refl
    by false true x = refl
    by false false x = absurd cc

pub past : (place : ℕ) (front ms : List Mark) → list_any is_unclosed front ≡ false
    → open_at place (front ++ ms) ≡ open_at (place + length front) ms
unfolding open_at
past place [] ms h = let e : place ≡ place + 0 = omega arith in ap (λ (n : ℕ). open_at n ms) e
past place (m ∷ front) ms h =
    by (is_unclosed m) h (λ (g : list_any is_unclosed front ≡ false). past (place + 1) front ms g)
  where
    e : place + 1 + length front ≡ place + suc (length front)
    e = omega arith

    by : (v : Bool) → (v || list_any is_unclosed front) ≡ false → (list_any is_unclosed front
        ≡ false → open_at (place + 1) (front ++ ms) ≡ open_at (place + 1 + length front) ms)
        → cond v (Some place) (open_at (place + 1) (front ++ ms)) ≡ open_at
        (place + suc (length front)) ms
    by true g later = absurd cc
    by false g later = later g ∙ ap (λ (n : ℕ). open_at n ms) e

-- ---- a word more

abbrev head_gap : List Mark → Bool
head_gap [] = false
head_gap (m ∷ ms) = is_gap m

unspaced_head : (b : ℕ) (text : List ℕ) → is_space b ≡ false
    → head_gap (marks None (b ∷ text)) ≡ false
unfolding marks
unspaced_head b text h = by (is_quote b) (closes b text) (is_space b) h
  where
    by : (q c s : Bool) → s ≡ false → head_gap (cond q (cond c (quote ∷ marks (Some b) text)
        (unclosed ∷ [])) (cond s gap (plain b) ∷ marks None text)) ≡ false
    by true true s x = refl
    by true false s x = refl
    by false c false x = refl
    by false c true x = absurd cc

front_filled : (rest : List ℕ) (front : List Mark) (after : List ℕ) → IsTaken rest front after
    → EndsWord after → Unspaced rest → 0 < length rest → 0 < length front
front_filled rest (m ∷ front) after t ends un some = omega arith
front_filled [] [] after t ends un some = absurd (omega arith)
front_filled (b ∷ text) [] [] t ends un some = let l = t.long in absurd (omega arith)
front_filled (b ∷ text) [] (s ∷ after) t ends un some =
    absurd (by (sym (unspaced_head b text un) ∙ ap head_gap (t.marked ∙ gap_mark s after ends)))
  where
    by : false ≡ head_gap (gap ∷ marks None after) → ⊥
    by h = cc

pub front_words : (place : ℕ) (rest : List ℕ) (front : List Mark) (after : List ℕ)
    → IsTaken rest front after → EndsWord after → 0 < length front
    → words_from place rest ≡ word_of place front ∷ words_from (place + length front) after
unfolding placed marks
front_words place rest front [] t ends some =
    ap (λ (ms : List Mark). placed place (slice_split is_gap ms)) (t.marked ∙ append-nil front)
    ∙ ap (placed place) (split_last front t.one)
    ∙ ap (λ (ws : List Word). ws ++ []) (whole_piece place front some t.closed)
front_words place rest front (b ∷ after) t ends some =
    ap (λ (ms : List Mark). placed place (slice_split is_gap ms))
    (t.marked ∙ ap (λ (ms : List Mark). front ++ ms) (gap_mark b after ends))
    ∙ ap (placed place) (split_piece front (marks None after) t.one)
    ∙ ap (λ (ws : List Word). ws ++ placed (place + length front + 1)
    (slice_split is_gap (marks None after))) (whole_piece place front some t.closed)
    ∙ ap (λ (ws : List Word). word_of place front ∷ ws)
    (sym (gap_words (place + length front) b after ends))

pub word_left : (line : List ℕ) (seen : List Word) (rest word : List ℕ) (is_bare : Bool)
    (after : List ℕ) (place : ℕ) → place ≡ length line - length rest → IsLeft line seen rest
    → Unspaced rest → 0 < length rest → IsSeen rest word is_bare after → EndsWord after
    → IsLeft line (seen ++ record { text = word; is_bare = is_bare; place = place } ∷ []) after
word_left line seen rest word is_bare after place at l un some s ends =
    let filled = front_filled rest s.front after s.taken ends un some in
    let here : l.place ≡ place = (let c = l.counted in omega arith) in
    let w : word_of l.place s.front ≡ record { text = word; is_bare = is_bare; place = place } =
    cc (s.joined, s.bare) in
    record {
      place = l.place + length s.front;
      counted = (let c = l.counted in let d = s.taken.long in omega arith);
      decides =
          append_assoc seen (record { text = word; is_bare = is_bare; place = place } ∷ [])
          (words_from (l.place + length s.front) after)
          ∙ ap (λ (x : Word). seen ++ x ∷ words_from (l.place + length s.front) after) (sym w)
          ∙ ap (λ (ws : List Word). seen ++ ws)
          (sym (front_words l.place rest s.front after s.taken ends filled))
          ∙ l.decides;
      opens = sym (ap (open_at l.place) s.taken.marked
          ∙ past l.place s.front (marks None after) s.taken.closed) ∙ l.opens;
    }

pub word_shorter : (rest word : List ℕ) (is_bare : Bool) (after after' : List ℕ)
    → after' ≡ trimmed after → Unspaced rest → 0 < length rest → IsSeen rest word is_bare after
    → EndsWord after → length after' < length rest
word_shorter rest word is_bare after after' is un some s ends =
    let filled = front_filled rest s.front after s.taken ends un some in
    let d = s.taken.long in
    let long : length after ≡ length (run is_space after) + length (trimmed after) = ap length
    (run_joined is_space after) ∙ length-append (run is_space after) (trimmed after) in
    let e : length after' ≡ length (trimmed after) = ap length is in
    omega arith

-- ---- the end

pub words_end : (line : List ℕ) (seen : List Word) (rest : List ℕ) → IsLeft line seen rest
    → length rest ≡ 0 → seen ≡ words_of line
unfolding placed marks
words_end line seen [] l none = sym (append-nil seen) ∙ l.decides
words_end line seen (b ∷ rest) l none = absurd (omega arith)

pub closed_end : (line : List ℕ) (seen : List Word) (rest : List ℕ) → IsLeft line seen rest
    → length rest ≡ 0 → Closed (length line) ≡ end_of line
unfolding marks open_at
closed_end line seen [] l none = ap (end_with (length line)) l.opens
closed_end line seen (b ∷ rest) l none = absurd (omega arith)

open_marks : (rest : List ℕ) (quote_place : ℕ) → (o : IsOpen rest quote_place)
    → marks None rest ≡ o.front ++ unclosed ∷ []
open_marks rest quote_place o = o.taken.marked
    ∙ ap (λ (ms : List Mark). o.front ++ ms) o.unclosed_after

pub open_words : (place : ℕ) (rest : List ℕ) (quote_place : ℕ) → IsOpen rest quote_place
    → words_from place rest ≡ []
unfolding placed
open_words place rest quote_place o =
    let piece : List Mark = o.front ++ unclosed ∷ [] in
    let one : list_any is_gap piece ≡ false = list_any-append is_gap o.front (unclosed ∷ [])
    ∙ or_from _ _ o.taken.one refl in
    let still : list_any is_unclosed piece ≡ true = list_any-append is_unclosed o.front
    (unclosed ∷ []) ∙ or-true (list_any is_unclosed o.front) in
    ap (λ (ms : List Mark). placed place (slice_split is_gap ms)) (open_marks rest quote_place o)
    ∙ ap (placed place) (split_last piece one)
    ∙ ap (λ (ws : List Word). ws ++ []) (open_piece place piece still)

pub words_before : (line : List ℕ) (seen : List Word) (rest : List ℕ) (quote_place : ℕ)
    → IsLeft line seen rest → IsOpen rest quote_place → seen ≡ words_of line
words_before line seen rest quote_place l o = sym (append-nil seen)
    ∙ ap (λ (ws : List Word). seen ++ ws) (sym (open_words l.place rest quote_place o)) ∙ l.decides

pub open_end : (line : List ℕ) (seen : List Word) (rest : List ℕ) (quote_place : ℕ)
    → IsLeft line seen rest → IsOpen rest quote_place
    → Open (length line - length rest + quote_place) ≡ end_of line
unfolding open_at
open_end line seen rest quote_place l o =
    let at : length line - length rest + quote_place ≡ l.place + length o.front =
    (let c = l.counted in let d = o.counted in omega arith) in
    ap Open at
    ∙ ap (end_with (length line))
    (sym (ap (open_at l.place) (open_marks rest quote_place o)
    ∙ past l.place o.front (unclosed ∷ []) o.taken.closed) ∙ l.opens)
