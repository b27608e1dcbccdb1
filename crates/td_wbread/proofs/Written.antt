-- What is written as words is read as these words.
use Rattle.std.proofs.Common.{◌≡◌, ◌≢◌, ◌⊎◌, ℕ, zero, suc, ◌+◌, ◌<◌, ◌≤◌, Bool, true, false, cond}
use Rattle.std.proofs.Common.{not, ◌&&◌}
use Rattle.std.proofs.Common.{◌||◌, List, [], ◌∷◌, ◌++◌, Option, Some, None, length, map, refl}
use Rattle.std.proofs.Common.{sym, ap, subst, ◌∙◌, inl, inr, arith, append_assoc, append-nil}
use Rattle.std.proofs.Common.{length-append, zero-add}
use Rattle.std.specs.List.{list_all, list_any, flat_map, AllByRecursion}
use Rattle.std.proofs.lemmas.List.{length-map}
use Rattle.std.proofs.lemmas.List.Folds.{list_any-append}
use Rattle.td_text.specs.Cut.{cut, Without}
use Rattle.td_text.specs.Runs.{is_space, is_blank, run, behind, trimmed}
use Rattle.td_text.proofs.Cut.{cut-at, cut_found}
use Rattle.td_text.proofs.RunTexts.{run_joined, run_passes}
use Rattle.td_rows.specs.Text.{has_newline}
use Rattle.td_wbread.specs.declared.word.Word.{Word}
use Rattle.td_wbread.specs.declared.word.End.{End}
use Rattle.td_wbread.specs.declared.word.End.TheVariants.{Closed, Open}
use Rattle.td_wbread.specs.Taking.{EndsWord, IsTaken, closing}
use Rattle.td_wbread.specs.Words.{Mark, plain, is_gap, is_plain, is_quote, is_quote_mark}
use Rattle.td_wbread.specs.Words.{is_unclosed, unclosed, marks, text_of, word_of, words_from}
use Rattle.td_wbread.specs.Words.{words_of}
use Rattle.td_wbread.specs.Words.{open_at, end_of, end_with}
use Rattle.td_wbread.specs.WordLaws.{AreWords, Bare, EndsLine, IsFirstWord, Piece}
use Rattle.td_wbread.specs.WordLaws.{PieceFits, Quoted, StaysOpen, WordsAreExact, is_unquoted}
use Rattle.td_wbread.specs.WordLaws.{piece_says, piece_text, written}
use Rattle.td_wbread.proofs.Quoted.{no_quote, no_words}
use Rattle.td_wbread.proofs.Scans.{front_words, open_words, past, skip_open, skip_words}
use Rattle.td_wbread.proofs.Takes.{between, between_text, closing_is, is_between, is_open}
use Rattle.td_wbread.proofs.Takes.{joined_text, list_any-marked, more, plain_line, plain_marks}
use Rattle.td_wbread.proofs.Takes.{run_ends, text_of-marked}

-- ---- the marks of pieces

piece_marks : Piece → List Mark
piece_marks (Bare text) = map plain text
piece_marks (Quoted q text) = between text

all_marks : List Piece → List Mark
all_marks pieces = flat_map piece_marks pieces

nothing_taken : (text : List ℕ) → IsTaken text [] text
nothing_taken text =
    record { marked = refl; one = refl; closed = refl; one_line = refl; long = omega arith }

plain_taken : (text rest : List ℕ) → list_all is_plain text ≡ true
    → IsTaken (text ++ rest) (map plain text) rest
plain_taken text rest h = record {
  marked = plain_marks text rest h;
  one = list_any-marked is_gap plain (λ b. refl) text;
  closed = list_any-marked is_unclosed plain (λ b. refl) text;
  one_line = ap has_newline (text_of-marked plain (λ b. refl) text) ∙ plain_line text h;
  long = length-append text rest
      ∙ ap (λ (n : ℕ). n + length rest) (sym (length-map text plain));
}

-- a quote is closed where it comes again before a newline
closes_here : (q : ℕ) (text rest : List ℕ) → Without q text → has_newline text ≡ false
    → Some (text, rest) ≡ closing (cut q (text ++ q ∷ rest))
closes_here q text rest lacks line =
    sym (ap closing (cut-at q text rest lacks) ∙ by (has_newline text) line)
  where
    pair : List ℕ × List ℕ
    pair = (text, rest)

    by : (b : Bool) → b ≡ false → cond (not b) (Some pair) None ≡ Some pair
    by false h = refl
    by true h = absurd cc

piece_taken : (p : Piece) (rest : List ℕ) → PieceFits p
    → IsTaken (piece_text p ++ rest) (piece_marks p) rest
unfolding piece_marks
piece_taken (Bare text) rest h = plain_taken text rest h
piece_taken (Quoted q text) rest h =
    let same : q ∷ (text ++ q ∷ rest) ≡ (q ∷ (text ++ q ∷ [])) ++ rest =
    ap (λ (t : List ℕ). q ∷ t) (sym (append_assoc text (q ∷ []) rest)) in
    subst (λ (t : List ℕ). IsTaken t (between text) rest) same
    (is_between q (text ++ q ∷ rest) text rest h.0 (closes_here q text rest h.1 h.2))

pieces_taken : (pieces : List Piece) (rest : List ℕ) → AllByRecursion PieceFits pieces
    → IsTaken (written pieces ++ rest) (all_marks pieces) rest
unfolding all_marks
pieces_taken [] rest h = nothing_taken rest
pieces_taken (p ∷ pieces) rest h =
    subst (λ (t : List ℕ). IsTaken t (piece_marks p ++ all_marks pieces) rest)
    (sym (append_assoc (piece_text p) (written pieces) rest))
    (more (piece_text p ++ (written pieces ++ rest)) (piece_marks p) (written pieces ++ rest)
    (all_marks pieces) rest (piece_taken p (written pieces ++ rest) h.0)
    (pieces_taken pieces rest h.1))

-- ---- what the marks say

piece_said : (p : Piece) → text_of (piece_marks p) ≡ piece_says p
unfolding piece_marks
piece_said (Bare text) = text_of-marked plain (λ b. refl) text
piece_said (Quoted q text) = between_text text

all_said : (pieces : List Piece) → text_of (all_marks pieces) ≡ flat_map piece_says pieces
unfolding all_marks
all_said [] = refl
all_said (p ∷ pieces) =
    joined_text (piece_marks p) (all_marks pieces)
    ∙ ap (λ (t : List ℕ). t ++ text_of (all_marks pieces)) (piece_said p)
    ∙ ap (λ (t : List ℕ). piece_says p ++ t) (all_said pieces)

piece_quoted : (p : Piece) → list_any is_quote_mark (piece_marks p) ≡ not (is_unquoted p)
unfolding piece_marks
piece_quoted (Bare text) = list_any-marked is_quote_mark plain (λ b. refl) text
piece_quoted (Quoted q text) = refl

not_or : (a b : Bool) → (not a || not b) ≡ not (a && b)
not_or true b = refl
not_or false b = refl

all_quoted : (pieces : List Piece)
    → list_any is_quote_mark (all_marks pieces) ≡ not (list_all is_unquoted pieces)
unfolding all_marks
all_quoted [] = refl
all_quoted (p ∷ pieces) =
    list_any-append is_quote_mark (piece_marks p) (all_marks pieces)
    ∙ ap (λ (b : Bool). b || list_any is_quote_mark (all_marks pieces)) (piece_quoted p)
    ∙ ap (λ (b : Bool). not (is_unquoted p) || b) (all_quoted pieces)
    ∙ not_or (is_unquoted p) (list_all is_unquoted pieces)

not_not : (b : Bool) → not (not b) ≡ b
not_not true = refl
not_not false = refl

-- there are as many marks as bytes
marks_long : (pieces : List Piece) → AllByRecursion PieceFits pieces
    → length (all_marks pieces) ≡ length (written pieces)
marks_long pieces h =
    let t = pieces_taken pieces [] h in
    let long = t.long in
    let same : length (written pieces ++ []) ≡ length (written pieces) =
    ap length (append-nil (written pieces)) in
    omega arith

some_bytes : (text : List ℕ) → text ≢ [] → 0 < length text
some_bytes [] some = absurd (some refl)
some_bytes (b ∷ text) some = omega arith

-- ---- a word

same_word : (w : Word) (text : List ℕ) (bare : Bool) (place : ℕ) → w.text ≡ text
    → w.is_bare ≡ bare → w.place ≡ place
    → record { text = text; is_bare = bare; place = place } ≡ w
same_word w text bare place a b d =
    λ i. record { text = sym a i; is_bare = sym b i; place = sym d i }

first_read : (place : ℕ) (text : List ℕ) (word : Word) (rest : List ℕ)
    → (f : IsFirstWord place text word rest)
    → words_from place text
    ≡ word ∷ words_from (word.place + length (written f.pieces)) rest
first_read place text word rest f =
    let on = written f.pieces ++ rest in
    let start = place + length f.space in
    let front = all_marks f.pieces in
    let t = pieces_taken f.pieces rest f.fits in
    let long = marks_long f.pieces f.fits in
    let some : 0 < length front = (let s = some_bytes (written f.pieces) f.filled in omega arith) in
    let is : word_of start front ≡ word =
    same_word word (text_of front) (not (list_any is_quote_mark front)) start
    (f.says ∙ sym (all_said f.pieces))
    (f.bare ∙ sym (ap not (all_quoted f.pieces) ∙ not_not (list_all is_unquoted f.pieces)))
    f.stands in
    let next : start + length front ≡ word.place + length (written f.pieces) =
    (let s = f.stands in omega arith) in
    ap (words_from place) f.joined ∙ skip_words place f.space on f.blank
    ∙ front_words start on front rest t f.ends some
    ∙ ap (λ (w : Word). w ∷ words_from (start + length front) rest) is
    ∙ ap (λ (n : ℕ). word ∷ words_from n rest) next

first_open : (place : ℕ) (text : List ℕ) (word : Word) (rest : List ℕ)
    → (f : IsFirstWord place text word rest)
    → open_at place (marks None text)
    ≡ open_at (word.place + length (written f.pieces)) (marks None rest)
first_open place text word rest f =
    let on = written f.pieces ++ rest in
    let start = place + length f.space in
    let front = all_marks f.pieces in
    let t = pieces_taken f.pieces rest f.fits in
    let long = marks_long f.pieces f.fits in
    let next : start + length front ≡ word.place + length (written f.pieces) =
    (let s = f.stands in omega arith) in
    ap (λ (l : List ℕ). open_at place (marks None l)) f.joined
    ∙ skip_open place f.space on f.blank
    ∙ ap (open_at start) t.marked
    ∙ past start front (marks None rest) t.closed
    ∙ ap (λ (n : ℕ). open_at n (marks None rest)) next

-- how many bytes the first word takes
pub first_long : (place : ℕ) (text : List ℕ) (word : Word) (rest : List ℕ)
    → (f : IsFirstWord place text word rest)
    → word.place + length (written f.pieces) + length rest ≡ place + length text
first_long place text word rest f =
    let s = f.stands in
    omega (
      arith,
      ap length f.joined,
      length-append f.space (written f.pieces ++ rest),
      length-append (written f.pieces) rest,
    )

-- ---- the end

-- the quote that isn't closed, if there is one
abbrev opens : End → Option ℕ
opens (Closed len) = None
opens (Open place) = Some place

-- the words of what is left, and whether a quote is open there
record AreRead (place : ℕ) (words : List Word) (end : End) (text : List ℕ) : Type 0 where
  read : words_from place text ≡ words
  open_is : open_at place (marks None text) ≡ opens end
  ended : end_with (place + length text) (opens end) ≡ end

not_closing : (q : ℕ) (text : List ℕ) → StaysOpen q text → None ≡ closing (cut q text)
not_closing q text h = by (cut q text) refl
  where
    by : (o : Option (List ℕ × List ℕ)) → cut q text ≡ o → None ≡ closing o
    by None is = refl
    by (Some p) is =
        let c = cut_found q text p is in
        let line : has_newline p.0 ≡ true = h p.0 p.1 c.0 c.1 in
        sym (ap (λ (b : Bool). cond (not b) (Some p) None) line)

end_read : (place : ℕ) (end : End) (text : List ℕ) → EndsLine place end text
    → AreRead place [] end text
unfolding open_at
end_read place (Closed len) text (blank, long) =
    let whole : text ≡ text ++ [] = sym (append-nil text) in
    record {
      read = ap (words_from place) whole ∙ skip_words place text [] blank
          ∙ no_words (place + length text);
      open_is = ap (λ (t : List ℕ). open_at place (marks None t)) whole
          ∙ skip_open place text [] blank ∙ no_quote (place + length text);
      ended = ap (λ (n : ℕ). Closed n) (sym long);
    }
end_read place (Open quote_place) text o =
    let on = written o.pieces ++ o.q ∷ o.inside in
    let start = place + length o.space in
    let front = all_marks o.pieces in
    let t = pieces_taken o.pieces (o.q ∷ o.inside) o.fits in
    let long = marks_long o.pieces o.fits in
    let still : marks None (o.q ∷ o.inside) ≡ unclosed ∷ [] =
    is_open o.q o.inside o.opens (not_closing o.q o.inside o.stays) in
    let at : start + length front ≡ quote_place = (let s = o.stands in omega arith) in
    record {
      read = ap (words_from place) o.joined ∙ skip_words place o.space on o.blank
          ∙ open_words start on (length front) (record {
            front = front;
            after = o.q ∷ o.inside;
            taken = t;
            unclosed_after = still;
            counted = refl;
          });
      open_is = ap (λ (l : List ℕ). open_at place (marks None l)) o.joined
          ∙ skip_open place o.space on o.blank
          ∙ ap (open_at start) (t.marked ∙ ap (λ (ms : List Mark). front ++ ms) still)
          ∙ past start front (unclosed ∷ []) t.closed
          ∙ ap (λ (n : ℕ). Some n) at;
      ended = refl;
    }

words_read : (words : List Word) (place : ℕ) (end : End) (text : List ℕ)
    → AreWords place words end text → AreRead place words end text
words_read [] place end text h = end_read place end text h
words_read (word ∷ words) place end text (rest, f, later) =
    let next = word.place + length (written f.pieces) in
    let r = words_read words next end rest later in
    record {
      read = first_read place text word rest f ∙ ap (λ (ws : List Word). word ∷ ws) r.read;
      open_is = first_open place text word rest f ∙ r.open_is;
      ended = ap (λ (n : ℕ). end_with n (opens end)) (sym (first_long place text word rest f))
          ∙ r.ended;
    }

pub words_again : (line : List ℕ) (words : List Word) (end : End) → AreWords 0 words end line
    → (words_of line ≡ words) × (end_of line ≡ end)
words_again line words end h =
    let r = words_read words 0 end line h in (
      r.read,
      ap (end_with (length line)) r.open_is
          ∙ ap (λ (n : ℕ). end_with n (opens end)) (sym (zero-add (length line))) ∙ r.ended,
    )

-- ---- each line is words and an end

-- pieces at the front of the text, and what stands behind them
data Scanned (text : List ℕ) : Type 0 where
  -- nothing, or whitespace
  Whole : (pieces : List Piece) (rest : List ℕ) → text ≡ written pieces ++ rest
      → AllByRecursion PieceFits pieces → EndsWord rest → Scanned text
  -- a quote that isn't closed
  Unclosed : (pieces : List Piece) (q : ℕ) (inside : List ℕ) → text ≡ written pieces ++ q ∷ inside
      → AllByRecursion PieceFits pieces → is_quote q ≡ true → StaysOpen q inside → Scanned text

-- a piece more in front
with_piece : (p : Piece) (text rest : List ℕ) → text ≡ piece_text p ++ rest → PieceFits p
    → Scanned rest → Scanned text
with_piece p text rest joined fits (Whole pieces after is all ends) =
    Whole (p ∷ pieces) after
    (joined ∙ ap (λ (t : List ℕ). piece_text p ++ t) is
    ∙ sym (append_assoc (piece_text p) (written pieces) after)) (fits, all) ends
with_piece p text rest joined fits (Unclosed pieces q inside is all opens stays) =
    Unclosed (p ∷ pieces) q inside
    (joined ∙ ap (λ (t : List ℕ). piece_text p ++ t) is
    ∙ sym (append_assoc (piece_text p) (written pieces) (q ∷ inside))) (fits, all) opens stays

not_plain : (s q : Bool) → not (s || q) ≡ false → (s ≡ true) ⊎ (q ≡ true)
not_plain true q h = inl refl
not_plain false true h = inr refl
not_plain false false h = absurd cc

stays_open : (q : ℕ) (text : List ℕ) → None ≡ closing (cut q text) → StaysOpen q text
stays_open q text h inside after joined lacks = by (has_newline inside) refl
  where
    cut_is : cut q text ≡ Some (inside, after)
    cut_is = ap (cut q) joined ∙ cut-at q inside after lacks

    by : (b : Bool) → has_newline inside ≡ b → has_newline inside ≡ true
    by true is = is
    by false is =
        absurd (let bad : None ≡ Some (inside, after) =
        h ∙ ap closing cut_is ∙ ap (λ (b : Bool). cond (not b) (Some (inside, after)) None) is in
        cc)

scan : (n : ℕ) (text : List ℕ) → length text ≤ n → Scanned text
scan n [] low = Whole [] [] refl tt tt
scan zero (b ∷ text) low = absurd (omega arith)
scan (suc n) (b ∷ text) low =
    with_piece (Bare (run is_plain (b ∷ text))) (b ∷ text) (behind is_plain (b ∷ text))
    (run_joined is_plain (b ∷ text)) (run_passes is_plain (b ∷ text))
    (by (behind is_plain (b ∷ text)) refl (λ (t : List ℕ) (less : length t ≤ n). scan n t less))
  where
    long : length (b ∷ text)
        ≡ length (run is_plain (b ∷ text)) + length (behind is_plain (b ∷ text))
    long = ap length (run_joined is_plain (b ∷ text))
        ∙ length-append (run is_plain (b ∷ text)) (behind is_plain (b ∷ text))

    quoted : (q : ℕ) (t : List ℕ) → length t ≤ n → is_quote q ≡ true
        → (o : Option (List ℕ × List ℕ)) → closing (cut q t) ≡ o
        → ((t : List ℕ) → length t ≤ n → Scanned t) → Scanned (q ∷ t)
    quoted q t less is None none later =
        Unclosed [] q t refl tt is (stays_open q t (sym none))
    quoted q t less is (Some p) found later =
        let c = closing_is q t p.0 p.1 (sym found) in
        let shorter : length p.1 ≤ n =
        omega (arith, ap length c.1, length-append p.0 (q ∷ p.1)) in
        with_piece (Quoted q p.0) (q ∷ t) p.1
        (ap (λ (l : List ℕ). q ∷ l) (c.1 ∙ sym (append_assoc p.0 (q ∷ []) p.1)))
        (is, c.2, c.3) (later p.1 shorter)

    by : (rest : List ℕ) → behind is_plain (b ∷ text) ≡ rest
        → ((t : List ℕ) → length t ≤ n → Scanned t) → Scanned rest
    by [] is later = Whole [] [] refl tt tt
    by (c ∷ t) is later =
        let less : length t ≤ n = omega (arith, long, ap length is) in
        elim (not_plain (is_space c) (is_quote c) (run_ends c is_plain (b ∷ text) t is)) [
          | inl space ↦ Whole [] (c ∷ t) refl tt space
          | inr quote ↦ quoted c t less quote (closing (cut c t)) refl later
        ]

-- a text, as words and an end
record IsCut (place : ℕ) (text : List ℕ) : Type 0 where
  words : List Word
  end : End
  are : AreWords place words end text

no_pieces : (b : ℕ) (text rest : List ℕ) (pieces : List Piece) → is_space b ≡ false
    → b ∷ text ≡ written pieces ++ rest → EndsWord rest → written pieces ≢ []
no_pieces b text rest pieces other joined ends none = by rest ends
    (joined ∙ ap (λ (t : List ℕ). t ++ rest) none)
  where
    by : (t : List ℕ) → EndsWord t → b ∷ text ≡ t → ⊥
    by [] h e = absurd cc
    by (c ∷ t) h e =
        let same : b ≡ c = cc in
        let bad : true ≡ false = sym h ∙ ap is_space (sym same) ∙ other in absurd cc

cut_line : (n : ℕ) (place : ℕ) (text : List ℕ) → length text < n → IsCut place text
cut_line zero place text low = absurd (omega arith)
cut_line (suc n) place text low =
    by (trimmed text) refl
    (λ (k : ℕ) (t : List ℕ) (less : length t < n). cut_line n k t less)
  where
    long : length text ≡ length (run is_space text) + length (trimmed text)
    long = ap length (run_joined is_space text)
        ∙ length-append (run is_space text) (trimmed text)

    word : (b : ℕ) (t : List ℕ) → trimmed text ≡ b ∷ t → is_space b ≡ false → Scanned (b ∷ t)
        → ((k : ℕ) (t : List ℕ) → length t < n → IsCut k t) → IsCut place text
    word b t is other (Whole pieces rest joined fits ends) further =
        let some = no_pieces b t rest pieces other joined ends in
        let start = place + length (run is_space text) in
        let first : Word = record {
          text = flat_map piece_says pieces;
          is_bare = list_all is_unquoted pieces;
          place = start;
        } in
        let w : IsFirstWord place text first rest = record {
          space = run is_space text;
          pieces = pieces;
          joined = run_joined is_space text
              ∙ ap (λ (l : List ℕ). run is_space text ++ l) (is ∙ joined);
          blank = run_passes is_space text;
          fits = fits;
          filled = some;
          ends = ends;
          says = refl;
          bare = refl;
          stands = refl;
        } in
        let less : length rest < n = omega (
          arith,
          long,
          ap length is,
          ap length joined,
          length-append (written pieces) rest,
          some_bytes (written pieces) some,
        ) in
        let later = further (start + length (written pieces)) rest less in
        record { words = first ∷ later.words; end = later.end; are = (rest, w, later.are) }
    word b t is other (Unclosed pieces q inside joined fits opens stays) further =
        record {
          words = [];
          end = Open (place + length (run is_space text) + length (written pieces));
          are = record {
            space = run is_space text;
            pieces = pieces;
            q = q;
            inside = inside;
            joined = run_joined is_space text
                ∙ ap (λ (l : List ℕ). run is_space text ++ l) (is ∙ joined);
            blank = run_passes is_space text;
            fits = fits;
            opens = opens;
            stays = stays;
            stands = refl;
          };
        }

    by : (rest : List ℕ) → trimmed text ≡ rest
        → ((k : ℕ) (t : List ℕ) → length t < n → IsCut k t) → IsCut place text
    by [] is further =
        let all : text ≡ run is_space text =
        run_joined is_space text ∙ ap (λ (l : List ℕ). run is_space text ++ l) is
        ∙ append-nil (run is_space text) in
        record {
          words = [];
          end = Closed (place + length text);
          are = (ap is_blank all ∙ run_passes is_space text, refl);
        }
    by (b ∷ t) is further =
        word b t is (run_ends b is_space text t is) (scan (length (b ∷ t)) (b ∷ t) (omega arith))
        further

pub words_are_exact : WordsAreExact
words_are_exact line words end = (λ h. found h.0 h.1, words_again line words end)
  where
    found : words_of line ≡ words → end_of line ≡ end → AreWords 0 words end line
    found a b =
        let c = cut_line (suc (length line)) 0 line (omega arith) in
        let r = words_again line c.words c.end c.are in
        let ws : c.words ≡ words = sym r.0 ∙ a in
        let e : c.end ≡ end = sym r.1 ∙ b in
        subst (λ (x : End). AreWords 0 words x line) e
        (subst (λ (x : List Word). AreWords 0 x c.end line) ws c.are)
