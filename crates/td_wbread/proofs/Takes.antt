-- The word at the front of a text, piece by piece.
use Rattle.std.proofs.Common.{◌≡◌, ◌≢◌, ℕ, suc, ◌+◌, ◌-◌, ◌<◌, ◌≤◌, Bool, true, false, not, cond}
use Rattle.std.proofs.Common.{eqb, ◌||◌, List, [], ◌∷◌, ◌++◌, Option, Some, None, length, map}
use Rattle.std.proofs.Common.{drop, refl, sym, ap, ◌∙◌, subst, arith, append_assoc}
use Rattle.std.proofs.Common.{append-nil, length-append}
use Rattle.std.specs.List.{prefix_len, list_all, list_any}
use Rattle.std.proofs.lemmas.Bool.{eqb-true, and_parts, or_from}
use Rattle.std.proofs.lemmas.Bool.Decides.{nat_tests}
use Rattle.std.proofs.lemmas.List.{length-map}
use Rattle.std.proofs.lemmas.List.Folds.{list_any-append}
use Rattle.std.proofs.lemmas.Grind.{flat_map-append}
use Rattle.std.proofs.Math.Bool.{or-true}
use Rattle.td_text.specs.Cut.{cut, Without}
use Rattle.td_text.proofs.Cut.{cut_found}
use Rattle.td_rows.specs.Text.{has_newline}
use Rattle.td_text.specs.Runs.{is_space, run, behind}
use Rattle.td_text.proofs.RunTexts.{run_passes, run_joined}
use Rattle.td_wbread.specs.Words.{Mark, gap, plain, quote, quoted, unclosed, is_quote, is_plain}
use Rattle.td_wbread.specs.Words.{bare_mark, closes, marks, is_gap, is_unclosed, is_quote_mark}
use Rattle.td_wbread.specs.Words.{letter, text_of, on_one_line}
use Rattle.td_wbread.specs.Taking.{IsTaken, IsSeen, IsOpen, EndsWord, IsUnquoted, closing}

-- ---- the marks of pieces

plain_by : (b : ℕ) (x z : List Mark) (q s : Bool) → not (s || q) ≡ true
    → cond q x (cond s gap (plain b) ∷ z) ≡ plain b ∷ z
plain_by b x z true true h = absurd cc
plain_by b x z true false h = absurd cc
plain_by b x z false true h = absurd cc
plain_by b x z false false h = refl

plain_mark : (b : ℕ) (text : List ℕ) → is_plain b ≡ true
    → marks None (b ∷ text) ≡ plain b ∷ marks None text
unfolding marks
plain_mark b text h = plain_by b
    (cond (closes b text) (quote ∷ marks (Some b) text) (unclosed ∷ [])) (marks None text)
    (is_quote b) (is_space b) h

pub plain_marks : (front back : List ℕ) → list_all is_plain front ≡ true
    → marks None (front ++ back) ≡ map plain front ++ marks None back
plain_marks [] back h = refl
plain_marks (b ∷ front) back h =
    let p = and_parts (is_plain b) (list_all is_plain front) h in
    plain_mark b (front ++ back) p.0 ∙ ap (λ (ms : List Mark). plain b ∷ ms)
    (plain_marks front back p.1)

quoted_by : (b q : ℕ) (y z : List Mark) (e : Bool) → eqb b q ≡ e → b ≢ q
    → cond e y (quoted b ∷ z) ≡ quoted b ∷ z
quoted_by b q y z false is ne = refl
quoted_by b q y z true is ne = absurd (ne (eqb-true b q is))

same_by : (q : ℕ) (y z : List Mark) (e : Bool) → eqb q q ≡ e → cond e y z ≡ y
same_by q y z true is = refl
same_by q y z false is = grind (arith, nat_tests)

pub quoted_marks : (q : ℕ) (inside after : List ℕ) → Without q inside
    → marks (Some q) (inside ++ q ∷ after) ≡ map quoted inside ++ quote ∷ marks None after
unfolding marks
quoted_marks q [] after w = same_by q (quote ∷ marks None after) _ (eqb q q) refl
quoted_marks q (b ∷ inside) after w = quoted_by b q (quote ∷ marks None (inside ++ q ∷ after))
    (marks (Some q) (inside ++ q ∷ after)) (eqb b q) refl w.0
    ∙ ap (λ (ms : List Mark). quoted b ∷ ms) (quoted_marks q inside after w.1)

-- a quote that is closed
pub closed_mark : (q : ℕ) (text : List ℕ) → is_quote q ≡ true → closes q text ≡ true
    → marks None (q ∷ text) ≡ quote ∷ marks (Some q) text
unfolding marks
closed_mark q text is h = by (is_quote q) (closes q text) is h
  where
    by : (a b : Bool) → a ≡ true → b ≡ true → cond a (cond b (quote ∷ marks (Some q) text)
        (unclosed ∷ [])) (bare_mark q ∷ marks None text) ≡ quote ∷ marks (Some q) text
    by true true x y = refl
    by true false x y = absurd cc
    by false b x y = absurd cc

-- a quote that isn't
pub open_mark : (q : ℕ) (text : List ℕ) → is_quote q ≡ true → closes q text ≡ false
    → marks None (q ∷ text) ≡ unclosed ∷ []
unfolding marks
open_mark q text is h = by (is_quote q) (closes q text) is h
  where
    by : (a b : Bool) → a ≡ true → b ≡ false → cond a (cond b (quote ∷ marks (Some q) text)
        (unclosed ∷ [])) (bare_mark q ∷ marks None text) ≡ unclosed ∷ []
    by true true x y = absurd cc
    by true false x y = refl
    by false b x y = absurd cc

-- ---- runs

pub run_ends : (b : ℕ) (test : ℕ → Bool) (text after : List ℕ) → behind test text ≡ b ∷ after
    → test b ≡ false
run_ends b test [] after h = absurd cc
run_ends b test (x ∷ xs) after h =
    by (test x) refl (λ (g : behind test xs ≡ b ∷ after). run_ends b test xs after g) h
  where
    by : (v : Bool) → test x ≡ v → (behind test xs ≡ b ∷ after → test b ≡ false)
        → drop (cond v (1 + prefix_len test xs) 0) (x ∷ xs) ≡ b ∷ after → test b ≡ false
    by true is later g =
        let e : 1 + prefix_len test xs ≡ suc (prefix_len test xs) = omega arith in
        later (subst (λ (n : ℕ). drop n (x ∷ xs) ≡ b ∷ after) e g)
    by false is later g =
        let same : x ≡ b = cc in
        subst (λ (y : ℕ). test y ≡ false) same is

-- ---- what marks of one piece are

-- a test that no byte's mark passes
pub list_any-marked : (test : Mark → Bool) (mark : ℕ → Mark) → ((b : ℕ) → test (mark b) ≡ false)
    → (text : List ℕ) → list_any test (map mark text) ≡ false
list_any-marked test mark none [] = refl
list_any-marked test mark none (b ∷ text) = rw (none b, list_any-marked test mark none text) refl

-- marks that stand for their bytes
pub text_of-marked : (mark : ℕ → Mark) → ((b : ℕ) → letter (mark b) ≡ b ∷ []) → (text : List ℕ)
    → text_of (map mark text) ≡ text
text_of-marked mark same [] = refl
text_of-marked mark same (b ∷ text) = rw (same b, text_of-marked mark same text) refl

-- ---- a piece more

or_none : (a b : Bool) → b ≡ false → (a || b) ≡ a
or_none true b h = refl
or_none false b h = h

pub joined_text : (front piece : List Mark) → text_of (front ++ piece) ≡ text_of front ++ text_of piece
joined_text front piece = flat_map-append letter front piece

pub more : (text : List ℕ) (front : List Mark) (rest : List ℕ) (piece : List Mark) (after : List ℕ)
    → IsTaken text front rest → IsTaken rest piece after → IsTaken text (front ++ piece) after
more text front rest piece after t p = record {
  marked = t.marked ∙ ap (λ (ms : List Mark). front ++ ms) p.marked
      ∙ sym (append_assoc front piece (marks None after));
  one = list_any-append is_gap front piece ∙ or_from _ _ t.one p.one;
  closed = list_any-append is_unclosed front piece ∙ or_from _ _ t.closed p.closed;
  one_line = ap has_newline (joined_text front piece) ∙ list_any-append (λ b. eqb b 10)
      (text_of front) (text_of piece) ∙ or_from _ _ t.one_line p.one_line;
  long = (let l = t.long in let m = p.long in simp length-append (omega arith));
}

pub plain_line : (text : List ℕ) → list_all is_plain text ≡ true → has_newline text ≡ false
plain_line [] h = refl
plain_line (b ∷ text) h =
    let p = and_parts (is_plain b) (list_all is_plain text) h in
    let first : eqb b 10 ≡ false = grind (arith, nat_tests, p.0) in
    or_from _ _ first (plain_line text p.1)

-- a run of bytes that stand for themselves
pub is_run : (rest : List ℕ) → IsTaken rest (map plain (run is_plain rest)) (behind is_plain rest)
is_run rest = record {
  marked = ap (marks None) (run_joined is_plain rest)
      ∙ plain_marks (run is_plain rest) (behind is_plain rest) (run_passes is_plain rest);
  one = list_any-marked is_gap plain (λ b. refl) (run is_plain rest);
  closed = list_any-marked is_unclosed plain (λ b. refl) (run is_plain rest);
  one_line = ap has_newline (text_of-marked plain (λ b. refl) (run is_plain rest))
      ∙ plain_line (run is_plain rest) (run_passes is_plain rest);
  long = ap length (run_joined is_plain rest)
      ∙ length-append (run is_plain rest) (behind is_plain rest)
      ∙ ap (λ (n : ℕ). n + length (behind is_plain rest))
      (sym (length-map (run is_plain rest) plain));
}

-- what stands between quotes, with these
abbrev pub between : List ℕ → List Mark
between inside = quote ∷ (map quoted inside ++ quote ∷ [])

pub between_text : (inside : List ℕ) → text_of (between inside) ≡ inside
between_text inside = joined_text (map quoted inside) (quote ∷ [])
    ∙ append-nil (text_of (map quoted inside)) ∙ text_of-marked quoted (λ b. refl) inside

pub closing_is : (q : ℕ) (text inside after : List ℕ) → Some (inside, after) ≡ closing (cut q text)
    → (closes q text ≡ true) × (text ≡ inside ++ q ∷ after) × Without q inside
    × (has_newline inside ≡ false)
closing_is q text inside after h = by (cut q text) refl h
  where
    piece : (p : List ℕ × List ℕ) (n : Bool) → cut q text ≡ Some p → has_newline p.0 ≡ n
        → Some (inside, after) ≡ cond (not n) (Some p) None → (closes q text ≡ true)
        × (text ≡ inside ++ q ∷ after) × Without q inside × (has_newline inside ≡ false)
    piece p true is line g = absurd cc
    piece p false is line g =
        let found = cut_found q text p is in
        let left : p.0 ≡ inside = cc in
        let right : p.1 ≡ after = cc in (
          ap on_one_line is ∙ ap not line,
          found.0 ∙ ap (λ (t : List ℕ). t ++ q ∷ p.1) left
              ∙ ap (λ (t : List ℕ). inside ++ q ∷ t) right,
          subst (Without q) left found.1,
          ap has_newline (sym left) ∙ line,
        )

    by : (o : Option (List ℕ × List ℕ)) → cut q text ≡ o → Some (inside, after) ≡ closing o
        → (closes q text ≡ true) × (text ≡ inside ++ q ∷ after) × Without q inside
        × (has_newline inside ≡ false)
    by None is g = absurd cc
    by (Some p) is g = piece p (has_newline p.0) is refl g

pub is_between : (q : ℕ) (text inside after : List ℕ) → is_quote q ≡ true
    → Some (inside, after) ≡ closing (cut q text) → IsTaken (q ∷ text) (between inside) after
is_between q text inside after is h =
    let c = closing_is q text inside after h in
    record {
      marked = closed_mark q text is c.0 ∙ ap (λ (t : List ℕ). quote ∷ marks (Some q) t) c.1
          ∙ ap (λ (ms : List Mark). quote ∷ ms) (quoted_marks q inside after c.2
          ∙ sym (append_assoc (map quoted inside) (quote ∷ []) (marks None after)));
      one = list_any-append is_gap (map quoted inside) (quote ∷ [])
          ∙ or_from _ _ (list_any-marked is_gap quoted (λ b. refl) inside) refl;
      closed = list_any-append is_unclosed (map quoted inside) (quote ∷ [])
          ∙ or_from _ _ (list_any-marked is_unclosed quoted (λ b. refl) inside) refl;
      one_line = ap has_newline (between_text inside) ∙ c.3;
      long =
          (let a : length text ≡ length inside + suc (length after) = ap length c.1
          ∙ length-append inside (q ∷ after) in
          let b : length (map quoted inside ++ quote ∷ []) ≡ length inside + 1 = length-append
          (map quoted inside) (quote ∷ []) ∙ ap (λ (n : ℕ). n + 1) (length-map inside quoted) in
          omega arith);
    }

pub is_open : (q : ℕ) (text : List ℕ) → is_quote q ≡ true → None ≡ closing (cut q text)
    → marks None (q ∷ text) ≡ unclosed ∷ []
is_open q text is h = open_mark q text is (by (cut q text) h)
  where
    piece : (p : List ℕ × List ℕ) (n : Bool) → None ≡ cond (not n) (Some p) None → not n ≡ false
    piece p true g = refl
    piece p false g = absurd cc

    by : (o : Option (List ℕ × List ℕ)) → None ≡ closing o → on_one_line o ≡ false
    by None g = refl
    by (Some p) g = piece p (has_newline p.0) g

-- ---- what is seen of a word

pub run_seen : (text word : List ℕ) (is_bare : Bool) (rest : List ℕ) → IsSeen text word is_bare rest
    → IsSeen text (word ++ run is_plain rest) is_bare (behind is_plain rest)
run_seen text word is_bare rest s =
    let r = run is_plain rest in
    record {
      front = s.front ++ map plain r;
      taken = more text s.front rest (map plain r) (behind is_plain rest) s.taken (is_run rest);
      joined = joined_text s.front (map plain r) ∙ ap (λ (t : List ℕ). t ++ text_of (map plain r))
          s.joined ∙ ap (λ (t : List ℕ). word ++ t) (text_of-marked plain (λ b. refl) r);
      bare = ap not (list_any-append is_quote_mark s.front (map plain r)
          ∙ or_none _ _ (list_any-marked is_quote_mark plain (λ b. refl) r)) ∙ s.bare;
    }

pub between_seen : (text word : List ℕ) (is_bare : Bool) (q : ℕ) (rest inside after : List ℕ)
    → is_quote q ≡ true → Some (inside, after) ≡ closing (cut q rest)
    → IsSeen text word is_bare (q ∷ rest) → IsSeen text (word ++ inside) false after
between_seen text word is_bare q rest inside after is h s = record {
  front = s.front ++ between inside;
  taken = more text s.front (q ∷ rest) (between inside) after s.taken
      (is_between q rest inside after is h);
  joined = joined_text s.front (between inside) ∙ ap (λ (t : List ℕ). t ++ text_of (between inside))
      s.joined ∙ ap (λ (t : List ℕ). word ++ t) (between_text inside);
  bare = ap not (list_any-append is_quote_mark s.front (between inside)
      ∙ or-true (list_any is_quote_mark s.front));
}

pub word_ends : (rest : List ℕ) → IsUnquoted (behind is_plain rest)
    → EndsWord (behind is_plain rest)
word_ends rest u = by (behind is_plain rest) refl u
  where
    by : (after : List ℕ) → behind is_plain rest ≡ after → IsUnquoted after → EndsWord after
    by [] is h = tt
    by (b ∷ after) is h = space (is_space b) (is_quote b) (run_ends b is_plain rest after is) h
      where
        space : (s q : Bool) → not (s || q) ≡ false → q ≡ false → s ≡ true
        space true q x y = refl
        space false true x y = absurd cc
        space false false x y = absurd cc

-- the text of what is seen has no newline
pub seen_line : (text word : List ℕ) (is_bare : Bool) (rest : List ℕ)
    → IsSeen text word is_bare rest → has_newline word ≡ false
seen_line text word is_bare rest s = ap has_newline (sym s.joined) ∙ s.taken.one_line

-- what follows what is seen is no longer than the text
pub seen_long : (text word : List ℕ) (is_bare : Bool) (rest : List ℕ)
    → IsSeen text word is_bare rest → length rest ≤ length text
seen_long text word is_bare rest s = let l = s.taken.long in omega arith

-- a run more, by other names
pub run_more : (text word : List ℕ) (is_bare : Bool) (rest run' after word' : List ℕ)
    → IsSeen text word is_bare rest → run' ≡ run is_plain rest → after ≡ behind is_plain rest
    → word' ≡ word ++ run' → IsSeen text word' is_bare after
run_more text word is_bare rest run' after word' s a b w =
    subst (λ (t : List ℕ). IsSeen text word' is_bare t) (sym b)
    (subst (λ (t : List ℕ). IsSeen text t is_bare (behind is_plain rest))
    (ap (λ (t : List ℕ). word ++ t) (sym a) ∙ sym w)
    (run_seen text word is_bare rest s))

-- what stands between quotes, by other names
pub between_more : (text word : List ℕ) (is_bare : Bool) (q : ℕ)
    (rest quoted_rest inside after word' : List ℕ) → rest ≡ q ∷ quoted_rest → is_quote q ≡ true
    → Some (inside, after) ≡ closing (cut q quoted_rest) → word' ≡ word ++ inside
    → IsSeen text word is_bare rest → IsSeen text word' false after
between_more text word is_bare q rest quoted_rest inside after word' at is h w s =
    subst (λ (t : List ℕ). IsSeen text t false after) (sym w)
    (between_seen text word is_bare q quoted_rest inside after is h
    (subst (λ (t : List ℕ). IsSeen text word is_bare t) at s))

pub open_found : (text word : List ℕ) (is_bare : Bool) (q : ℕ) (rest quoted_rest : List ℕ)
    → rest ≡ q ∷ quoted_rest → is_quote q ≡ true → None ≡ closing (cut q quoted_rest)
    → IsSeen text word is_bare rest → IsOpen text (length text - length rest)
open_found text word is_bare q rest quoted_rest at is h s = record {
  front = s.front;
  after = rest;
  taken = s.taken;
  unclosed_after = ap (marks None) at ∙ is_open q quoted_rest is h;
  counted = (let l = s.taken.long in omega arith);
}

-- a pair of quotes takes two bytes
pub between_shorter : (q : ℕ) (text inside after : List ℕ)
    → Some (inside, after) ≡ closing (cut q text) → length after < length text
between_shorter q text inside after h =
    let c = closing_is q text inside after h in
    let a : length text ≡ length inside + suc (length after) = ap length c.1
    ∙ length-append inside (q ∷ after) in
    omega arith

-- by another name
pub word_ends_at : (rest after : List ℕ) → after ≡ behind is_plain rest → IsUnquoted after
    → EndsWord after
word_ends_at rest after is u = subst EndsWord (sym is) (word_ends rest (subst IsUnquoted is u))

pub shorter : (q : ℕ) (rest after text inside behind' : List ℕ) → after ≡ behind is_plain rest
    → after ≡ q ∷ text → Some (inside, behind') ≡ closing (cut q text)
    → length behind' < length rest
shorter q rest after text inside behind' is at h =
    let a : length rest ≡ length (run is_plain rest) + length (behind is_plain rest) = ap length
    (run_joined is_plain rest) ∙ length-append (run is_plain rest) (behind is_plain rest) in
    let b : length (behind is_plain rest) ≡ suc (length text) = ap length (sym is ∙ at) in
    let d = between_shorter q text inside behind' h in
    omega arith
