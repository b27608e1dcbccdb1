-- Where a text may be cut between two characters: after an ASCII byte.
use Rattle.std.proofs.Common.{◌≡◌, ℕ, zero, suc, ◌+◌, ◌<◌, Bool, true, List, [], ◌∷◌, ◌++◌, length}
use Rattle.std.proofs.Common.{get_or, length-append, refl, sym, ap, subst, ◌∙◌, inl, inr}
use Rattle.std.proofs.Common.{append_assoc, nat_lt, arith}
use Rattle.std.specs.List.{list_all}
use Rattle.std.specs.Str.{IsAscii, IsUtf8}
use Rattle.std.proofs.lemmas.Bool.{and_from, and_parts, false≢true}
use Rattle.std.proofs.lemmas.Bool.Decides.{eqb_tells, nat_tests}
use Rattle.std.proofs.lemmas.List.{drop_at, take_at}
use Rattle.std.proofs.lemmas.List.Folds.{list_all-append}
use Rattle.std.proofs.lemmas.Str.{IsCharBoundary-after_ascii, IsUtf8-append, IsUtf8-drop}
use Rattle.std.proofs.lemmas.Str.{IsUtf8-from_ascii, IsUtf8-take}
use Rattle.td_text.specs.Runs.{is_space}
use Rattle.td_query.specs.QuerySpelling.{IsGap, comment_gap, no_gap, space_gap}
use Rattle.td_query.specs.Tokens.{is_key_byte}
use Rattle.td_query.proofs.Continued.{Cuts, cuts_join, cuts_none}

-- ---- 1. after a byte

byte_there : (a : List ℕ) (x : ℕ) (b : List ℕ) → get_or (a ++ x ∷ b) (length a) 0 ≡ x
byte_there [] x b = refl
byte_there (y ∷ a) x b = byte_there a x b

pub cut_after : (a : List ℕ) (x : ℕ) (b : List ℕ) → x < 128 → Cuts (a ++ x ∷ []) b
cut_after a x b small h =
    let same : (a ++ x ∷ []) ++ b ≡ a ++ x ∷ b = append_assoc a (x ∷ []) b in
    let size : length (a ++ x ∷ []) ≡ length a + 1 = by_length a in
    let long : length ((a ++ x ∷ []) ++ b) ≡ length (a ++ x ∷ []) + length b =
    length-append (a ++ x ∷ []) b in
    let room : length a < length ((a ++ x ∷ []) ++ b) = omega arith in
    let there : get_or ((a ++ x ∷ []) ++ b) (length a) 0 ≡ x =
    ap (λ (l : List ℕ). get_or l (length a) 0) same ∙ byte_there a x b in
    let less : get_or ((a ++ x ∷ []) ++ b) (length a) 0 < 128 =
    subst (λ (k : ℕ). k < 128) (sym there) small in
    let boundary = IsCharBoundary-after_ascii ((a ++ x ∷ []) ++ b) (length a) h room less in (
      subst (λ (l : List ℕ). IsUtf8 l) (take_at (a ++ x ∷ []) b (length a + 1) size)
          (IsUtf8-take ((a ++ x ∷ []) ++ b) (length a + 1) h boundary),
      subst (λ (l : List ℕ). IsUtf8 l) (drop_at (a ++ x ∷ []) b (length a + 1) size)
          (IsUtf8-drop ((a ++ x ∷ []) ++ b) (length a + 1) h boundary),
    )
  where
    by_length : (l : List ℕ) → length (l ++ x ∷ []) ≡ length l + 1
    by_length l = length-append l (x ∷ [])

-- ---- 2. after ASCII bytes

abbrev pub is_small : ℕ → Bool
is_small x = nat_lt x 128

small_byte : (x : ℕ) → is_small x ≡ true → x < 128
small_byte x e = grind (arith, nat_tests)

pub ascii_cuts : (a b : List ℕ) → list_all is_small a ≡ true → Cuts a b
ascii_cuts [] b all = cuts_none b
ascii_cuts (x ∷ a) b all =
    let h = and_parts (is_small x) (list_all is_small a) all in
    cuts_join (x ∷ []) a b (cut_after [] x (a ++ b) (small_byte x h.0)) (ascii_cuts a b h.1)

key_small : (x : ℕ) → is_key_byte x ≡ true → is_small x ≡ true
key_small x e = grind (arith, nat_tests)

pub key_ascii : (word : List ℕ) → list_all is_key_byte word ≡ true → list_all is_small word ≡ true
key_ascii [] all = refl
key_ascii (x ∷ word) all =
    let h = and_parts (is_key_byte x) (list_all is_key_byte word) all in
    and_from (is_small x) (list_all is_small word) (key_small x h.0) (key_ascii word h.1)

-- the front of a text of ASCII bytes is of ASCII bytes, too
pub ascii_front : (a b : List ℕ) → list_all is_small (a ++ b) ≡ true → list_all is_small a ≡ true
ascii_front a b all =
    (and_parts (list_all is_small a) (list_all is_small b)
    (sym (list_all-append is_small a b) ∙ all)).0

pub ascii_back : (a b : List ℕ) → list_all is_small (a ++ b) ≡ true → list_all is_small b ≡ true
ascii_back a b all =
    (and_parts (list_all is_small a) (list_all is_small b)
    (sym (list_all-append is_small a b) ∙ all)).1

-- ---- 3. after whitespace and comments

space_small : (x : ℕ) → is_space x ≡ true → x < 128
space_small x is =
    elim (eqb_tells x 32) [
      | inl a ↦ (let same : x ≡ 32 = a.1 in omega arith)
      | inr a ↦
          elim (eqb_tells x 9) [
            | inl b ↦ (let same : x ≡ 9 = b.1 in omega arith)
            | inr b ↦
                elim (eqb_tells x 10) [
                  | inl c ↦ (let same : x ≡ 10 = c.1 in omega arith)
                  | inr c ↦ absurd (false≢true (sym (rw (a.0, b.0, c.0) refl) ∙ is))
                ]
          ]
    ]

pub gap_cuts : {gap : List ℕ} (t : List ℕ) → IsGap gap → Cuts gap t
gap_cuts t no_gap = cuts_none t
gap_cuts t (space_gap x gap is h) =
    cuts_join (x ∷ []) gap t (cut_after [] x (gap ++ t) (space_small x is)) (gap_cuts t h)
gap_cuts t (comment_gap words gap none h) =
    let small : 10 < 128 = omega arith in
    subst (λ (l : List ℕ). Cuts l t) (append_assoc (35 ∷ words) (10 ∷ []) gap)
    (cuts_join ((35 ∷ words) ++ 10 ∷ []) gap t (cut_after (35 ∷ words) 10 (gap ++ t) small)
    (gap_cuts t h))

-- ---- 4. texts of characters

one_ascii : (x : ℕ) → x < 128 → IsAscii (x ∷ [])
one_ascii x small zero = small
one_ascii x small (suc i) = omega arith

-- ASCII bytes, and a text of characters after them, are a text of characters
pub utf8_after : (a u : List ℕ) → list_all is_small a ≡ true → IsUtf8 u → IsUtf8 (a ++ u)
utf8_after [] u all h = h
utf8_after (x ∷ a) u all h =
    let parts = and_parts (is_small x) (list_all is_small a) all in
    IsUtf8-append (x ∷ []) (a ++ u)
    (IsUtf8-from_ascii (x ∷ []) (one_ascii x (small_byte x parts.0))) (utf8_after a u parts.1 h)
