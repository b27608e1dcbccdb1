-- The order of two parts, by the bytes that they begin with.
use Rattle.std.proofs.Common.{◌≡◌, ◌≢◌, ℕ, ◌+◌, ◌<◌, ◌≤◌, Bool, not, List, [], ◌∷◌, ◌++◌, map}
use Rattle.std.proofs.Common.{length, take, drop, get_or, unwrap_or, refl, sym, ap, ◌∙◌, arith}
use Rattle.std.proofs.Common.{one-add, true, false, cond, eqb, inl, inr}
use Rattle.std.specs.Char.{is_ascii_digit}
use Rattle.std.specs.Ordering.{nat_cmp, ordering_then, ordering_index}
use Rattle.std.specs.declared.cmp.Ordering.{Ordering}
use Rattle.std.specs.declared.cmp.Ordering.TheVariants.{Less, Equal, Greater}
use Rattle.std.specs.List.{position, position_or_len}
use Rattle.std.specs.Str.{all_ascii_digits}
use Rattle.std.specs.Str.Parse.{digits_value}
use Rattle.std.proofs.lemmas.Bool.{cond_both, cases_Bool, cases_order, cases_lt, lt-ltb, le-ltb}
use Rattle.std.proofs.lemmas.Bool.{eqb-true, eqb-false}
use Rattle.std.proofs.lemmas.Cmp.{tied_itself, nat_cmp_total}
use Rattle.std.proofs.lemmas.List.Sums.{prefix_len-le-length}
use Rattle.td_version.specs.Order.{Pair, symbol_onto, digit_beside, digit_onto, pairs, is_letter}
use Rattle.td_version.specs.Order.{end_mark, mark_of, marks, pair_cmp, nothing, pairs_cmp, part_cmp}
use Rattle.td_version.specs.Comparing.{first_mark, first_digits, after_digits}
use Rattle.td_version.proofs.Digits.{nat_cmp_less, nat_cmp_greater}

-- ---- lists of pairs, which go on without end by `nothing`

pub head : List Pair → Pair
head [] = nothing
head (p ∷ ps) = p

pub tail : List Pair → List Pair
tail [] = []
tail (p ∷ ps) = ps

pub pairs_cmp-by_heads : (ps qs : List Pair)
    → pairs_cmp ps qs ≡ ordering_then (pair_cmp (head ps) (head qs)) (pairs_cmp (tail ps) (tail qs))
unfolding pairs_cmp head tail
pairs_cmp-by_heads [] [] = refl
pairs_cmp-by_heads [] (q ∷ qs) = refl
pairs_cmp-by_heads (p ∷ ps) [] = refl
pairs_cmp-by_heads (p ∷ ps) (q ∷ qs) = refl

head-symbol_onto : (b : ℕ) (ps : List Pair) → head (symbol_onto b ps) ≡ record {
  symbols =
      b ∷ (head ps).symbols;
  digits = (head ps).digits;
}
unfolding head
head-symbol_onto b [] = refl
head-symbol_onto b (p ∷ ps) = refl

tail-symbol_onto : (b : ℕ) (ps : List Pair) → tail (symbol_onto b ps) ≡ tail ps
unfolding tail
tail-symbol_onto b [] = refl
tail-symbol_onto b (p ∷ ps) = refl

-- a symbol of equal rank in front of both changes nothing
pub pairs_cmp-symbols_onto : (x y : ℕ) → mark_of x ≡ mark_of y → (ps qs : List Pair)
    → pairs_cmp (symbol_onto x ps) (symbol_onto y qs) ≡ pairs_cmp ps qs
pairs_cmp-symbols_onto x y e ps qs =
    rw (
      pairs_cmp-by_heads (symbol_onto x ps) (symbol_onto y qs),
      head-symbol_onto x ps,
      head-symbol_onto y qs,
      tail-symbol_onto x ps,
      tail-symbol_onto y qs,
      e,
      tied_itself nat_cmp_total (mark_of y),
    )
    (sym (pairs_cmp-by_heads ps qs))

pub pairs-digit : (b : ℕ) (t : List ℕ) → is_ascii_digit b ≡ true
    → pairs (b ∷ t) ≡ digit_onto b (pairs t)
unfolding pairs
pairs-digit b t h = rw h refl

pub pairs-symbol : (b : ℕ) (t : List ℕ) → is_ascii_digit b ≡ false
    → pairs (b ∷ t) ≡ symbol_onto b (pairs t)
unfolding pairs
pairs-symbol b t h = rw h refl

-- ---- the marks

pub first_mark-digit : (b : ℕ) (t : List ℕ) → is_ascii_digit b ≡ true
    → first_mark (b ∷ t) ≡ end_mark
unfolding first_mark
first_mark-digit b t h = rw h refl

pub first_mark-symbol : (b : ℕ) (t : List ℕ) → is_ascii_digit b ≡ false
    → first_mark (b ∷ t) ≡ mark_of b
unfolding first_mark
first_mark-symbol b t h = rw h refl

-- no symbol has the end mark
pub mark_of-ne : (b : ℕ) → mark_of b ≢ end_mark
mark_of-ne b =
    cond_both (eqb b 126) 0 (cond (is_letter b) (b + 2) (b + 258)) (λ (n : ℕ). n ≢ 1)
    (λ h e. omega arith)
    (λ h. cond_both (is_letter b) (b + 2) (b + 258) (λ (n : ℕ). n ≢ 1) (λ k e. omega arith)
    (λ k e. omega arith))

-- a part that begins with no symbol: it is empty or begins with a digit
abbrev pub BeginsNumber : List ℕ → Type 0
BeginsNumber [] = Unit {0}
BeginsNumber (b ∷ t) = is_ascii_digit b ≡ true

pub BeginsNumber-first_mark : (t : List ℕ) → first_mark t ≡ end_mark → BeginsNumber t
BeginsNumber-first_mark [] e = tt
BeginsNumber-first_mark (b ∷ t) e =
    elim (cases_Bool (is_ascii_digit b)) [
      | inl digit ↦ digit
      | inr symbol ↦ absurd (mark_of-ne b (sym (first_mark-symbol b t symbol) ∙ e))
    ]

head-digit_onto : (b : ℕ) (ps : List Pair) → (head (digit_onto b ps)).symbols ≡ []
unfolding head
head-digit_onto b [] = refl
head-digit_onto b (p ∷ ps) = beside p.symbols p.digits
  where
    beside : (symbols digits : List ℕ) → (head (digit_beside b symbols digits ps)).symbols ≡ []
    beside [] digits = refl
    beside (s ∷ symbols) digits = refl

-- the marks of the first pair begin with the first mark
marks_head : (t : List ℕ) → (rest : List ℕ) × (marks (head (pairs t)) ≡ first_mark t ∷ rest)
unfolding pairs head first_mark
marks_head [] = ([], refl)
marks_head (b ∷ t) =
    elim (cases_Bool (is_ascii_digit b)) [
      | inl digit ↦
          rw digit (
            [],
            ap (λ (symbols : List ℕ). map mark_of symbols ++ end_mark ∷ [])
                (head-digit_onto b (pairs t)),
          )
      | inr symbol ↦
          rw symbol (
            map mark_of (head (pairs t)).symbols ++ end_mark ∷ [],
            ap marks (head-symbol_onto b (pairs t)),
          )
    ]

-- first marks that differ decide
pub part_cmp-marks : (a b : List ℕ) → first_mark a ≢ first_mark b
    → part_cmp a b ≡ nat_cmp (first_mark a) (first_mark b)
part_cmp-marks a b differ =
    let x = marks_head a in
    let y = marks_head b in
    rw (pairs_cmp-by_heads (pairs a) (pairs b), x.1, y.1)
    (elim (cases_order (first_mark a) (first_mark b)) [
      | inl same ↦ absurd (differ same)
      | inr (inl lt) ↦ rw (nat_cmp_less _ _ lt) refl
      | inr (inr gt) ↦ rw (nat_cmp_greater _ _ gt) refl
    ])

-- equal symbols in front decide nothing
pub part_cmp-symbols : (x y : ℕ) (a b : List ℕ) → first_mark (x ∷ a) ≡ first_mark (y ∷ b)
    → first_mark (x ∷ a) ≢ end_mark → part_cmp (x ∷ a) (y ∷ b) ≡ part_cmp a b
part_cmp-symbols x y a b same symbol =
    elim (cases_Bool (is_ascii_digit x)) [
      | inl digit ↦ absurd (symbol (first_mark-digit x a digit))
      | inr left ↦
          elim (cases_Bool (is_ascii_digit y)) [
            | inl digit ↦ absurd (symbol (same ∙ first_mark-digit y b digit))
            | inr right ↦
                let marks_same : mark_of x ≡ mark_of y =
                sym (first_mark-symbol x a left) ∙ same ∙ first_mark-symbol y b right in
                rw (pairs-symbol x a left, pairs-symbol y b right)
                (pairs_cmp-symbols_onto x y marks_same (pairs a) (pairs b))
          ]
    ]

-- ---- the digits

-- the first pair of a part that begins with a number, and the pairs after it
record HeadNumber (t : List ℕ) : Type 0 where
  is : head (pairs t) ≡ record { symbols = []; digits = first_digits t }
  rest : tail (pairs t) ≡ pairs (after_digits t)

pub digit_before_symbol : (b c : ℕ) (ps : List Pair)
    → digit_onto b (symbol_onto c ps) ≡ record { symbols = []; digits = b ∷ [] } ∷ symbol_onto c ps
digit_before_symbol b c [] = refl
digit_before_symbol b c (p ∷ ps) = refl

digit_before_digits : (b : ℕ) (digits : List ℕ) (ps : List Pair) → head ps ≡ record {
  symbols =
      [];
  digits = digits;
} → (head (digit_onto b ps)
    ≡ record { symbols = []; digits = b ∷ digits }) × (tail (digit_onto b ps) ≡ tail ps)
unfolding head tail
digit_before_digits b digits [] e =
    (ap (λ (p : Pair). record { symbols = []; digits = b ∷ p.digits }) e, refl)
digit_before_digits b digits (p ∷ ps) e = rw e (refl, refl)

head_number : (t : List ℕ) → BeginsNumber t → HeadNumber t
unfolding pairs head tail first_digits after_digits
head_number [] h = record { is = refl; rest = refl }
head_number (b ∷ []) h = record { is = rw h refl; rest = rw h refl }
head_number (b ∷ c ∷ t) h =
    elim (cases_Bool (is_ascii_digit c)) [
      | inl digit ↦
          let further = head_number (c ∷ t) digit in
          let both = digit_before_digits b (first_digits (c ∷ t)) (pairs (c ∷ t)) further.is in
          record { is = rw h both.0; rest = rw h (both.1 ∙ further.rest) }
      | inr symbol ↦
          record {
            is = rw (h, symbol, digit_before_symbol b c (pairs t)) refl;
            rest = rw (h, symbol, digit_before_symbol b c (pairs t), symbol) refl;
          }
    ]

-- numbers in front decide where they differ, and else what follows them
pub part_cmp-numbers : (a b : List ℕ) → BeginsNumber a → BeginsNumber b
    → part_cmp a b ≡ ordering_then (nat_cmp (digits_value 10 (first_digits a))
    (digits_value 10 (first_digits b))) (part_cmp (after_digits a) (after_digits b))
part_cmp-numbers a b h k =
    let x = head_number a h in
    let y = head_number b k in
    rw (pairs_cmp-by_heads (pairs a) (pairs b), x.is, y.is, x.rest, y.rest) refl

-- ---- the code

pub first_mark_at : (t : List ℕ) → 0 < length t
    → first_mark t ≡ cond (is_ascii_digit (get_or t 0 0)) end_mark (mark_of (get_or t 0 0))
unfolding first_mark
first_mark_at [] some = absurd (omega arith)
first_mark_at (b ∷ t) some = refl

pub first_digits-test : (t : List ℕ) → all_ascii_digits (first_digits t) ≡ true
unfolding first_digits
first_digits-test [] = refl
first_digits-test (b ∷ t) =
    elim (cases_Bool (is_ascii_digit b)) [
      | inl digit ↦ rw (digit, digit, first_digits-test t) refl
      | inr symbol ↦ rw symbol refl
    ]

pub unwrap_or-position : (p : ℕ → Bool) (t : List ℕ)
    → unwrap_or (position p t) (length t) ≡ position_or_len p t
unwrap_or-position p t =
    elim (cases_lt (position_or_len p t) (length t)) [
      | inl lt ↦ rw (lt-ltb (position_or_len p t) (length t) lt) refl
      | inr le ↦
          let within = prefix_len-le-length (λ b. not (p b)) t in
          rw (le-ltb (position_or_len p t) (length t) le) (omega arith)
    ]

pub take-digits : (t : List ℕ)
    → take (position_or_len (λ b. not (is_ascii_digit b)) t) t ≡ first_digits t
unfolding first_digits
take-digits [] = refl
take-digits (b ∷ t) =
    elim (cases_Bool (is_ascii_digit b)) [
      | inl digit ↦ rw (digit, one-add) (ap (λ (l : List ℕ). b ∷ l) (take-digits t))
      | inr symbol ↦ rw symbol refl
    ]

pub drop-digits : (t : List ℕ)
    → drop (position_or_len (λ b. not (is_ascii_digit b)) t) t ≡ after_digits t
unfolding after_digits
drop-digits [] = refl
drop-digits (b ∷ t) =
    elim (cases_Bool (is_ascii_digit b)) [
      | inl digit ↦ rw (digit, one-add) (drop-digits t)
      | inr symbol ↦ rw symbol refl
    ]

pub first_mark_empty : (t : List ℕ) → length t < 1 → first_mark t ≡ end_mark
unfolding first_mark
first_mark_empty [] none = refl
first_mark_empty (b ∷ t) none = absurd (omega arith)

-- ---- the loop

pub first_decides : (o p : Ordering) → not (eqb (ordering_index o) 1) ≡ true → ordering_then o p ≡ o
first_decides Less p h = refl
first_decides Equal p h = absurd cc
first_decides Greater p h = refl

pub equal_passes : (o p : Ordering) → not (eqb (ordering_index o) 1) ≡ false → ordering_then o p ≡ p
equal_passes Less p h = absurd cc
equal_passes Equal p h = refl
equal_passes Greater p h = absurd cc

-- the first marks decide, and else the parts themselves
pub part_cmp-by_marks : (a b : List ℕ)
    → part_cmp a b ≡ ordering_then (nat_cmp (first_mark a) (first_mark b)) (part_cmp a b)
part_cmp-by_marks a b =
    elim (cases_order (first_mark a) (first_mark b)) [
      | inl same ↦ rw (same, tied_itself nat_cmp_total (first_mark b)) refl
      | inr (inl lt) ↦ rw (part_cmp-marks a b (λ e. omega arith), nat_cmp_less _ _ lt) refl
      | inr (inr gt) ↦ rw (part_cmp-marks a b (λ e. omega arith), nat_cmp_greater _ _ gt) refl
    ]

pub nat_cmp-same : (m n : ℕ) → not (eqb (ordering_index (nat_cmp m n)) 1) ≡ false → m ≡ n
nat_cmp-same m n h =
    elim (cases_order m n) [
      | inl same ↦ same
      | inr (inl lt) ↦
          absurd (let e = ap (λ o. not (eqb (ordering_index o) 1)) (nat_cmp_less m n lt) in cc)
      | inr (inr gt) ↦
          absurd (let e = ap (λ o. not (eqb (ordering_index o) 1)) (nat_cmp_greater m n gt) in cc)
    ]

pub nonempty_symbol : (t : List ℕ) → first_mark t ≢ end_mark → 1 ≤ length t
unfolding first_mark
nonempty_symbol [] h = absurd (h refl)
nonempty_symbol (b ∷ t) h = omega arith

pub part_cmp-rests : (a b : List ℕ) → first_mark a ≡ first_mark b → first_mark a ≢ end_mark
    → part_cmp (drop 1 a) (drop 1 b) ≡ part_cmp a b
unfolding first_mark
part_cmp-rests [] b same symbol = absurd (symbol refl)
part_cmp-rests (x ∷ a) [] same symbol = absurd (symbol same)
part_cmp-rests (x ∷ a) (y ∷ b) same symbol = sym (part_cmp-symbols x y a b same symbol)

pub length-after_digits : (t : List ℕ) → length (after_digits t) ≤ length t
unfolding after_digits
length-after_digits [] = omega arith
length-after_digits (b ∷ t) =
    elim (cases_Bool (is_ascii_digit b)) [
      | inl digit ↦ rw digit (let le = length-after_digits t in omega arith)
      | inr symbol ↦ rw symbol (omega arith)
    ]

pub length-after_digits-lt : (t : List ℕ) → BeginsNumber t → 0 < length t
    → length (after_digits t) < length t
unfolding after_digits
length-after_digits-lt [] h some = absurd (omega arith)
length-after_digits-lt (b ∷ t) h some = rw h (let le = length-after_digits t in omega arith)

-- where the first marks differ, their order is the parts' order
pub marks_decide : (a b : List ℕ) (o : Ordering) → o ≡ nat_cmp (first_mark a) (first_mark b)
    → not (eqb (ordering_index o) 1) ≡ true → o ≡ part_cmp a b
marks_decide a b o is differ =
    sym (first_decides o (part_cmp a b) differ) ∙ ap (λ p. ordering_then p (part_cmp a b)) is
    ∙ sym (part_cmp-by_marks a b)

pub marks_same : (a b : List ℕ) (o : Ordering) → o ≡ nat_cmp (first_mark a) (first_mark b)
    → not (eqb (ordering_index o) 1) ≡ false → first_mark a ≡ first_mark b
marks_same a b o is same =
    nat_cmp-same (first_mark a) (first_mark b)
    (sym (ap (λ p. not (eqb (ordering_index p) 1)) is) ∙ same)

-- the numbers in front, and what follows them
numbers : (a b : List ℕ) (x y : List ℕ) (o : Ordering) → first_mark a ≡ end_mark
    → first_mark b ≡ end_mark → x ≡ first_digits a → y ≡ first_digits b
    → o ≡ nat_cmp (digits_value 10 x) (digits_value 10 y)
    → part_cmp a b ≡ ordering_then o (part_cmp (after_digits a) (after_digits b))
numbers a b x y o left right h k is =
    rw (is, h, k)
    (part_cmp-numbers a b (BeginsNumber-first_mark a left) (BeginsNumber-first_mark b right))

pub numbers_decide : (a b : List ℕ) (x y : List ℕ) (o : Ordering) → first_mark a ≡ end_mark
    → first_mark b ≡ end_mark → x ≡ first_digits a → y ≡ first_digits b
    → o ≡ nat_cmp (digits_value 10 x) (digits_value 10 y) → not (eqb (ordering_index o) 1) ≡ true
    → o ≡ part_cmp a b
numbers_decide a b x y o left right h k is differ =
    sym (first_decides o (part_cmp (after_digits a) (after_digits b)) differ)
    ∙ sym (numbers a b x y o left right h k is)

pub numbers_same : (a b : List ℕ) (x y : List ℕ) (o : Ordering) → first_mark a ≡ end_mark
    → first_mark b ≡ end_mark → x ≡ first_digits a → y ≡ first_digits b
    → o ≡ nat_cmp (digits_value 10 x) (digits_value 10 y) → not (eqb (ordering_index o) 1) ≡ false
    → part_cmp (after_digits a) (after_digits b) ≡ part_cmp a b
numbers_same a b x y o left right h k is same =
    sym (numbers a b x y o left right h k is
    ∙ equal_passes o (part_cmp (after_digits a) (after_digits b)) same)

-- one byte at least goes
pub numbers_shrink : (a b : List ℕ) → first_mark a ≡ end_mark → first_mark b ≡ end_mark → 0
    < length a + length b → length (after_digits a) + length (after_digits b) < length a + length b
numbers_shrink a b left right some =
    let x = length-after_digits a in
    let y = length-after_digits b in
    elim (cases_lt 0 (length a)) [
      | inl lt ↦ let z = length-after_digits-lt a (BeginsNumber-first_mark a left) lt in omega arith
      | inr none ↦
          let z = length-after_digits-lt b (BeginsNumber-first_mark b right) (omega arith) in
          omega arith
    ]

pub part_cmp-empty : (a b : List ℕ) → eqb (length a) 0 ≡ true → eqb (length b) 0 ≡ true
    → part_cmp a b ≡ Equal
unfolding pairs pairs_cmp
part_cmp-empty [] [] h k = refl
part_cmp-empty [] (y ∷ b) h k = let e = eqb-true _ _ k in absurd (omega arith)
part_cmp-empty (x ∷ a) b h k = let e = eqb-true _ _ h in absurd (omega arith)

pub some_left : (a b : List ℕ) → eqb (length a) 0 ≡ false → 0 < length a + length b
some_left a b h = let e = eqb-false _ _ h in omega arith

pub some_right : (a b : List ℕ) → eqb (length b) 0 ≡ false → 0 < length a + length b
some_right a b h = let e = eqb-false _ _ h in omega arith
