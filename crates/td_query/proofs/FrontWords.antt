-- Words at the front of two texts that are the same up to and with some byte.
use Rattle.std.proofs.Common.{◌≡◌, ℕ, ◌+◌, ◌-◌, ◌≤◌, Bool, true, false}
use Rattle.std.proofs.Common.{cond}
use Rattle.std.proofs.Common.{eqb, max, List, [], ◌∷◌, ◌++◌, length, length-append}
use Rattle.std.proofs.Common.{append_assoc, leb, leb-true, leb-false, length-drop, drop}
use Rattle.std.proofs.Common.{Ok, Err, refl, sym, ap, subst, ◌∙◌, inl, inr, one-add, arith}
use Rattle.std.specs.Prelude.{codes}
use Rattle.std.specs.Str.{bytes_eq}
use Rattle.std.proofs.lemmas.Bool.{cases_Bool}
use Rattle.std.proofs.lemmas.Bool.Decides.{eqb_tells}
use Rattle.std.proofs.lemmas.Slice.Eq.{bytes_eq-Decides}
use Rattle.td_text.specs.Runs.{run, behind}
use Rattle.td_text.proofs.RunTexts.{run_joined}
use Rattle.td_query.specs.Query.{always}
use Rattle.td_query.specs.QueryGrammar.{Log, begun}
use Rattle.td_query.specs.QueryGrammar.{word_atom}
use Rattle.td_query.specs.Tokens.{common_len, is_key_byte, skipped}
use Rattle.td_query.proofs.Fronts.{Ahead, Follow}
use Rattle.td_query.proofs.Fronts.{goes_near, left_in, past, skip_less, wrong_at}
use Rattle.td_query.proofs.SpelledAtoms.{Given}

-- what follows what was read
abbrev pub after : Given → List ℕ
after y = y.2

-- ---- 1. no more is left than there was

pub behind_less : (t : List ℕ) → length (behind is_key_byte t) ≤ length t
behind_less t =
    let whole : length t ≡ length (run is_key_byte t ++ behind is_key_byte t) =
    ap (λ (l : List ℕ). length l) (run_joined is_key_byte t) in
    let parts = length-append (run is_key_byte t) (behind is_key_byte t) in
    omega arith

by_words_short : (log : Log) (rest : List ℕ) (wrong n : ℕ) (a b : Bool)
    → length (skipped rest) ≤ n → wrong ≤ n
    → left_in after (cond a (Ok (always true, log, rest))
    (cond b (Ok (always false, log, rest)) (Err (wrong, log)))) ≤ n
by_words_short log rest wrong n true b short low = short
by_words_short log rest wrong n false true short low = short
by_words_short log rest wrong n false false short low = low

pub word_short : (log : Log) (t : List ℕ) → left_in after (word_atom log t) ≤ length t
unfolding word_atom
word_short log t =
    let less = skip_less (behind is_key_byte t) in
    let lesser = behind_less t in
    by_words_short log (behind is_key_byte t) (length t - begun (run is_key_byte t)) (length t)
    (bytes_eq (run is_key_byte t) (codes "true")) (bytes_eq (run is_key_byte t) (codes "false"))
    (omega arith) (omega arith)

-- ---- 2. runs

-- the run of both texts ends ahead of the byte, at one place, or goes on after the byte
pub data IsRun (x : ℕ) (a b t u : List ℕ) : Type 0 where
  stops_ahead : run is_key_byte u ≡ run is_key_byte t
      → Ahead x a b (behind is_key_byte t) (behind is_key_byte u) → IsRun x a b t u
  goes_behind : (front m n : List ℕ) → t ≡ front ++ x ∷ a → u ≡ front ++ x ∷ b
      → run is_key_byte t ≡ front ++ x ∷ m → run is_key_byte u ≡ front ++ x ∷ n
      → length (behind is_key_byte t) ≤ length a → IsRun x a b t u

run_more : (y : ℕ) (t : List ℕ) → is_key_byte y ≡ true
    → run is_key_byte (y ∷ t) ≡ y ∷ run is_key_byte t
run_more y t is = rw (is, one-add) refl

behind_more : (y : ℕ) (t : List ℕ) → is_key_byte y ≡ true
    → behind is_key_byte (y ∷ t) ≡ behind is_key_byte t
behind_more y t is = rw (is, one-add) refl

module _ (x : ℕ) (a b : List ℕ) where
  run_later : (y : ℕ) (t u : List ℕ) → is_key_byte y ≡ true → IsRun x a b t u
      → IsRun x a b (y ∷ t) (y ∷ u)
  run_later y t u is (stops_ahead same h) =
      stops_ahead
      (run_more y u is ∙ ap (λ (l : List ℕ). y ∷ l) same ∙ sym (run_more y t is))
      (subst (λ (l : List ℕ). Ahead x a b l (behind is_key_byte (y ∷ u)))
      (sym (behind_more y t is))
      (subst (λ (l : List ℕ). Ahead x a b (behind is_key_byte t) l) (sym (behind_more y u is)) h))
  run_later y t u is (goes_behind front m n one other first second short) =
      goes_behind (y ∷ front) m n (ap (λ (l : List ℕ). y ∷ l) one)
      (ap (λ (l : List ℕ). y ∷ l) other) (run_more y t is ∙ ap (λ (l : List ℕ). y ∷ l) first)
      (run_more y u is ∙ ap (λ (l : List ℕ). y ∷ l) second)
      (subst (λ (l : List ℕ). length l ≤ length a) (sym (behind_more y t is)) short)

  run_here : IsRun x a b (x ∷ a) (x ∷ b)
  run_here =
      elim (cases_Bool (is_key_byte x)) [
        | inl is ↦
            goes_behind [] (run is_key_byte a) (run is_key_byte b) refl refl (run_more x a is)
            (run_more x b is)
            (subst (λ (l : List ℕ). length l ≤ length a) (sym (behind_more x a is))
            (behind_less a))
        | inr out ↦
            stops_ahead (rw out refl)
            (rw out (record { front = []; one = refl; other = refl }))
      ]

  run_first : (y : ℕ) (front : List ℕ) → is_key_byte y ≡ false
      → IsRun x a b (y ∷ (front ++ x ∷ a)) (y ∷ (front ++ x ∷ b))
  run_first y front out =
      stops_ahead (rw out refl)
      (rw out (record { front = y ∷ front; one = refl; other = refl }))

  run_in : (front : List ℕ) → IsRun x a b (front ++ x ∷ a) (front ++ x ∷ b)
  run_in [] = run_here
  run_in (y ∷ front) =
      elim (cases_Bool (is_key_byte y)) [
        | inl is ↦ run_later y (front ++ x ∷ a) (front ++ x ∷ b) is (run_in front)
        | inr out ↦ run_first y front out
      ]

  pub run_of : (t u : List ℕ) → Ahead x a b t u → IsRun x a b t u
  run_of t u h =
      subst (λ (l : List ℕ). IsRun x a b l u) (sym h.one)
      (subst (λ (l : List ℕ). IsRun x a b (h.front ++ x ∷ a) l) (sym h.other) (run_in h.front))

-- ---- 3. words

-- a common beginning that ends before the byte is the same whatever follows it
common_same : (front word m n : List ℕ) (x : ℕ)
    → common_len (front ++ x ∷ m) word ≤ length front
    → common_len (front ++ x ∷ n) word ≡ common_len (front ++ x ∷ m) word
unfolding common_len
common_same [] [] m n x low = refl
common_same (z ∷ front) [] m n x low = refl
common_same [] (y ∷ word) m n x low =
    elim (eqb_tells x y) [
      | inl is ↦
          (let more : cond (eqb x y) (1 + common_len m word) 0 ≤ 0 = low in
          let bad : 1 + common_len m word ≤ 0 =
          subst (λ (k : Bool). cond k (1 + common_len m word) 0 ≤ 0) is.0 more in
          absurd (omega arith))
      | inr other ↦ rw other.0 refl
    ]
common_same (z ∷ front) (y ∷ word) m n x low =
    elim (eqb_tells z y) [
      | inl is ↦
          (let more : cond (eqb z y) (1 + common_len (front ++ x ∷ m) word) 0
          ≤ length (z ∷ front) = low in
          let here : 1 + common_len (front ++ x ∷ m) word ≤ length (z ∷ front) =
          subst (λ (k : Bool).
          cond k (1 + common_len (front ++ x ∷ m) word) 0 ≤ length (z ∷ front)) is.0 more in
          let less : common_len (front ++ x ∷ m) word ≤ length front = omega arith in
          rw is.0 (ap (λ (k : ℕ). 1 + k) (common_same front word m n x less)))
      | inr other ↦ rw other.0 refl
    ]

common_all : (word : List ℕ) → common_len word word ≡ length word
unfolding common_len
common_all [] = refl
common_all (y ∷ word) =
    elim (eqb_tells y y) [
      | inl is ↦ rw is.0 (ap (λ (k : ℕ). 1 + k) (common_all word) ∙ one-add (length word))
      | inr other ↦ absurd (other.1 refl)
    ]

common_less : (t word : List ℕ) → common_len t word ≤ length t
unfolding common_len
common_less [] word = omega arith
common_less (z ∷ t) [] = omega arith
common_less (z ∷ t) (y ∷ word) =
    elim (eqb_tells z y) [
      | inl is ↦ (let less = common_less t word in rw is.0 (omega arith))
      | inr other ↦ rw other.0 (omega arith)
    ]

pub begun_less : (t : List ℕ) → begun t ≤ length t
begun_less t =
    let one = common_less t (codes "true") in
    let other = common_less t (codes "false") in
    omega arith

-- a word that leaves another one at the byte or before it isn't the other one
no_word : (front n word : List ℕ) (x : ℕ) → common_len (front ++ x ∷ n) word ≤ length front
    → bytes_eq (front ++ x ∷ n) word ≡ false
no_word front n word x low = by (bytes_eq (front ++ x ∷ n) word) refl
  where
    by : (k : Bool) → bytes_eq (front ++ x ∷ n) word ≡ k → k ≡ false
    by false is = refl
    by true is =
        let same : front ++ x ∷ n ≡ word = (bytes_eq-Decides (front ++ x ∷ n) word).0 is in
        let all : common_len (front ++ x ∷ n) word ≡ length (front ++ x ∷ n) =
        ap (λ (w : List ℕ). common_len (front ++ x ∷ n) w) (sym same)
        ∙ common_all (front ++ x ∷ n) in
        let parts = length-append front (x ∷ n) in
        absurd (omega arith)

module _ (x : ℕ) (a b : List ℕ) (log kept : Log) where
  -- both words end ahead of the byte, and are the same
  same_words : (t u word : List ℕ) (v w : List ℕ) (p q : Bool) → t ≡ word ++ v → u ≡ word ++ w
      → Ahead x a b v w
      → Follow x a b after
      (cond p (Ok (always true, log, v)) (cond q (Ok (always false, log, v))
      (Err (length t - begun word, log))))
      (cond p (Ok (always true, kept, w)) (cond q (Ok (always false, kept, w))
      (Err (length u - begun word, kept))))
  same_words t u word v w true q one other h =
      goes_near x a b after (always true, log, v) (always true, kept, w) (inl h)
  same_words t u word v w false true one other h =
      goes_near x a b after (always false, log, v) (always false, kept, w) (inl h)
  same_words t u word v w false false one other h =
      let less = begun_less word in
      let left = length-drop (begun word) word in
      let first : length t ≡ length (word ++ v) = ap (λ (l : List ℕ). length l) one in
      let second : length u ≡ length (word ++ w) = ap (λ (l : List ℕ). length l) other in
      let whole = length-append word v in
      let also = length-append word w in
      let here = length-append (drop (begun word) word) v in
      let there = length-append (drop (begun word) word) w in
      wrong_at x a b after (length t - begun word, log) (length u - begun word, kept)
      (drop (begun word) word ++ v) (drop (begun word) word ++ w) (record {
        front = drop (begun word) word ++ h.front;
        one = ap (λ (l : List ℕ). drop (begun word) word ++ l) h.one
            ∙ sym (append_assoc (drop (begun word) word) h.front (x ∷ a));
        other = ap (λ (l : List ℕ). drop (begun word) word ++ l) h.other
            ∙ sym (append_assoc (drop (begun word) word) h.front (x ∷ b));
      }) (omega arith) (omega arith)

  -- the word goes on after the byte, and is wrong at it or before it
  wrong_words : (t u front m n v : List ℕ) → t ≡ front ++ x ∷ a → u ≡ front ++ x ∷ b
      → begun (front ++ x ∷ m) ≤ length front
      → Follow x a b after (Err (length t - begun (front ++ x ∷ m), log))
      (cond (bytes_eq (front ++ x ∷ n) (codes "true")) (Ok (always true, kept, v))
      (cond (bytes_eq (front ++ x ∷ n) (codes "false")) (Ok (always false, kept, v))
      (Err (length u - begun (front ++ x ∷ n), kept))))
  wrong_words t u front m n v one other low =
      let truly : common_len (front ++ x ∷ m) (codes "true") ≤ length front = omega arith in
      let never : common_len (front ++ x ∷ m) (codes "false") ≤ length front = omega arith in
      let also_yes = common_same front (codes "true") m n x truly in
      let also_no = common_same front (codes "false") m n x never in
      let other_yes : common_len (front ++ x ∷ n) (codes "true") ≤ length front = omega arith in
      let other_no : common_len (front ++ x ∷ n) (codes "false") ≤ length front = omega arith in
      let same : begun (front ++ x ∷ n) ≡ begun (front ++ x ∷ m) =
      ap (λ (k : ℕ). max k (common_len (front ++ x ∷ n) (codes "false"))) also_yes
      ∙ ap (λ (k : ℕ). max (common_len (front ++ x ∷ m) (codes "true")) k) also_no in
      let count : ℕ = begun (front ++ x ∷ m) in
      let left = length-drop count front in
      let first : length t ≡ length (front ++ x ∷ a) = ap (λ (l : List ℕ). length l) one in
      let second : length u ≡ length (front ++ x ∷ b) = ap (λ (l : List ℕ). length l) other in
      let whole = length-append front (x ∷ a) in
      let also = length-append front (x ∷ b) in
      let here = length-append (drop count front) (x ∷ a) in
      let there = length-append (drop count front) (x ∷ b) in
      rw (no_word front n (codes "true") x other_yes, no_word front n (codes "false") x other_no)
      (wrong_at x a b after (length t - begun (front ++ x ∷ m), log)
      (length u - begun (front ++ x ∷ n), kept) (drop count front ++ x ∷ a)
      (drop count front ++ x ∷ b)
      (record { front = drop count front; one = refl; other = refl }) (omega arith) (omega arith))

  behind_words : (t u front m n v w : List ℕ) (p q : Bool) → t ≡ front ++ x ∷ a
      → u ≡ front ++ x ∷ b → length v ≤ length a
      → Follow x a b after
      (cond p (Ok (always true, log, v)) (cond q (Ok (always false, log, v))
      (Err (length t - begun (front ++ x ∷ m), log))))
      (cond (bytes_eq (front ++ x ∷ n) (codes "true")) (Ok (always true, kept, w))
      (cond (bytes_eq (front ++ x ∷ n) (codes "false")) (Ok (always false, kept, w))
      (Err (length u - begun (front ++ x ∷ n), kept))))
  behind_words t u front m n v w true q one other short =
      let less = skip_less v in past (omega arith)
  behind_words t u front m n v w false true one other short =
      let less = skip_less v in past (omega arith)
  behind_words t u front m n v w false false one other short =
      elim (cases_Bool (leb (begun (front ++ x ∷ m)) (length front))) [
        | inl is ↦
            wrong_words t u front m n w one other
            (leb-true (begun (front ++ x ∷ m)) (length front) is)
        | inr out ↦
            let more = leb-false (begun (front ++ x ∷ m)) (length front) out in
            let first : length t ≡ length (front ++ x ∷ a) = ap (λ (l : List ℕ). length l) one in
            let whole = length-append front (x ∷ a) in
            past (omega arith)
      ]

  pub word_run : (t u : List ℕ) → IsRun x a b t u
      → Follow x a b after (word_atom log t) (word_atom kept u)
  unfolding word_atom
  word_run t u (stops_ahead same h) =
      subst (λ (word : List ℕ). Follow x a b after
      (cond (bytes_eq (run is_key_byte t) (codes "true"))
      (Ok (always true, log, behind is_key_byte t))
      (cond (bytes_eq (run is_key_byte t) (codes "false"))
      (Ok (always false, log, behind is_key_byte t))
      (Err (length t - begun (run is_key_byte t), log))))
      (cond (bytes_eq word (codes "true")) (Ok (always true, kept, behind is_key_byte u))
      (cond (bytes_eq word (codes "false")) (Ok (always false, kept, behind is_key_byte u))
      (Err (length u - begun word, kept))))) (sym same)
      (same_words t u (run is_key_byte t) (behind is_key_byte t) (behind is_key_byte u)
      (bytes_eq (run is_key_byte t) (codes "true")) (bytes_eq (run is_key_byte t) (codes "false"))
      (run_joined is_key_byte t)
      (run_joined is_key_byte u ∙ ap (λ (l : List ℕ). l ++ behind is_key_byte u) same) h)
  word_run t u (goes_behind front m n one other first second short) =
      subst (λ (word : List ℕ). Follow x a b after
      (cond (bytes_eq word (codes "true")) (Ok (always true, log, behind is_key_byte t))
      (cond (bytes_eq word (codes "false")) (Ok (always false, log, behind is_key_byte t))
      (Err (length t - begun word, log))))
      (cond (bytes_eq (run is_key_byte u) (codes "true"))
      (Ok (always true, kept, behind is_key_byte u))
      (cond (bytes_eq (run is_key_byte u) (codes "false"))
      (Ok (always false, kept, behind is_key_byte u))
      (Err (length u - begun (run is_key_byte u), kept))))) (sym first)
      (subst (λ (word : List ℕ). Follow x a b after
      (cond (bytes_eq (front ++ x ∷ m) (codes "true"))
      (Ok (always true, log, behind is_key_byte t))
      (cond (bytes_eq (front ++ x ∷ m) (codes "false"))
      (Ok (always false, log, behind is_key_byte t))
      (Err (length t - begun (front ++ x ∷ m), log))))
      (cond (bytes_eq word (codes "true")) (Ok (always true, kept, behind is_key_byte u))
      (cond (bytes_eq word (codes "false")) (Ok (always false, kept, behind is_key_byte u))
      (Err (length u - begun word, kept))))) (sym second)
      (behind_words t u front m n (behind is_key_byte t) (behind is_key_byte u)
      (bytes_eq (front ++ x ∷ m) (codes "true")) (bytes_eq (front ++ x ∷ m) (codes "false"))
      one other short))
