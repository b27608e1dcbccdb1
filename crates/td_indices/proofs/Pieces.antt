-- The stanzas of pieces, and a stanza of them by its number.
use Rattle.std.proofs.Common.{◌≡◌, ℕ, zero, suc, ◌+◌, ◌-◌, ◌<◌, ◌≤◌, List, [], ◌∷◌, ◌++◌, Some}
use Rattle.std.proofs.Common.{drop, length, slice_get, zero-add, refl, ap, sym, ◌∙◌, arith}
use Rattle.std.proofs.Common.{append_assoc, append-nil}
use Rattle.std.proofs.lemmas.List.{length-append}
use Rattle.td_rows.proofs.Lists.{drop-next}
use Rattle.td_stanza.specs.Field.{Entry}
use Rattle.td_indices.specs.inner.Pieces.{all_of}

-- those of one piece
pub all_of_one : (pieces : List (List (List Entry))) (piece : List (List Entry))
    → pieces ≡ piece ∷ [] → all_of pieces ≡ piece
all_of_one pieces piece is = rw is (append-nil piece)

-- those of pieces and of others behind them
pub all_of_append : (front rest : List (List (List Entry)))
    → all_of (front ++ rest) ≡ all_of front ++ all_of rest
all_of_append [] rest = refl
all_of_append (piece ∷ front) rest =
    ap (λ (l : List (List Entry)). piece ++ l) (all_of_append front rest)
    ∙ sym (append_assoc piece (all_of front) (all_of rest))

-- what some pieces and others behind them hold, and how many stanzas
pub joined_of : (pieces more all : List (List (List Entry))) (front rest : List (List Entry))
    → all ≡ pieces ++ more → front ≡ all_of pieces → rest ≡ all_of more → all_of all ≡ front ++ rest
joined_of pieces more all front rest is of_front of_rest =
    ap all_of is
    ∙ all_of_append pieces more
    ∙ ap (λ (l : List (List Entry)). l ++ all_of more) (sym of_front)
    ∙ ap (λ (l : List (List Entry)). front ++ l) (sym of_rest)

pub joined_count : (pieces more all : List (List (List Entry))) (front rest : List (List Entry))
    (count : ℕ) → all ≡ pieces ++ more → front ≡ all_of pieces → rest ≡ all_of more
    → count ≡ length front + length rest → count ≡ length (all_of all)
joined_count pieces more all front rest count is of_front of_rest counted =
    counted
    ∙ sym (length-append front rest)
    ∙ ap length (sym (joined_of pieces more all front rest is of_front of_rest))

get_front : {A : Type 0} (xs ys : List A) (n : ℕ) → n < length xs
    → slice_get xs n ≡ slice_get (xs ++ ys) n
get_front [] ys n within = absurd (omega arith)
get_front (x ∷ xs) ys zero within = refl
get_front (x ∷ xs) ys (suc n) within = get_front xs ys n (omega arith)

get_rest : {A : Type 0} (xs ys : List A) (n : ℕ)
    → slice_get ys n ≡ slice_get (xs ++ ys) (length xs + n)
get_rest [] ys n = ap (slice_get ys) (sym (zero-add n))
get_rest (x ∷ xs) ys n =
    let next : suc (length xs) + n ≡ suc (length xs + n) = omega arith in
    get_rest xs ys n ∙ ap (slice_get (x ∷ (xs ++ ys))) (sym next)

-- a number of the next piece
pub get_in_piece : (pieces : List (List (List Entry))) (i : ℕ) (piece : List (List Entry)) (n : ℕ)
    → slice_get pieces i ≡ Some piece → n < length piece
    → slice_get piece n ≡ slice_get (all_of (drop i pieces)) n
get_in_piece pieces i piece n at within =
    get_front piece (all_of (drop (i + 1) pieces)) n within
    ∙ ap (λ (ps : List (List (List Entry))). slice_get (all_of ps) n)
    (sym (drop-next pieces i piece at))

-- one behind it
pub get_behind_piece : (pieces : List (List (List Entry))) (i : ℕ) (piece : List (List Entry))
    (n : ℕ) → slice_get pieces i ≡ Some piece → length piece ≤ n
    → slice_get (all_of (drop (i + 1) pieces)) (n - length piece)
    ≡ slice_get (all_of (drop i pieces)) n
get_behind_piece pieces i piece n at beyond =
    let place : length piece + (n - length piece) ≡ n = omega (arith, beyond) in
    get_rest piece (all_of (drop (i + 1) pieces)) (n - length piece)
    ∙ ap (λ (m : ℕ). slice_get (piece ++ all_of (drop (i + 1) pieces)) m) place
    ∙ ap (λ (ps : List (List (List Entry))). slice_get (all_of ps) n)
    (sym (drop-next pieces i piece at))
