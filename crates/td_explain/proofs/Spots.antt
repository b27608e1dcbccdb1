-- The place among the lines that are left.
use Rattle.std.proofs.Common.{◌≡◌, ℕ, ◌+◌, Bool, true, false, List, ◌∷◌, Option, Some, None}
use Rattle.std.proofs.Common.{refl, sym, ap, ◌∙◌}
use Rattle.std.specs.Borrow.{Bor}
use Rattle.td_text.specs.Lines.{lines_of, lines_left}
use Rattle.td_stanza.specs.Line.{is_separator}
use Rattle.td_explain.specs.declared.spot.Point.{Point}
use Rattle.td_explain.specs.Spot.{SpotWords, beyond, is_at, offset_of, spot_in}

abbrev pub spot_with : ℕ → ℕ → List ℕ → SpotWords
spot_with n k line = record { number = n; offset = k; line = line }

-- what is left of a text begins with its next line
begins : (point : Point) (apart : Bool) (n : ℕ) (o : Option (Bor (List ℕ))) (t : Bor (List ℕ))
    (line : List ℕ) (after : List (List ℕ)) (total : Option SpotWords)
    → o ≡ Some t → lines_of t.now ≡ line ∷ after → spot_in point apart n (lines_left o) ≡ total
    → spot_in point apart n (line ∷ after) ≡ total
begins point apart n o t line after total is cut h =
    sym (ap (spot_in point apart n) (ap lines_left is ∙ cut)) ∙ h

-- the place is after this line
behind : (point : Point) (apart : Bool) (n : ℕ) (line : List ℕ) (after : List (List ℕ))
    (total : Option SpotWords)
    → is_at point apart line ≡ false → spot_in point apart n (line ∷ after) ≡ total
    → spot_in (beyond point apart line) (is_separator line) (n + 1) after ≡ total
unfolding spot_in
behind point apart n line after total off h = sym (rw off refl) ∙ h

pub passes : (point : Point) (apart : Bool) (n : ℕ) (o : Option (Bor (List ℕ))) (t : Bor (List ℕ))
    (line : List ℕ) (after : List (List ℕ)) (total : Option SpotWords)
    → o ≡ Some t → lines_of t.now ≡ line ∷ after → is_at point apart line ≡ false
    → spot_in point apart n (lines_left o) ≡ total
    → spot_in (beyond point apart line) (is_separator line) (n + 1) after ≡ total
passes point apart n o t line after total is cut off h =
    behind point apart n line after total off (begins point apart n o t line after total is cut h)

-- the place is in this line
within : (point : Point) (apart : Bool) (n k : ℕ) (line : List ℕ) (after : List (List ℕ))
    (total : Option SpotWords)
    → is_at point apart line ≡ true → k ≡ offset_of point
    → spot_in point apart n (line ∷ after) ≡ total → Some (spot_with n k line) ≡ total
unfolding spot_in
within point apart n k line after total on same h =
    ap (λ (j : ℕ). Some (spot_with n j line)) same ∙ sym (rw on refl) ∙ h

pub stands : (point : Point) (apart : Bool) (n k : ℕ) (o : Option (Bor (List ℕ))) (t : Bor (List ℕ))
    (line : List ℕ) (after : List (List ℕ)) (total : Option SpotWords)
    → o ≡ Some t → lines_of t.now ≡ line ∷ after → is_at point apart line ≡ true
    → k ≡ offset_of point → spot_in point apart n (lines_left o) ≡ total
    → Some (spot_with n k line) ≡ total
stands point apart n k o t line after total is cut on same h =
    within point apart n k line after total on same
    (begins point apart n o t line after total is cut h)

-- no line is left
pub ends : (point : Point) (apart : Bool) (n : ℕ) (o : Option (Bor (List ℕ)))
    (total : Option SpotWords)
    → o ≡ None → spot_in point apart n (lines_left o) ≡ total → None ≡ total
unfolding spot_in
ends point apart n None total is h = h
ends point apart n (Some t) total is h = absurd cc
