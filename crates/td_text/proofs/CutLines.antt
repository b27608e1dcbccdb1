-- The lines of two texts with a newline between them.
use Rattle.std.proofs.Common.{◌≡◌, ℕ, ◌<◌, ◌==◌, Bool, true, false, List, [], ◌∷◌, ◌++◌, length}
use Rattle.std.proofs.Common.{refl, sym, ap, ◌∙◌, arith}
use Rattle.std.specs.List.{onto_first}
use Rattle.std.proofs.lemmas.List.Splits.{length-slice_split, slice_split-cons_no}
use Rattle.std.proofs.lemmas.List.Splits.{slice_split-cons_yes}
use Rattle.td_text.specs.Lines.{lines_of}

abbrev is_newline : ℕ → Bool
is_newline b = b == 10

-- a byte more in front of the first line
with_first : (x : ℕ) (ls ms : List (List ℕ)) → 0 < length ls
    → onto_first x (ls ++ ms) ≡ onto_first x ls ++ ms
with_first x [] ms some = absurd (omega (arith, some))
with_first x (l ∷ ls) ms some = refl

byte_cut : (x : ℕ) (a b : List ℕ) → lines_of (a ++ 10 ∷ b) ≡ lines_of a ++ lines_of b
    → (ends : Bool) → (x == 10) ≡ ends
    → lines_of (x ∷ (a ++ 10 ∷ b)) ≡ lines_of (x ∷ a) ++ lines_of b
byte_cut x a b rest true is =
    slice_split-cons_yes is_newline x (a ++ 10 ∷ b) is ∙ ap (λ (l : List (List ℕ)). [] ∷ l) rest
    ∙ ap (λ (l : List (List ℕ)). l ++ lines_of b) (sym (slice_split-cons_yes is_newline x a is))
byte_cut x a b rest false is =
    slice_split-cons_no is_newline x (a ++ 10 ∷ b) is ∙ ap (onto_first x) rest
    ∙ with_first x (lines_of a) (lines_of b) (omega (arith, length-slice_split is_newline a))
    ∙ ap (λ (l : List (List ℕ)). l ++ lines_of b) (sym (slice_split-cons_no is_newline x a is))

pub lines_of-cut : (a b : List ℕ) → lines_of (a ++ 10 ∷ b) ≡ lines_of a ++ lines_of b
lines_of-cut [] b = slice_split-cons_yes is_newline 10 b refl
lines_of-cut (x ∷ a) b = byte_cut x a b (lines_of-cut a b) (x == 10) refl
