-- A text may be cut off if and only if its last byte is no newline.
use Rattle.std.proofs.Common.{◌≡◌, ◌+◌, ◌==◌, ◌∷◌, [], ℕ, zero, suc, not, List, get_or, length}
use Rattle.std.proofs.Common.{◌<◌, ◌++◌, ap, arith, refl}
use Rattle.std.proofs.lemmas.List.{append-nil}
use Rattle.td_details.specs.CutOff.{is_cut_off}

-- the last byte of a text decides
pub last_decides : (text : List ℕ) (n : ℕ) → n + 1 ≡ length text
    → not (get_or text n 0 == 10) ≡ is_cut_off text
last_decides [] n is = absurd (omega (arith, is))
last_decides (x ∷ []) zero is = refl
last_decides (x ∷ []) (suc n) is = absurd (omega (arith, is))
last_decides (x ∷ y ∷ text) zero is = absurd (omega (arith, is))
last_decides (x ∷ y ∷ text) (suc n) is = last_decides (y ∷ text) n (omega (arith, is))

-- the last byte of two parts is that of the second one, if this has one
pub cut_behind : (front rest : List ℕ) → 0 < length rest
    → is_cut_off (front ++ rest) ≡ is_cut_off rest
cut_behind [] rest has = refl
cut_behind (x ∷ []) [] has = absurd (omega (arith, has))
cut_behind (x ∷ []) (y ∷ rest) has = refl
cut_behind (x ∷ y ∷ front) rest has = cut_behind (y ∷ front) rest has

-- the last byte of two parts is that of the first one, if the second one is empty
pub cut_before : (front rest : List ℕ) → length rest ≡ 0
    → is_cut_off (front ++ rest) ≡ is_cut_off front
cut_before front [] none = ap is_cut_off (append-nil front)
cut_before front (x ∷ rest) none = absurd (omega (arith, none))
