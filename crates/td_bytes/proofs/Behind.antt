-- What a read leaves in a list that was filled up for it.
use Rattle.std.proofs.Common.{◌≡◌, ◌+◌, ◌≤◌, ◌++◌, ◌∙◌, ℕ, List, ap, drop, length, take}
use Rattle.std.proofs.Common.{take-add, take_all}
use Rattle.std.proofs.Math.Seq.{take-append_seam}

-- a list that was filled up begins with what it was
pub take-filled : (bs zs : List ℕ) (start end : ℕ) → start ≡ length bs → length bs ≤ end
    → take start (take end bs ++ zs) ≡ bs
take-filled bs zs start end is fits =
    ap (λ k. take k (take end bs ++ zs)) is
    ∙ ap (λ xs. take (length bs) (xs ++ zs)) (take_all end bs fits) ∙ take-append_seam bs zs

-- the list, cut after what was read, if the read left its front as it was
pub take-read : (bs xs bf rest : List ℕ) (start len n : ℕ) → take start xs ≡ bs → len ≡ length bf
    → take start bf ≡ take start xs
    → take (start + n) (take len (bf ++ rest)) ≡ bs ++ take n (drop start bf)
take-read bs xs bf rest start len n own same front =
    ap (λ k. take (start + n) (take k (bf ++ rest))) same
    ∙ ap (take (start + n)) (take-append_seam bf rest)
    ∙ take-add start n bf
    ∙ ap (λ xs. xs ++ take n (drop start bf)) (front ∙ own)
