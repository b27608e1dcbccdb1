-- Texts that are the same.
use Rattle.std.proofs.Common.{◌≡◌, ℕ, true, List, sym}
use Rattle.std.specs.Str.{bytes_eq}
use Rattle.std.proofs.lemmas.Bool.Decides.{same_from_decides}
use Rattle.std.proofs.lemmas.Slice.Eq.{bytes_eq-Decides}

pub same_text : (a b : List ℕ) → bytes_eq a b ≡ true → a ≡ b
same_text a b h = (bytes_eq-Decides a b).0 h

pub bytes_eq-swap : (a b : List ℕ) → bytes_eq a b ≡ bytes_eq b a
bytes_eq-swap a b =
    let one = bytes_eq-Decides a b in
    let other = bytes_eq-Decides b a in
    same_from_decides {P = a ≡ b} (bytes_eq a b) (bytes_eq b a) one (
      λ h.
          sym (other.0 h),
      λ e. other.1 (sym e),
    )
