-- Bytes that are written one part after the other.
use Rattle.std.proofs.Common.{ℕ, List, ◌++◌, Option, ap, sym, ◌∙◌, append_assoc}
use Rattle.std.specs.Io.KnownBytes.{Appends}
use Rattle.std.proofs.KnownBytes.{Appends-trans}
use Rattle.td_bytes.specs.Pieces.{AppendsPrefix}

-- a front of the first part is a front of both
pub AppendsPrefix-first : (a b : Option (List ℕ)) (first second : List ℕ) → AppendsPrefix a b first
    → AppendsPrefix a b (first ++ second)
AppendsPrefix-first a b first second p =
    let (front, rest, split, appended) = p in
    (front, rest ++ second, ap (λ l. l ++ second) split ∙ append_assoc front rest second, appended)

-- the first part, and a front of the second, are a front of both
pub AppendsPrefix-second : (a b c : Option (List ℕ)) (first second : List ℕ) → Appends a b first
    → AppendsPrefix b c second → AppendsPrefix a c (first ++ second)
AppendsPrefix-second a b c first second p q =
    let (front, rest, split, appended) = q in (
      first ++ front,
      rest,
      ap (λ l. first ++ l) split ∙ sym (append_assoc first front rest),
      Appends-trans a b c first front p appended,
    )
