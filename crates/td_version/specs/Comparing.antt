-- What the comparison in place looks at. proofs/Comparing.antt joins it to the order.
-- This project's own.
use Rattle.std.specs.Prelude.{ℕ, ◌==◌, List, [], ◌∷◌, if◌then◌else◌}
use Rattle.std.specs.Char.{is_ascii_digit}
use Rattle.td_version.specs.Order.{end_mark, mark_of}

-- the mark of the symbol that a part begins with, or the end mark at a digit and at the end
unfoldable pub first_mark : List ℕ → ℕ
first_mark [] = end_mark
first_mark (b ∷ part) = if is_ascii_digit b then end_mark else mark_of b

-- the digits that a part begins with
unfoldable pub first_digits : List ℕ → List ℕ
first_digits [] = []
first_digits (b ∷ part) = if is_ascii_digit b then b ∷ first_digits part else []

-- what follows the digits that a part begins with
unfoldable pub after_digits : List ℕ → List ℕ
after_digits [] = []
after_digits (b ∷ part) = if is_ascii_digit b then after_digits part else b ∷ part

-- digits without the zeros at the beginning
unfoldable pub without_zeros : List ℕ → List ℕ
without_zeros [] = []
without_zeros (b ∷ digits) = if b == 48 then without_zeros digits else b ∷ digits
