-- The order of versions: Debian Policy 5.6.12, deb-version(7) "Sorting algorithm".
use Rattle.std.specs.Prelude.{ℕ, ◌+◌, ◌==◌, nat_le, ◌&&◌, ◌||◌, Bool, List, [], ◌∷◌, ◌++◌, Option}
use Rattle.std.specs.Prelude.{map, codes, unwrap_or, if◌then◌else◌}
use Rattle.std.specs.Char.{is_ascii_digit}
use Rattle.std.specs.Ordering.{is_eq, nat_cmp, on, then_cmp, ordering_then}
use Rattle.std.specs.declared.cmp.Ordering.{Ordering}
use Rattle.std.specs.declared.cmp.Ordering.TheVariants.{Equal}
use Rattle.std.specs.Cmp.Lexicographic.{slice_cmp}
use Rattle.std.specs.Str.Parse.{digits_value}
use Rattle.td_version.specs.Version.{Parts}

-- Symbols, and the digits that follow them. A symbol is any byte but a digit.
pub record Pair : Type 0 where
  pub symbols : List ℕ
  pub digits : List ℕ

-- A symbol at the beginning of a part joins the symbols of its first pair.
abbrev pub symbol_onto : ℕ → List Pair → List Pair
symbol_onto b [] = record { symbols = b ∷ []; digits = [] } ∷ []
symbol_onto b (p ∷ ps) = record { symbols = b ∷ p.symbols; digits = p.digits } ∷ ps

-- A digit before a first pair with these symbols and digits joins the digits if there are no
-- symbols, and is else a pair of its own.
abbrev pub digit_beside : ℕ → List ℕ → List ℕ → List Pair → List Pair
digit_beside b [] digits ps = record { symbols = []; digits = b ∷ digits } ∷ ps
digit_beside b (s ∷ symbols) digits ps =
    record { symbols = []; digits = b ∷ [] } ∷
    (record { symbols = s ∷ symbols; digits = digits } ∷ ps)

-- A digit at the beginning of a part joins the digits of its first pair if that has no symbols, and
-- is else a pair of its own.
abbrev pub digit_onto : ℕ → List Pair → List Pair
digit_onto b [] = record { symbols = []; digits = b ∷ [] } ∷ []
digit_onto b (p ∷ ps) = digit_beside b p.symbols p.digits ps

-- A part as a list of pairs: symbols and a number, symbols and a number, and so on
-- (deb-version(7)). specs/Runs.antt says that these are the part's runs.
unfoldable pub pairs : List ℕ → List Pair
pairs [] = []
pairs (b ∷ part) =
    if is_ascii_digit b then digit_onto b (pairs part) else symbol_onto b (pairs part)

-- an ASCII letter
abbrev pub is_letter : ℕ → Bool
is_letter b = (nat_le 65 b && nat_le b 90) || (nat_le 97 b && nat_le b 122)

-- The mark after the last symbol.
abbrev pub end_mark : ℕ
end_mark = 1

-- Where a symbol comes: a tilde before the end, the end before letters, letters before all others;
-- letters, and others, by their codes (Policy 5.6.12).
abbrev pub mark_of : ℕ → ℕ
mark_of b = if b == 126 then 0 else (if is_letter b then b + 2 else b + 258)

-- the symbols of a pair, with the end mark after them
abbrev pub marks : Pair → List ℕ
marks p = map mark_of p.symbols ++ end_mark ∷ []

-- the number of a pair, 0 where it has no digits
abbrev pub number : Pair → ℕ
number p = digits_value 10 p.digits

-- Symbols decide, then numbers.
abbrev pub pair_cmp : Pair → Pair → Ordering
pair_cmp = then_cmp (on marks (slice_cmp nat_cmp)) (on number nat_cmp)

-- A list of pairs goes on without end by this one: no symbols, and 0.
abbrev pub nothing : Pair
nothing = record { symbols = []; digits = [] }

-- The first pairs that differ decide.
unfoldable pub pairs_cmp : List Pair → List Pair → Ordering
pairs_cmp [] [] = Equal
pairs_cmp [] (q ∷ qs) = ordering_then (pair_cmp nothing q) (pairs_cmp [] qs)
pairs_cmp (p ∷ ps) [] = ordering_then (pair_cmp p nothing) (pairs_cmp ps [])
pairs_cmp (p ∷ ps) (q ∷ qs) = ordering_then (pair_cmp p q) (pairs_cmp ps qs)

-- the order of two upstream parts, or of two revisions
abbrev pub part_cmp : List ℕ → List ℕ → Ordering
part_cmp a b = pairs_cmp (pairs a) (pairs b)

-- No revision counts as `0` (Policy 5.6.12; deb-version(7) has it as the earlier one).
abbrev pub revision_or_zero : Option (List ℕ) → List ℕ
revision_or_zero revision = unwrap_or revision (codes "0")

-- Epochs are compared as numbers, then the upstream parts, then the revisions.
abbrev pub version_cmp : Parts → Parts → Ordering
version_cmp =
    then_cmp (on (λ p. p.epoch) nat_cmp)
    (then_cmp (on (λ p. p.upstream) part_cmp) (on (λ p. revision_or_zero p.revision) part_cmp))

-- equal in order
abbrev pub same_version : Parts → Parts → Bool
same_version a b = is_eq (version_cmp a b)
