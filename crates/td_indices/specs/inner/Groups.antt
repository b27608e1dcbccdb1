-- The numbers of the binary packages by the names of their sources, in four maps; a name's length
-- says which map has it. This project's own.
use Rattle.std.specs.Prelude.{◌≡◌, ℕ, ◌%◌, ◌==◌, List, length, if◌then◌else◌}
use Rattle.td_supply.specs.declared.numbers.Numbers.{Numbers}
use Rattle.td_supply.specs.Numbers.{numbers_of}
use Rattle.td_indices.specs.declared.groups.Groups.{Groups}
use Rattle.td_indices.specs.declared.groups.Quarter.{Quarter}
use Rattle.td_indices.specs.declared.groups.Quarter.TheVariants.{First, Second, Third, Fourth}
use Rattle.td_indices.specs.Archive.{is_of, places_from}
use Rattle.td_indices.specs.Kept.{KeptBinary}

-- the quarter of the names of a length, by what is left of that when fours are taken away
abbrev pub quarter_with : ℕ → Quarter
quarter_with left =
    if left == 0 then First else if left == 1 then Second else if left == 2 then Third else Fourth

-- the quarter that a name is of
abbrev pub quarter_of : List ℕ → Quarter
quarter_of name = quarter_with (length name % 4)

-- what is kept of a quarter
abbrev pub of_quarter : Groups → Quarter → Numbers
of_quarter groups First = groups.first
of_quarter groups Second = groups.second
of_quarter groups Third = groups.third
of_quarter groups Fourth = groups.fourth

-- the numbers under a name
abbrev pub grouped_under : Groups → List ℕ → List ℕ
grouped_under groups name = numbers_of (of_quarter groups (quarter_of name)) name

-- each name of the quarter has the numbers of the packages of the source with that name
abbrev pub AreOfQuarter : Quarter → List KeptBinary → Numbers → Type 0
AreOfQuarter quarter packages numbers = (q : List ℕ) → quarter_of q ≡ quarter
    → numbers_of numbers q ≡ places_from (is_of q) 0 packages
