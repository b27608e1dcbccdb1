-- The limits of rows, and of the numbers in them. This project's own.
use Rattle.std.specs.Prelude.{ℕ}

-- the most rows that there are
abbrev pub max_rows : ℕ
max_rows = 1048576

-- the largest priority; the least is its negative
abbrev pub max_priority : ℕ
max_priority = 9999

-- the largest number of a builder that a journal has
abbrev pub max_builders : ℕ
max_builders = 64
