-- The limits of a board. This project's own.
use Rattle.std.specs.Prelude.{ℕ}

-- the most rows that a board has
abbrev pub max_rows : ℕ
max_rows = 1048576

-- the most builders that a board is made for
abbrev pub max_builders : ℕ
max_builders = 64
