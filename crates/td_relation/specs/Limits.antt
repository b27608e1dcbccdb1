-- The limit of a table of architectures. This project's own.
use Rattle.std.specs.Prelude.{ℕ}

-- the most architectures that a table has
abbrev pub max_archs : ℕ
max_archs = 32
