-- How much is read, in bytes. This project's own.
use Rattle.std.specs.Prelude.{ℕ}

-- the most bytes of a script, 1 MiB
abbrev pub script_limit : ℕ
script_limit = 1048576
