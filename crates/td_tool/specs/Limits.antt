-- How much is read, in bytes. This project's own.
use Rattle.std.specs.Prelude.{ℕ}

-- the most bytes of standard input, 1 MiB
abbrev pub input_limit : ℕ
input_limit = 1048576

-- the most bytes of a file, 1 GiB
abbrev pub file_limit : ℕ
file_limit = 1073741824
