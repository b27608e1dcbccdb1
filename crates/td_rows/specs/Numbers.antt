-- Rebuild numbers. This project's own, except `+bN`, the binary NMU versions of deb-version(7).
use Rattle.std.specs.Prelude.{ℕ, ◌+◌, Option, Some, None}

-- the number of a rebuild: the one that is asked for, or the next
abbrev pub number_after : Option ℕ → ℕ → ℕ
number_after None old = old + 1
number_after (Some n) old = n
