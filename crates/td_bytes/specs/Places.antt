-- Where bytes that are read at a place stand. This project's own.
use Rattle.std.specs.Prelude.{ℕ, List, Option, drop, option_map}

-- the known bytes from a place on
abbrev pub bytes_behind : Option (List ℕ) → ℕ → Option (List ℕ)
bytes_behind known place = option_map (drop place) known
