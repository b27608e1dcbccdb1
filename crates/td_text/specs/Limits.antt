-- The limit of the numbers that versions, rows and commands have in common. This project's own.
use Rattle.std.specs.Prelude.{ℕ}

-- the largest rebuild number, the `9999` of `+b9999`
abbrev pub max_rebuild : ℕ
max_rebuild = 9999
