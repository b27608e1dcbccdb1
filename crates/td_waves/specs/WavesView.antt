-- What a `Waves` says of each source. This project's own.
use Rattle.std.specs.Prelude.{ℕ, List, Option}
use Rattle.td_waves.specs.declared.level.Level.{Level}
use Rattle.td_waves.specs.declared.waves.Waves.{Waves}
use Rattle.td_waves.specs.Waves.{level_among}

-- the level of a source
abbrev pub level_of : Waves → List ℕ → Option Level
level_of w source = level_among w.names.keys w.levels source

-- how many levels there are
abbrev pub depth_of : Waves → ℕ
depth_of w = w.levels.depth
