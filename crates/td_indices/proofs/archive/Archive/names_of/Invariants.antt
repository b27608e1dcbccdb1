-- What the loop of `Archive::names_of` keeps.
use Rattle.std.proofs.Common.{◌≡◌, Some, map, take}
use Rattle.td_indices.specs.Choosing.{chosen}
use Rattle.td_indices.proofs.archive.Archive.names_of.Given as goal

-- the names of those of the first sources
abbrev pub invariant-loop-number : goal.invariant-loop-number
invariant-loop-number l = map (λ name. name.now) l.names.items
    ≡ map (λ s. s.head.name) (chosen (Some l.flags) (take l.number l.self.sources))
