-- What the loop of `push_on_each` keeps.
use Rattle.std.proofs.Common.{◌&&◌, take}
use Rattle.std.specs.List.{list_any}
use Rattle.std.specs.Str.{bytes_eq}
use Rattle.td_naming.specs.Naming.{Adds, keys_at}
use Rattle.td_naming.proofs.naming.push_on_each.Given as goal

abbrev pub invariant-loop-arch : goal.invariant-loop-arch
invariant-loop-arch l =
    Adds l.rows (keys_at l.rows l.fn.numbers.items) (keys_at l.rows l.numbers.items)
    (λ k. bytes_eq l.source k.source
    && list_any (λ a. bytes_eq a.now k.arch) (take l.arch-index l.archs))
