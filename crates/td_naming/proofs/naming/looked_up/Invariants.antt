-- What the loop of `looked_up` keeps.
use Rattle.std.proofs.Common.{◌&&◌, [], take}
use Rattle.std.specs.Prelude.{string_bytes}
use Rattle.std.specs.List.{list_any}
use Rattle.std.specs.Str.{bytes_eq}
use Rattle.td_naming.specs.Naming.{Adds, keys_at}
use Rattle.td_naming.proofs.naming.looked_up.Given as goal

abbrev pub invariant-loop-package : goal.invariant-loop-package
invariant-loop-package l =
    Adds l.rows [] (keys_at l.rows l.numbers.items)
    (λ k. list_any (λ p. bytes_eq (string_bytes p.source) k.source)
    (take l.package-index l.packages) && list_any (λ a. bytes_eq a.now k.arch) l.archs)
