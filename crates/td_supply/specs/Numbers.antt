-- Numbers of items, found by names. This project's own.
use Rattle.std.specs.Prelude.{ℕ, ◌-◌, List, [], length, take}
use Rattle.std.specs.HashMap.{get_by}
use Rattle.std.specs.Option.{option_map_or}
use Rattle.std.specs.Str.{bytes_eq}
use Rattle.td_supply.specs.declared.numbers.Numbers.{Numbers}

-- the numbers under a name, in the order in which they came
abbrev pub numbers_of : Numbers → List ℕ → List ℕ
numbers_of numbers name = option_map_or (λ list. list.items)
    (get_by (λ k. bytes_eq name k.now) numbers.by_name) []

-- a list without its last item, if it has one
abbrev pub but_last : {A : Type 0} → List A → List A
but_last xs = take (length xs - 1) xs
