-- The sources that are found to be built on, by their numbers. This project's own.
use Rattle.std.specs.Prelude.{ℕ, ◌==◌, ◌&&◌, ◌||◌, Bool, List}
use Rattle.std.specs.List.{list_any}
use Rattle.td_relation.specs.Asked.{Asked}
use Rattle.td_waves.specs.declared.asking.Asker.{Asker}
use Rattle.td_waves.specs.declared.providers.Provider.{Provider}
use Rattle.td_waves.specs.BuildsOn.{asked_first, asked_for_arch, fits, some_asked}
use Rattle.td_waves.specs.Named.{is_other}
use Rattle.td_waves.specs.Providers.{under}

-- a number is in a list
abbrev pub has : ℕ → List ℕ → Bool
has t xs = list_any (λ x. x == t) xs

-- a package of the source with the number t, which is another than the one that asks,
-- and the alternative fits
abbrev pub is_base : Asker → ℕ → Asked → Provider → Bool
is_base asker t x p = (is_other asker.names.now.keys asker.name.now p.owner
    && fits asker.archive.now asker.number x p.home) && (p.owner == t)

-- under the name of an alternative a package is found of the source with the number t, which is
-- another than the one that asks, and the alternative fits
abbrev pub is_found : Asker → ℕ → Asked → Bool
is_found asker t x = list_any (is_base asker t x) (under asker.providers.now x.name)

-- a package of the source with the number t, another than the one that asks, is found under the
-- name of some fitting alternative of the asking source's build
abbrev pub finds : Asker → ℕ → Bool
finds asker t = some_asked (is_found asker t) (asked_first asker.archive.now asker.number)
    || some_asked (is_found asker t) (asked_for_arch asker.archive.now asker.number)
