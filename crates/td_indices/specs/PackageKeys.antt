-- What a binary package is found by: its name and where it is. This project's own.
use Rattle.std.specs.Prelude.{ℕ, Bool, Option, ◌&&◌}
use Rattle.std.specs.Bool.{◌==◌}
use Rattle.std.specs.Option.{option_eq}
use Rattle.std.specs.Str.{bytes_eq}
use Rattle.td_indices.specs.declared.packaged.PackageKey.{PackageKey}

-- two places, or `all` twice
abbrev pub same_home : Option ℕ → Option ℕ → Bool
same_home a b = option_eq ◌==◌ a b

-- two keys have one name and one place
abbrev pub same_key : PackageKey → PackageKey → Bool
same_key a b = bytes_eq a.name.now b.name.now && same_home a.arch b.arch
