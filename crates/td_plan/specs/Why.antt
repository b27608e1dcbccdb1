-- Why a source stands where it does: on which affected sources it builds, and by which package.
-- This project's own.
use Rattle.std.specs.Prelude.{ℕ, ◌&&◌, Bool, List, [], ◌∷◌, ◌++◌, Option, codes, filter, length}
use Rattle.std.specs.Prelude.{map}
use Rattle.std.specs.List.{join_by, list_any, range_with_len}
use Rattle.std.specs.Option.{option_map_or}
use Rattle.td_indices.specs.Archive.{Contents, is_of}
use Rattle.td_indices.specs.Kept.{KeptBinary}
use Rattle.td_indices.specs.Sources.{KeptSource}
use Rattle.td_waves.specs.BuildsOn.{builds_on}
use Rattle.td_plan.specs.BuildsThere.{asks_there}
use Rattle.td_plan.specs.InOrder.{first_where}
use Rattle.td_plan.specs.Packages.{package_name}

-- on some architecture, the package is a package of t for which the build of s asks
abbrev pub asks_somewhere : Contents → KeptSource → KeptSource → KeptBinary → Bool
asks_somewhere a s t b = is_of t.head.name b
    && list_any (λ place. asks_there a s place b) (range_with_len 0 (length a.table))

-- the package by which s builds on t: the first in byte order for which it asks anywhere
abbrev pub base_package : Contents → KeptSource → KeptSource → Option KeptBinary
base_package a s t = first_where package_name (asks_somewhere a s t) a.binaries

-- `SOURCE PACKAGE` for a source t on which s builds
abbrev pub reason_text : Contents → KeptSource → KeptSource → List ℕ
reason_text a s t = t.head.name ++ 32 ∷ option_map_or package_name (base_package a s t) []

-- the sources among some on which s builds
abbrev pub bases_among : Contents → List KeptSource → KeptSource → List KeptSource
bases_among a sources s = filter (λ t. builds_on a s.head.name t.head.name) sources

-- a name alone if there are no reasons, else `NAME: REASON, REASON`
abbrev pub with_reasons : List ℕ → List (List ℕ) → List ℕ
with_reasons name [] = name
with_reasons name (first ∷ more) =
    name ++ (codes ": " ++ join_by (λ text. text) (codes ", ") (first ∷ more))

-- a source, and on which of some sources it builds, in their order
abbrev pub why_line : Contents → List KeptSource → KeptSource → List ℕ
why_line a sources s =
    with_reasons s.head.name (map (reason_text a s) (bases_among a sources s))
