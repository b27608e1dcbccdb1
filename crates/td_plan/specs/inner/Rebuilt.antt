-- The version of a rebuild where it lies in memory.
use Rattle.std.specs.Prelude.{ℕ, List, Bool}
use Rattle.td_version.specs.Version.{parts_of}
use Rattle.td_plan.specs.declared.versions.Rebuilt.{Rebuilt}
use Rattle.td_plan.specs.Packages as packages

-- how the version of a rebuild is written
abbrev pub text_of : Rebuilt → List ℕ
text_of r = packages.rebuilt_text (parts_of r.base) r.number

-- whether the version of a rebuild can be written
abbrev pub is_written : Rebuilt → Bool
is_written r = packages.is_written (parts_of r.base) r.number
