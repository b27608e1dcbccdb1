-- What a supply holds, without where its texts lie in memory. This project's own.
use Rattle.std.specs.Prelude.{ℕ, Bool, List, map, option_map}
use Rattle.std.specs.Borrow.{Bor}
use Rattle.std.specs.String.{string_bytes}
use Rattle.td_version.specs.Version.{Parts, parts_of}
use Rattle.td_supply.specs.declared.stocked.Build.{Build}
use Rattle.td_supply.specs.declared.stocked.Rebuilt.{Rebuilt}
use Rattle.td_supply.specs.declared.stocked.Stocked.{Stocked}
use Rattle.td_supply.specs.Supplied.{Built, Supplied, Item, is_of, with_last_part}
use Rattle.td_supply.specs.Supply.{is_named}

-- what a `Build` holds
abbrev pub built : Build → Built
built b = record { source = b.source.now; base = parts_of b.base }

-- the version of a rebuild that has arrived
abbrev pub rebuilt_parts : Rebuilt → Parts
rebuilt_parts r = with_last_part (parts_of r.base) (string_bytes r.last)

-- an offer as the index has it
abbrev pub supplied : Stocked → Supplied
supplied s = record {
  name = s.name.now;
  version = option_map parts_of s.version;
  arch = s.arch;
  build = option_map built s.build;
}

-- an offer as the index has it, with what has arrived
abbrev pub item : Stocked → Item
item s = record { offer = supplied s; rebuilt = option_map rebuilt_parts s.rebuilt }

-- whether an offer is under a name
abbrev pub is_under : List ℕ → Stocked → Bool
is_under name s = is_named name (item s)

-- whether it is a binary package of a source
abbrev pub is_by : List ℕ → Stocked → Bool
is_by source s = is_of source (supplied s)

-- the sources with their versions
abbrev pub sources_of : List (Bor (List ℕ) × Bor (List ℕ)) → List (List ℕ × List ℕ)
sources_of entries = map (λ p. (p.0.now, p.1.now)) entries

-- a number with a rebuild's version
abbrev pub rebuilt_at : ℕ × Rebuilt → ℕ × Parts
rebuilt_at p = (p.0, rebuilt_parts p.1)
