-- What is on offer: the binary packages of an index, and the names that they provide.
-- This project's own.
use Rattle.std.specs.Prelude.{ℕ, ◌&&◌, Bool, false, List, Option, Some, None, unwrap_or, option_map}
use Rattle.std.specs.Option.{option_map_or}
use Rattle.std.specs.Str.{bytes_eq}
use Rattle.td_version.specs.Rebuild.{rebuild_text}
use Rattle.td_version.specs.Version.{Parts}
use Rattle.td_relation.specs.Arch.{ArchWords}
use Rattle.td_relation.specs.Table.{place_of}
use Rattle.td_supply.specs.Places.{is_place}

-- whose rebuild an offer is: a binary package of this source, which a rebuild offers at this
-- version with its number after it
pub record Built : Type 0 where
  pub source : List ℕ
  pub base : Parts

-- an offer as the index has it: its name, a version if it has one,
-- the place of its architecture in the table unless it is of `all`, and whose rebuild it may be
pub record Supplied : Type 0 where
  pub name : List ℕ
  pub version : Option Parts
  pub arch : Option ℕ
  pub build : Option Built

-- an offer, and the version of the rebuild that has arrived, if one has
pub record Item : Type 0 where
  pub offer : Supplied
  pub rebuilt : Option Parts

-- an offer of which no rebuild has arrived
abbrev pub fresh : Supplied → Item
fresh o = record { offer = o; rebuilt = None }

-- the last part that is written: the revision, or the upstream part where there is none
abbrev pub last_part : Parts → List ℕ
last_part p = unwrap_or p.revision p.upstream

-- the version with another last part
abbrev pub with_last_part : Parts → List ℕ → Parts
with_last_part p text = option_map_or (λ r. record p { revision = Some text }) p.revision
    (record p { upstream = text })

-- the version with `+bN` after it (N at least 1), and the version itself for 0
abbrev pub with_rebuild : Parts → ℕ → Parts
with_rebuild p n = with_last_part p (rebuild_text (last_part p) n)

-- whether an offer is a binary package of the source
abbrev pub is_of : List ℕ → Supplied → Bool
is_of source o = option_map_or (λ b. bytes_eq source b.source) o.build false

-- whether it is of exactly the architecture with this name;
-- one that isn't in the table has none, and an offer of `all` is of no architecture exactly
abbrev pub is_at : List ArchWords → List ℕ → Supplied → Bool
is_at table arch o = option_map_or (λ place. is_place place (place_of table arch)) o.arch false

-- whether an offer is a binary package of the source on exactly the architecture with this name
abbrev pub is_built_by : List ArchWords → List ℕ → List ℕ → Supplied → Bool
is_built_by table source arch o = is_of source o && is_at table arch o

-- the version that a rebuild with the number offers, if the offer is a build
abbrev pub rebuild_of : ℕ → Supplied → Option Parts
rebuild_of n o = option_map (λ b. with_rebuild b.base n) o.build
