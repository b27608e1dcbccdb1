-- Offers by their names. Policy 7.5.
use Rattle.std.specs.Prelude.{ℕ, List, [], Option, map, option_map}
use Rattle.std.specs.Option.{option_map_or}
use Rattle.std.specs.HashMap.{get_by}
use Rattle.std.specs.Str.{bytes_eq}
use Rattle.td_version.specs.Version.{Parts, parts_of}
use Rattle.td_relation.specs.declared.offers.Offer.{Offer}
use Rattle.td_relation.specs.declared.offers.Offers.{Offers}

-- a version, if it has one, and the place of its architecture in the table, if it isn't of `all`
pub record Offered : Type 0 where
  pub version : Option Parts
  pub arch : Option ℕ

-- what an `Offer` holds
abbrev pub offered : Offer → Offered
offered o = record { version = option_map parts_of o.version; arch = o.arch }

-- the offers of a name, in the order in which they came
abbrev pub offers_of : Offers → List ℕ → List Offered
offers_of offers name = option_map_or (λ list. map offered list.items)
    (get_by (λ k. bytes_eq name k.now) offers.by_name) []
