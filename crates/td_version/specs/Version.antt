-- A version by its parts, without where its texts lie in memory.
use Rattle.std.specs.Prelude.{ℕ, List, Option, option_map}
use Rattle.td_version.specs.declared.version.Version.{Version}

-- the epoch's number, the upstream part, and the revision where one is written (deb-version(7))
pub record Parts : Type 0 where
  pub epoch : ℕ
  pub upstream : List ℕ
  pub revision : Option (List ℕ)

-- the parts that a `Version` holds
abbrev pub parts_of : Version → Parts
parts_of v = record {
  epoch = v.epoch;
  upstream = v.upstream.now;
  revision = option_map (λ r. r.now) v.revision;
}
