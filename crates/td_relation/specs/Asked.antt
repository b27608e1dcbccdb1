-- What an alternative of a relation asks, without where its texts lie in memory. Policy 7.1.
use Rattle.std.specs.Prelude.{ℕ, Bool, List, Option, option_map}
use Rattle.td_version.specs.Version.{Parts, parts_of}
use Rattle.td_relation.specs.declared.relation.Operator.{Operator}
use Rattle.td_relation.specs.declared.relation.Restriction.{Restriction}
use Rattle.td_relation.specs.declared.relation.Alternative.{Alternative}
use Rattle.td_relation.specs.ArchList.{words}

-- an operator and a version: `(>= 1.2)`
pub record Bound : Type 0 where
  pub operator : Operator
  pub version : Parts

-- a name, a restriction of the version, the words of an architecture list, and whether the build
-- profile lists hold where no profile is active
pub record Asked : Type 0 where
  pub name : List ℕ
  pub restriction : Option Bound
  pub archs : Option (List (List ℕ))
  pub unprofiled : Bool

-- what a `Restriction` holds
abbrev pub restriction_of : Restriction → Bound
restriction_of r = record { operator = r.operator; version = parts_of r.version }

-- what an `Alternative` holds
abbrev pub asked : Alternative → Asked
asked a = record {
  name = a.name.now;
  restriction = option_map restriction_of a.restriction;
  archs = option_map (λ text. words text.now) a.archs;
  unprofiled = a.unprofiled;
}
