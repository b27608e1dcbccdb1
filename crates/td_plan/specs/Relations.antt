-- What a row is told to wait for, as a relation (Debian Policy 7.1).
use Rattle.std.specs.Prelude.{ℕ, List, [], ◌∷◌, Some, None, map}
use Rattle.td_relation.specs.RelationWriting.{WrittenAlternative, relation_text}
use Rattle.td_relation.specs.declared.relation.Operator.TheVariants.{LaterOrEqual}
use Rattle.td_plan.specs.Waits.{Wait}

-- a wait as a member of a relation: `PACKAGE (>= VERSION)`
abbrev pub member_of : Wait → List WrittenAlternative
member_of w = record {
  name = w.name;
  qualifier = None;
  bound = Some (record { operator = LaterOrEqual; version = w.version; parts = w.parts });
  archs = None;
  profiles = [];
} ∷ []

-- several waits as a relation
abbrev pub relation_of : List Wait → List ℕ
relation_of waits = relation_text (map member_of waits)
