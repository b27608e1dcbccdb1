-- What settles whether several parts of a query hold. This project's own.
use Rattle.std.specs.Prelude.{Bool, true, false}
use Rattle.td_query.specs.declared.query.Joint.{Joint}
use Rattle.td_query.specs.declared.query.Joint.TheVariants.{And, Or}

-- the answer of a part that settles what the parts with the mark come to
abbrev pub settling : Joint → Bool
settling And = false
settling Or = true
