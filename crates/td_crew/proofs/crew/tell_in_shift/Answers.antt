-- Each builder who is missing is a refusal, and there are no more of them than seats.
use Rattle.std.proofs.Common.{ap, arith}
use Rattle.std.specs.Prelude.{string_bytes}
use Rattle.td_crew.proofs.crew.tell_in_shift.Goals as goal

pub returns-in-Ok-clause-told : goal.returns-in-Ok-clause-told
returns-in-Ok-clause-told g c = record {
  lines = c.in-Ok.told.told;
  are = c.in-Ok.ensures.told;
  text_is = ap string_bytes c.miss.ensures.text;
  few = omega arith;
  home = λ some. c.miss.ensures.home (omega arith);
  refused_is = omega arith;
}
