-- The tick of a mark.
use Rattle.td_desk.proofs.Reopening.{begun_mark}
use Rattle.td_desk.proofs.place.tick_of.Goals as goal

pub returns : goal.returns
returns c = begun_mark c.args.byte
