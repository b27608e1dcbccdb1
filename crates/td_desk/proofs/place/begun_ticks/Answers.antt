-- One byte more, and none.
use Rattle.std.proofs.Common.{map}
use Rattle.std.proofs.lemmas.List.{nil_from_length}
use Rattle.td_desk.specs.Marks.{marks_in}
use Rattle.td_desk.specs.inner.Ticks.{begun_at}
use Rattle.td_desk.proofs.Reopening.{next_byte, last_byte}
use Rattle.td_desk.proofs.place.begun_ticks.Goals as goal

pub loop-byte-preserved : goal.loop-byte-preserved
loop-byte-preserved c =
    next_byte c.loop-byte.ticks.items c.push_mark.new.ticks.items c.loop-byte.place
    c.behind-place.result c.loop-byte.rest.now c.in-Some.after.now c.in-Some.byte.now
    (map begun_at (marks_in c.args.text.now))
    c.in-Some.ensures.cases.0 c.in_ok-push_mark.ensures c.behind-place.ensures c.loop-byte.invariant

pub returns : goal.returns
returns c =
    last_byte c.loop-byte.ticks.items c.loop-byte.place c.loop-byte.rest.now
    (map begun_at (marks_in c.args.text.now)) (nil_from_length _ c.in_default.ensures.cases)
    c.loop-byte.invariant
