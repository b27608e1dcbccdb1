-- `Inlet::next`: a line is told of, the input ends, or a piece more is read.
use Rattle.std.proofs.Common.{◌∙◌, refl, subst, arith, sym}
use Rattle.std.specs.Io.KnownBytes.{Consumes}
use Rattle.td_lasting.specs.inner.Inlets.{TellsWhole}
use Rattle.td_lasting.proofs.Inlets.{dropped_line, drops_on, left_first, line_told, nothing_read}
use Rattle.td_lasting.proofs.Inlets.{still_dropped}
use Rattle.td_lasting.proofs.Inlets.{still_kept, still_read, still_waits, told_end, told_next}
use Rattle.td_lasting.proofs.Inlets.{waits_first, waits_now}
use Rattle.td_lasting.proofs.framing.Inlet.next.Goals as goal

pub returns-in-Some-clause-tells : goal.returns-in-Some-clause-tells
returns-in-Some-clause-tells g c =
    told_next c.args.self.now c.loop.self c.next_whole.new.self
    (g.R.Turns.left c.args.reader.now) (g.R.Turns.left c.loop.reader) c.in-Some.framed
    (subst (TellsWhole c.loop.self c.next_whole.new.self) c.in-Some.is
    c.in_ok-framed.ensures.told) c.loop.invariant.left

pub returns-in-Some-clause-line : goal.returns-in-Some-clause-line
returns-in-Some-clause-line g c =
    line_told c.loop.self c.next_whole.new.self c.in-Some.framed
    (subst (TellsWhole c.loop.self c.next_whole.new.self) c.in-Some.is
    c.in_ok-framed.ensures.told)

pub returns-then-count-eq0-clause-tells : goal.returns-then-count-eq0-clause-tells
returns-then-count-eq0-clause-tells g c =
    let before = g.R.Turns.left c.args.reader.now in
    let now = g.R.Turns.left c.loop.reader in
    let later = g.R.Turns.left c.read_in_turn.new.self in
    let none = subst (TellsWhole c.loop.self c.next_whole.new.self) c.in_default.is
    c.in_ok-framed.ensures.told in
    told_end c.args.self.now c.drop_told.new.self c.last.new.self before later c.last.result
    (dropped_line c.loop.self c.next_whole.new.self c.drop_told.new.self none
    c.in_ok-drop_told.ensures)
    c.last.ensures (c.in_ok-count.ensures.end c.if-count-eq0.true c.loop.invariant.room)
    (still_kept c.args.self.now c.drop_told.new.self before now later
    (nothing_read c.in_ok-count.count c.read_in_turn.new.buffer now later c.if-count-eq0.true
    c.in_ok-count.ensures.ok)
    (still_dropped c.args.self.now c.loop.self c.drop_told.new.self before now none.1
    (drops_on c.loop.self c.next_whole.new.self c.drop_told.new.self none.0
    c.in_ok-drop_told.ensures) c.loop.invariant.left))

pub loop-init : goal.loop-init
loop-init g c =
    record {
      left = left_first c.args.self.now (g.R.Turns.left c.args.reader.now);
      waits = waits_first c.args.self.now (g.R.Turns.left c.args.reader.now);
      steady = refl;
      room = c.requires.room;
    }

pub read_in_turn-requires : goal.read_in_turn-requires
read_in_turn-requires g c =
    let none = subst (TellsWhole c.loop.self c.next_whole.new.self) c.in_default.is
    c.in_ok-framed.ensures.told in
    record {
      turn = c.requires.turn c.loop.reader
          (waits_now c.args.self.now c.loop.self (g.R.Turns.left c.args.reader.now)
          (g.R.Turns.left c.loop.reader) none.1 c.loop.invariant.waits);
    }

pub loop-preserved : goal.loop-preserved
loop-preserved g c =
    let before = g.R.Turns.left c.args.reader.now in
    let now = g.R.Turns.left c.loop.reader in
    let later = g.R.Turns.left c.read_in_turn.new.self in
    let none = subst (TellsWhole c.loop.self c.next_whole.new.self) c.in_default.is
    c.in_ok-framed.ensures.told in
    record {
      left =
          still_read c.args.self.now c.drop_told.new.self c.add.new.self before now later
          c.split_at.result.0.now c.in_ok-add.ensures.0 c.in_ok-add.ensures.1
          (subst (Consumes now later) (sym c.split_at.ensures.front) c.in_ok-count.ensures.ok)
          (still_dropped c.args.self.now c.loop.self c.drop_told.new.self before now none.1
          (drops_on c.loop.self c.next_whole.new.self c.drop_told.new.self none.0
          c.in_ok-drop_told.ensures) c.loop.invariant.left);
      waits =
          still_waits c.args.self.now c.loop.self c.add.new.self before now later
          c.drop_told.new.self.ahead c.split_at.result.0.now none.1 c.in_ok-add.ensures.0
          (subst (Consumes now later) (sym c.split_at.ensures.front) c.in_ok-count.ensures.ok)
          c.loop.invariant.waits;
      steady = c.in_ok-count.ensures.steady ∙ c.loop.invariant.steady;
      room = omega arith;
    }
