-- `Locked::start`: what its type keeps.
use Rattle.std.proofs.Common.{◌≡◌, rules, length}
use Rattle.td_desk.proofs.Growing.{start_kept}
use Rattle.td_desk.proofs.Holding.{held_kept}
use Rattle.td_desk.proofs.Origins.{start_origin}
use Rattle.td_desk.proofs.locked.Locked.start.Goals as goal

pub invariant_of-self-2 : goal.invariant_of-self-2
invariant_of-self-2 g c =
    let old = c.args.self.now in
    let k = start_kept g.N.Named.opened c.args.seat.now.builder.number c.args.seat.now.builder.hand
    old.book c.start.new.self c.start.result old.held.still c.start.ensures in
    let count : c.len.result ≡ length old.book.history.journal = search rules in
    record {
      held = held_kept old.held count (c.add_ticks.ensures.begun g.N.Named.opened) (search rules)
          (start_origin c.args.seat.now.builder.number c.args.seat.now.builder.hand old.book
          c.start.new.self c.start.result c.start.ensures) k;
    }
