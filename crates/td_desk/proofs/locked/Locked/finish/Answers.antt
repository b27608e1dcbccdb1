-- `Locked::finish`: what its type keeps.
use Rattle.std.proofs.Common.{◌≡◌, rules, length}
use Rattle.td_desk.proofs.Growing.{finish_kept}
use Rattle.td_desk.proofs.Holding.{held_kept}
use Rattle.td_desk.proofs.Origins.{finish_origin}
use Rattle.td_desk.proofs.locked.Locked.finish.Goals as goal

pub invariant_of-self-2 : goal.invariant_of-self-2
invariant_of-self-2 g c =
    let old = c.args.self.now in
    let v = c.args.seat.now.builder in
    let k = finish_kept g.N.Named.opened v.hand c.args.outcome v c.finish.new.seat.builder old.book
    c.finish.new.self c.finish.result old.held.still c.finish.ensures.outcome in
    let count : c.len.result ≡ length old.book.history.journal = search rules in
    record {
      held = held_kept old.held count (c.add_ticks.ensures.begun g.N.Named.opened) (search rules)
          (finish_origin v.hand c.args.outcome v c.finish.new.seat.builder old.book
          c.finish.new.self c.finish.result c.finish.ensures.outcome) k;
    }
