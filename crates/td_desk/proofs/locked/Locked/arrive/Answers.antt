-- `Locked::arrive`: what its type keeps and the clause `told`.
use Rattle.std.proofs.Common.{◌≡◌, rules, length, Ok, Err}
use Rattle.td_book.specs.Arriving.{ArriveOutcome}
use Rattle.td_desk.proofs.Growing.{arrive_grown, arrive_kept}
use Rattle.td_desk.proofs.Holding.{held_grown, held_kept}
use Rattle.td_desk.proofs.Origins.{arrive_origin}
use Rattle.td_desk.proofs.locked.Locked.arrive.Goals as goal

pub invariant_of-self-in-Break-1 : goal.invariant_of-self-in-Break-1
invariant_of-self-in-Break-1 g c =
    let old = c.args.self.now in
    let done : ArriveOutcome c.args.key.now old.book c.arrive.new.self (Err c.in_err-n.field-0.0) =
    search rules in
    let k =
    arrive_kept g.N.Named.opened c.args.key.now c.in_err-n.field-0.0 old.book c.arrive.new.self
    old.held.still done in
    let count : c.len.result ≡ length old.book.history.journal = search rules in
    record {
      held = held_kept old.held count (c.add_ticks.ensures.begun g.N.Named.opened) (search rules)
          (arrive_origin c.args.key.now old.book c.arrive.new.self (Err c.in_err-n.field-0.0) done)
          k;
    }

pub invariant_of-self-2 : goal.invariant_of-self-2
invariant_of-self-2 g c =
    let old = c.args.self.now in
    let done : ArriveOutcome c.args.key.now old.book c.arrive.new.self (Ok c.in_ok-n.n) =
    search rules in
    let k = arrive_grown g.N.Named.opened c.args.key.now c.in_ok-n.n old.book c.arrive.new.self
    old.held.still done in
    let count : c.len.result ≡ length old.book.history.journal = search rules in
    record {
      held = held_grown old.held count (c.add_ticks.ensures.begun g.N.Named.opened) (search rules)
          (arrive_origin c.args.key.now old.book c.arrive.new.self (Ok c.in_ok-n.n) done) k
          c.add.ensures.total;
    }

pub returns-clause-told : goal.returns-clause-told
returns-clause-told g c =
    let old = c.args.self.now in
    let done : ArriveOutcome c.args.key.now old.book c.arrive.new.self (Ok c.in_ok-n.n) =
    search rules in
    let k = arrive_grown g.N.Named.opened c.args.key.now c.in_ok-n.n old.book c.arrive.new.self
    old.held.still done in
    (search rules, search rules, k.one)
