-- `Locked::sweep`: what its type keeps and the clause `told`.
use Rattle.std.proofs.Common.{◌≡◌, rules, length}
use Rattle.std.specs.Prelude.{Some, None, Ok, Err}
use Rattle.td_book.specs.Arriving.{SweepOutcome}
use Rattle.td_desk.proofs.Growing.{sweep_grown, sweep_kept, sweep_none}
use Rattle.td_desk.proofs.Holding.{held_grown, held_kept}
use Rattle.td_desk.proofs.Origins.{sweep_origin}
use Rattle.td_desk.proofs.locked.Locked.sweep.Goals as goal

pub invariant_of-self-in-Break-branch-2 : goal.invariant_of-self-in-Break-branch-2
invariant_of-self-in-Break-branch-2 g c =
    let old = c.args.self.now in
    let done : SweepOutcome old.book c.sweep.new.self (Err c.in_err-n.field-0.0) = search rules in
    let k = sweep_kept g.N.Named.opened _ old.book c.sweep.new.self old.held.still done in
    let count : c.len.result ≡ length old.book.history.journal = search rules in
    record {
      held = held_kept old.held count (c.add_ticks.ensures.begun g.N.Named.opened) (search rules)
          (sweep_origin old.book c.sweep.new.self (Err c.in_err-n.field-0.0) done) k;
    }

pub invariant_of-self-in_default : goal.invariant_of-self-in_default
invariant_of-self-in_default g c =
    let old = c.args.self.now in
    let done : SweepOutcome old.book c.sweep.new.self (Ok None) = search rules in
    let k = sweep_none g.N.Named.opened old.book c.sweep.new.self old.held.still done in
    let count : c.len.result ≡ length old.book.history.journal = search rules in
    record {
      held = held_kept old.held count (c.add_ticks.ensures.begun g.N.Named.opened) (search rules)
          (sweep_origin old.book c.sweep.new.self (Ok None) done) k;
    }

pub invariant_of-self-2 : goal.invariant_of-self-2
invariant_of-self-2 g c =
    let old = c.args.self.now in
    let done : SweepOutcome old.book c.sweep.new.self (Ok (Some c.in-Some.n)) = search rules in
    let k = sweep_grown g.N.Named.opened c.in-Some.n old.book c.sweep.new.self old.held.still
    done in
    let count : c.len.result ≡ length old.book.history.journal = search rules in
    record {
      held = held_grown old.held count (c.add_ticks.ensures.begun g.N.Named.opened) (search rules)
          (sweep_origin old.book c.sweep.new.self (Ok (Some c.in-Some.n)) done) k
          c.add.ensures.total;
    }

pub returns-clause-told : goal.returns-clause-told
returns-clause-told g c =
    let old = c.args.self.now in
    let done : SweepOutcome old.book c.sweep.new.self (Ok (Some c.in-Some.n)) = search rules in
    let k = sweep_grown g.N.Named.opened c.in-Some.n old.book c.sweep.new.self old.held.still
    done in
    (search rules, search rules, k.one)
