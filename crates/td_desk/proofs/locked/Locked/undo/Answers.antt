-- `Locked::undo`: what its type keeps and the clauses `answer` and `told`.
use Rattle.std.proofs.Common.{◌≡◌, rules, length, None, Ok, Err}
use Rattle.td_book.specs.Undoing.{IsUndone, undo_stop}
use Rattle.td_desk.proofs.Growing.{undo_grown, undo_kept}
use Rattle.td_desk.proofs.Holding.{held_grown, held_kept}
use Rattle.td_desk.proofs.Origins.{undo_origin}
use Rattle.td_desk.proofs.Undoing.{standing_answer}
use Rattle.td_desk.proofs.locked.Locked.undo.Goals as goal

pub invariant_of-self-in-Break-1 : goal.invariant_of-self-in-Break-1
invariant_of-self-in-Break-1 g c =
    let old = c.args.self.now in
    let n = c.args.n in
    let stop : undo_stop old.book.history.journal n ≡ None = search rules in
    let done : IsUndone n old.book c.undo_standing.new.self (Err c.in_err-undo_standing.field-0.0) =
    search rules in
    let is = standing_answer n old.book c.undo_standing.new.self
    (Err c.in_err-undo_standing.field-0.0) stop done in
    let k = undo_kept g.N.Named.opened n c.in_err-undo_standing.field-0.0 old.book
    c.undo_standing.new.self old.held.still is in
    let count : c.len.result ≡ length old.book.history.journal = search rules in
    record {
      held = held_kept old.held count (c.add_ticks.ensures.begun g.N.Named.opened) (search rules)
          (undo_origin (undo_stop old.book.history.journal n) n old.book c.undo_standing.new.self
          (Err c.in_err-undo_standing.field-0.0) is) k;
    }

pub invariant_of-self-2 : goal.invariant_of-self-2
invariant_of-self-2 g c =
    let old = c.args.self.now in
    let n = c.args.n in
    let stop : undo_stop old.book.history.journal n ≡ None = search rules in
    let done : IsUndone n old.book c.undo_standing.new.self (Ok tt) = search rules in
    let is = standing_answer n old.book c.undo_standing.new.self (Ok tt) stop done in
    let k = undo_grown g.N.Named.opened n old.book c.undo_standing.new.self old.held.still is in
    let count : c.len.result ≡ length old.book.history.journal = search rules in
    record {
      held = held_grown old.held count (c.add_ticks.ensures.begun g.N.Named.opened) (search rules)
          (undo_origin (undo_stop old.book.history.journal n) n old.book c.undo_standing.new.self
          (Ok tt) is) k c.add.ensures.total;
    }

pub returns-clause-told : goal.returns-clause-told
returns-clause-told g c =
    let old = c.args.self.now in
    let n = c.args.n in
    let stop : undo_stop old.book.history.journal n ≡ None = search rules in
    let done : IsUndone n old.book c.undo_standing.new.self (Ok tt) = search rules in
    let is = standing_answer n old.book c.undo_standing.new.self (Ok tt) stop done in
    let k = undo_grown g.N.Named.opened n old.book c.undo_standing.new.self old.held.still is in
    (search rules, search rules, k.one)
